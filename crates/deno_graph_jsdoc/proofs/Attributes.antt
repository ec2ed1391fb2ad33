-- The results of the parsers of attributes.
use Rattle.std.proofs.Common.{◌≡◌, ℕ, inl, inr, true, false, Option, Some, None, List, [], ◌∷◌, ◌++◌, refl}
use Rattle.std.proofs.Common.{sym, ap, ◌∙◌, subst, codes, option_map, arith}
use Rattle.std.proofs.lemmas.Bool.{both_ways, or_left}
use Rattle.std.specs.Char.{is_whitespace}
use Rattle.std.specs.Char.Unicode.Alphabetic.{is_alphabetic}
use Rattle.std.specs.Str.{skip_leading_whitespace}
use Rattle.deno_graph_jsdoc.specs.Characters.{double_quote, apostrophe, closing_brace}
use Rattle.deno_graph_jsdoc.specs.JsDocGrammar.{◌·◌, Is, IsSpace, IsQuote, IsIdent, IsKey, IsAttribute}
use Rattle.deno_graph_jsdoc.specs.JsDocGrammar.{Begins, Anything, NoSpace}
use Rattle.deno_graph_jsdoc.specs.internal.Reading.{EndOfIdent, Reads}
use Rattle.deno_graph_jsdoc.proofs.Alphabetic.{double_quote_no_letter, apostrophe_no_letter}
use Rattle.deno_graph_jsdoc.proofs.Alphabetic.{closing_brace_no_letter}
use Rattle.deno_graph_jsdoc.proofs.Readings.{Begins-split, IsSolid, IsSolid-word, both_none, both_then}
use Rattle.deno_graph_jsdoc.proofs.Readings.{space_then, lexeme_none, lexeme_then}

-- the first character of a quoted text, and of an identifier
begins_quoted : (inside text rest : List ℕ) → IsQuote inside text → (c : ℕ) × (cs : List ℕ)
    × (text ++ rest ≡ c ∷ cs) × (is_alphabetic c ≡ false) × (is_whitespace c ≡ false)
begins_quoted inside text rest (inl (_, is)) = (
  double_quote,
  (inside ++ double_quote ∷ []) ++ rest,
  ap (λ t. t ++ rest) is,
  double_quote_no_letter,
  refl,
)
begins_quoted inside text rest (inr (_, is)) =
    (apostrophe, (inside ++ apostrophe ∷ []) ++ rest, ap (λ t. t ++ rest) is, apostrophe_no_letter, refl)

pub begins_alphabetic : (text rest : List ℕ) → IsIdent text → (c : ℕ) × (cs : List ℕ)
    × (text ++ rest ≡ c ∷ cs) × (is_alphabetic c ≡ true)
begins_alphabetic [] rest is = absurd is
begins_alphabetic (c ∷ cs) rest is = (c, cs ++ rest, refl, is.0)

pub apart : (inside : List ℕ) {input rest after : List ℕ} → Begins (IsQuote inside) input rest
    → Begins IsIdent input after → ⊥
apart inside {input} {rest} {after} quoted named =
    let quote = begins_quoted inside quoted.piece rest quoted.is in
    let ident = begins_alphabetic named.piece after named.is in
    let same : quote.0 ∷ quote.1 ≡ ident.0 ∷ ident.1 =
    sym quote.2 ∙ sym quoted.whole ∙ named.whole ∙ ident.2 in
    let first : quote.0 ≡ ident.0 = cc in
    both_ways (is_alphabetic quote.0) quote.3 (subst (λ c. is_alphabetic c ≡ true) (sym first) ident.3)

pub IsSolid-quote : (inside text : List ℕ) → IsQuote inside text → IsSolid text
IsSolid-quote inside text (inl (_, is)) = subst IsSolid (sym is) refl
IsSolid-quote inside text (inr (_, is)) = subst IsSolid (sym is) refl

-- no key begins with a closing brace
pub key_no_brace : (key text rest cs : List ℕ) → IsKey key text → text ++ rest ≡ closing_brace ∷ cs → ⊥
key_no_brace key text rest cs (inl (inl (_, is))) whole =
    let same : double_quote ∷ ((key ++ double_quote ∷ []) ++ rest) ≡ closing_brace ∷ cs =
    sym (ap (λ t. t ++ rest) is) ∙ whole in
    let heads : ◌≡◌ {A = ℕ} 34 125 = cc in
    omega (arith, heads)
key_no_brace key text rest cs (inl (inr (_, is))) whole =
    let same : apostrophe ∷ ((key ++ apostrophe ∷ []) ++ rest) ≡ closing_brace ∷ cs =
    sym (ap (λ t. t ++ rest) is) ∙ whole in
    let heads : ◌≡◌ {A = ℕ} 39 125 = cc in
    omega (arith, heads)
key_no_brace key text rest cs (inr (is, _)) whole =
    let ident = begins_alphabetic text rest is in
    let same : ident.0 ∷ ident.1 ≡ closing_brace ∷ cs = sym ident.2 ∙ whole in
    let heads : ident.0 ≡ 125 = cc in
    both_ways (is_alphabetic closing_brace) closing_brace_no_letter
    (subst (λ c. is_alphabetic c ≡ true) heads ident.3)

-- a key: a quoted text or an identifier
pub key_quoted : (input rest inside : List ℕ) → Reads Anything IsQuote input (Some (rest, inside))
    → Reads EndOfIdent IsKey input (Some (rest, inside))
key_quoted input rest inside found = (
  record { piece = found.0.piece; whole = found.0.whole; is = inl found.0.is },
  λ other after end b. elim b.is [
    | inl is ↦ found.1 other after tt (record { piece = b.piece; whole = b.whole; is = is })
    | inr is ↦ absurd (apart inside found.0 (record { piece = b.piece; whole = b.whole; is = is.0 }))
  ],
)

pub key_named : (input : List ℕ) (o : Option (List ℕ × List ℕ)) → Reads Anything IsQuote input None
    → Reads EndOfIdent (λ name text. IsIdent text × (name ≡ text)) input o → Reads EndOfIdent IsKey input o
key_named input None no_quote none = λ key rest end b. elim b.is [
  | inl is ↦ no_quote key rest tt (record { piece = b.piece; whole = b.whole; is = is })
  | inr is ↦ none key rest end (record { piece = b.piece; whole = b.whole; is = is })
]
key_named input (Some x) no_quote found = (
  record { piece = found.0.piece; whole = found.0.whole; is = inr found.0.is },
  λ other after end b. elim b.is [
    | inl is ↦ absurd (no_quote other after tt (record { piece = b.piece; whole = b.whole; is = is }))
    | inr is ↦ found.1 other after end (record { piece = b.piece; whole = b.whole; is = is })
  ],
)

-- white space and a colon end an identifier
pub EndOfIdent-colon : {Q : List ℕ → Type 0} (input rest : List ℕ)
    → Begins (IsSpace · Is (codes ":") · Q) input rest → EndOfIdent input
EndOfIdent-colon {Q} input rest b =
    let parts = Begins-split b in
    by_space parts.1.piece parts.0 parts.1.is parts.1.whole (Begins-split parts.2).1
  where
    by_space : (space middle : List ℕ) → IsSpace space → input ≡ space ++ middle → {after : List ℕ}
        → Begins (Is (codes ":")) middle after → EndOfIdent input
    by_space [] middle white whole {after} colon =
        subst EndOfIdent (sym (whole ∙ colon.whole ∙ ap (λ t. t ++ after) colon.is)) refl
    by_space (c ∷ cs) middle white whole colon =
        subst EndOfIdent (sym whole) (or_left (is_whitespace c) _ white.0)

-- an attribute: a key, a colon and a value
abbrev pub ColonAndValue : List ℕ → List ℕ → Type 0
ColonAndValue value = Is (codes ":") · IsSpace · IsQuote value

ColonAndValue-solid : (value text : List ℕ) → ColonAndValue value text → IsSolid text
ColonAndValue-solid value text = IsSolid-word 58 [] refl text

pub attribute_no_key : (input : List ℕ) → Reads EndOfIdent IsKey input None
    → Reads Anything IsAttribute input None
attribute_no_key input none =
    both_none EndOfIdent Anything IsKey (λ value. IsSpace · ColonAndValue value)
    (λ value middle rest _ b. EndOfIdent-colon middle rest b) input none

module _ (input middle key : List ℕ) (found : Reads EndOfIdent IsKey input (Some (middle, key))) where
  with_value : (o : Option (List ℕ × List ℕ))
      → Reads Anything ColonAndValue (skip_leading_whitespace middle) o
      → Reads Anything IsAttribute input (option_map (λ x. (x.0, record { key = key; value = x.1 })) o)
  with_value o value =
      both_then EndOfIdent Anything IsKey (λ value. IsSpace · ColonAndValue value)
      (λ value middle rest _ b. EndOfIdent-colon middle rest b)
      input middle key o found (space_then Anything ColonAndValue ColonAndValue-solid middle o value)

  pub attribute_no_colon : Reads NoSpace (λ (_ : Unit {0}). Is (codes ":") · IsSpace)
      (skip_leading_whitespace middle) None → Reads Anything IsAttribute input None
  attribute_no_colon none = with_value None
      (lexeme_none Anything IsQuote IsSolid-quote (Is (codes ":")) (skip_leading_whitespace middle) none)

  pub attribute_read : (after : List ℕ) → Reads NoSpace (λ (_ : Unit {0}). Is (codes ":") · IsSpace)
      (skip_leading_whitespace middle) (Some (after, tt))
      → (o : Option (List ℕ × List ℕ)) → Reads Anything IsQuote after o
      → Reads Anything IsAttribute input (option_map (λ x. (x.0, record { key = key; value = x.1 })) o)
  attribute_read after colon o value =
      with_value o (lexeme_then Anything IsQuote IsSolid-quote (Is (codes ":"))
      (skip_leading_whitespace middle) after o colon value)
