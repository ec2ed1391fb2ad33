-- The results of the parsers of the smallest parts.
use Rattle.std.proofs.Common.{◌≡◌, ◌≢◌, ℕ, ◌-◌, ◌<◌, ◌≤◌, inl, inr, true, false, Option, Some, None, List, []}
use Rattle.std.proofs.Common.{◌∷◌, ◌++◌, length, take, drop, refl, sym, ap, ◌∙◌, subst, arith, append_assoc}
use Rattle.std.proofs.Common.{codes, length-append, slice_range}
use Rattle.std.proofs.lemmas.Bool.{both_ways, false≢true}
use Rattle.std.proofs.lemmas.Str.{encodes-chars, length-le-encodes}
use Rattle.std.specs.List.{AllByRecursion}
use Rattle.std.specs.Str.{IsUtf8, chars, skip_leading_whitespace}
use lib.Utf8.{encodes}
use Rattle.deno_graph_jsdoc.specs.Characters.{double_quote, apostrophe, closing_brace}
use Rattle.deno_graph_jsdoc.specs.JsDocGrammar.{◌·◌, Is, IsSpace, IsGap, IsBetween, IsQuote, IsIdent, Lacks}
use Rattle.deno_graph_jsdoc.specs.JsDocGrammar.{ends_ident, Begins, Anything, NoSpace}
use Rattle.deno_graph_jsdoc.specs.internal.Reading.{begins_ident, Reads, EndOfIdent}
use Rattle.deno_graph_jsdoc.proofs.Alphabetic.{Alphabetic-ends_ident}
use Rattle.deno_graph_jsdoc.proofs.Runs.{same_run, space_whole, same_space, same_before_mark}
use Rattle.deno_graph_jsdoc.proofs.Runs.{Lacks-not_inside}
use Rattle.deno_graph_jsdoc.proofs.Texts.{bytes_from_chars}

-- the rest of a text is shorter if white space was skipped
module _ (input rest : List ℕ) (utf8 : IsUtf8 input) (utf8_rest : IsUtf8 rest)
    (skips : chars rest ≡ skip_leading_whitespace (chars input)) where
  some_space : (space : List ℕ) → IsSpace space → chars input ≡ space ++ chars rest
      → length rest < length input → IsGap space
  some_space [] white whole shorter =
      let same : input ≡ rest = sym (encodes-chars input utf8) ∙ ap encodes whole
      ∙ encodes-chars rest utf8_rest in
      absurd (omega (arith, ap length same))
  some_space (c ∷ cs) white whole shorter = (white, omega arith)

  pub gap_read : length rest < length input
      → Reads NoSpace (λ (_ : Unit {0}). IsGap) (chars input) (Some (chars rest, tt))
  gap_read shorter =
      let own = space_whole (chars input) in
      let whole : chars input ≡ own.0 ++ chars rest = own.2 ∙ ap (λ t. own.0 ++ t) (sym skips) in (
        record { piece = own.0; whole = whole; is = some_space own.0 own.1 whole shorter },
        λ other after stop begins.
            (refl, same_space (chars input) begins.piece after begins.is.0 stop begins.whole ∙ sym skips),
      )

  pub gap_none : length input ≤ length rest → Reads NoSpace (λ (_ : Unit {0}). IsGap) (chars input) None
  gap_none longer other after stop begins =
      let same : after ≡ chars rest =
      same_space (chars input) begins.piece after begins.is.0 stop begins.whole ∙ sym skips in
      let bytes : input ≡ encodes begins.piece ++ encodes after =
      bytes_from_chars input begins.piece after utf8 begins.whole in
      let left : encodes after ≡ rest = ap encodes same ∙ encodes-chars rest utf8_rest in
      let some = begins.is.1 in
      omega (
        arith,
        ap length bytes,
        length-append (encodes begins.piece) (encodes after),
        ap length left,
        length-le-encodes begins.piece,
      )

-- a text between two marks
module _ (mark : ℕ) where
  pub marked : (inside after : List ℕ)
      → (mark ∷ inside ++ mark ∷ []) ++ after ≡ mark ∷ (inside ++ mark ∷ after)
  marked inside after = ap (λ t. mark ∷ t) (append_assoc inside (mark ∷ []) after)

  pub unmarked_read : (input : List ℕ) → ((rest : List ℕ) → input ≢ mark ∷ rest)
      → Reads Anything (IsBetween mark) input None
  unmarked_read input no_mark inside after _ begins =
      no_mark (inside ++ mark ∷ after)
      (begins.whole ∙ ap (λ piece. piece ++ after) begins.is.1 ∙ marked inside after)

  pub unclosed_read : (input rest : List ℕ) → input ≡ mark ∷ rest → Lacks mark rest
      → Reads Anything (IsBetween mark) input None
  unclosed_read input rest opens lacks inside after _ begins =
      let all : mark ∷ rest ≡ mark ∷ (inside ++ mark ∷ after) =
      sym opens ∙ begins.whole ∙ ap (λ piece. piece ++ after) begins.is.1 ∙ marked inside after in
      let same : rest ≡ inside ++ mark ∷ after = cc in
      Lacks-not_inside mark inside after (subst (Lacks mark) same lacks)

  pub between_read : (input opened text rest : List ℕ) → input ≡ mark ∷ opened → Lacks mark text
      → opened ≡ text ++ mark ∷ rest
      → Reads Anything (IsBetween mark) input (Some (rest, text))
  between_read input opened text rest opens lacks closes = (
    record {
      piece = mark ∷ text ++ mark ∷ [];
      whole = opens ∙ ap (λ t. mark ∷ t) closes ∙ sym (marked text rest);
      is = (lacks, refl);
    },
    λ inside after _ begins.
        let all : mark ∷ (text ++ mark ∷ rest) ≡ mark ∷ (inside ++ mark ∷ after) =
        ap (λ t. mark ∷ t) (sym closes) ∙ sym opens ∙ begins.whole ∙ ap (λ piece. piece ++ after) begins.is.1
        ∙ marked inside after in
        let same : text ++ mark ∷ rest ≡ inside ++ mark ∷ after = cc in
        let found = same_before_mark mark text inside rest after lacks begins.is.0 same in
        (sym found.0, sym found.1),
  )

-- a quoted text has two equal marks
pub marks_apart : (input inside other rest after : List ℕ)
    → Begins (IsBetween double_quote inside) input rest
    → Begins (IsBetween apostrophe other) input after → ⊥
marks_apart input inside other rest after double single =
    let first : input ≡ double_quote ∷ (inside ++ double_quote ∷ rest) =
    double.whole ∙ ap (λ piece. piece ++ rest) double.is.1
    ∙ marked double_quote inside rest in
    let second : input ≡ apostrophe ∷ (other ++ apostrophe ∷ after) =
    single.whole ∙ ap (λ piece. piece ++ after) single.is.1 ∙ marked apostrophe other after in
    let same : double_quote ∷ (inside ++ double_quote ∷ rest) ≡ apostrophe ∷ (other ++ apostrophe ∷ after) =
    sym first ∙ second in
    let heads : ◌≡◌ {A = ℕ} 34 39 = cc in
    absurd (omega (arith, heads))

pub quote_double : (input rest inside : List ℕ)
    → Reads Anything (IsBetween double_quote) input (Some (rest, inside))
    → Reads Anything IsQuote input (Some (rest, inside))
quote_double input rest inside found = (
  record { piece = found.0.piece; whole = found.0.whole; is = inl found.0.is },
  λ other after _ begins. elim begins.is [
    | inl is ↦ found.1 other after tt (record { piece = begins.piece; whole = begins.whole; is = is })
    | inr is ↦ absurd (marks_apart input inside other rest after found.0
        (record { piece = begins.piece; whole = begins.whole; is = is }))
  ],
)

pub quote_single : (input : List ℕ) (result : Option (List ℕ × List ℕ))
    → Reads Anything (IsBetween double_quote) input
    None → Reads Anything (IsBetween apostrophe) input result → Reads Anything IsQuote input result
quote_single input None none other = λ inside rest _ begins. elim begins.is [
  | inl is ↦ none inside rest tt (record { piece = begins.piece; whole = begins.whole; is = is })
  | inr is ↦ other inside rest tt (record { piece = begins.piece; whole = begins.whole; is = is })
]
quote_single input (Some result) none found = (
  record { piece = found.0.piece; whole = found.0.whole; is = inr found.0.is },
  λ other after _ begins. elim begins.is [
    | inl is ↦ absurd (none other after tt (record { piece = begins.piece; whole = begins.whole; is = is }))
    | inr is ↦ found.1 other after tt (record { piece = begins.piece; whole = begins.whole; is = is })
  ],
)

-- the text up to a closing brace
braced : (front after : List ℕ) → (front ++ closing_brace ∷ []) ++ after ≡ front ++ closing_brace ∷ after
braced front after = append_assoc front (closing_brace ∷ []) after

pub brace_none : (input : List ℕ) → Lacks closing_brace input
    → Reads Anything (λ (_ : Unit {0}). Lacks closing_brace · Is (codes "}")) input None
brace_none input lacks other after _ begins =
    let parts = begins.is in
    let same : input ≡ parts.front ++ closing_brace ∷ after =
    begins.whole ∙ ap (λ piece. piece ++ after)
    (parts.whole ∙ ap (λ brace. parts.front ++ brace) parts.is_back) ∙ braced parts.front after in
    Lacks-not_inside closing_brace parts.front after (subst (Lacks closing_brace) same lacks)

pub brace_read : (input text rest : List ℕ) → Lacks closing_brace text → input ≡ text ++ closing_brace ∷ rest
    → Reads Anything (λ (_ : Unit {0}). Lacks closing_brace · Is (codes "}")) input (Some (rest, tt))
brace_read input text rest lacks whole = (
  record {
    piece = text ++ closing_brace ∷ [];
    whole = whole ∙ sym (braced text rest);
    is = record { front = text; back = closing_brace ∷ []; whole = refl; is_front = lacks; is_back = refl };
  },
  λ other after _ begins.
      let parts = begins.is in
      let same : input ≡ parts.front ++ closing_brace ∷ after =
      begins.whole ∙ ap (λ piece. piece ++ after)
      (parts.whole ∙ ap (λ brace. parts.front ++ brace) parts.is_back) ∙ braced parts.front after in (
        refl,
        sym (same_before_mark closing_brace text parts.front rest after lacks parts.is_front
            (sym whole ∙ same)).1,
      ),
)

-- characters that don't end an identifier, and then a character that does
abbrev pub IsNameRun : List ℕ → List ℕ → List ℕ → Type 0
IsNameRun input name rest = (input ≡ name ++ rest)
    × AllByRecursion (λ c. ends_ident c ≡ false) name × EndOfIdent rest

pub IsNameRun-found : (input name : List ℕ) (end at : ℕ) → end ≡ at → name ≡ slice_range input 0 end
    → IsNameRun (chars input) (chars (take at input)) (chars (drop at input))
    → IsNameRun (chars input) (chars name) (chars (drop end input))
IsNameRun-found input name end at is cut run =
    let size : end - 0 ≡ end = omega arith in
    let front : name ≡ take end input = cut ∙ ap (λ n. take n input) size in
    subst (λ t. IsNameRun (chars input) (chars t) (chars (drop end input))) (sym front)
    (subst (λ n. IsNameRun (chars input) (chars (take n input)) (chars (drop n input))) (sym is) run)

pub run_of_ident : (name : List ℕ) → IsIdent name → AllByRecursion (λ c. ends_ident c ≡ false) name
    × (begins_ident name ≡ true)
run_of_ident [] is = absurd is
run_of_ident (c ∷ cs) is = ((Alphabetic-ends_ident c is.0, is.1), is.0)

ident_of_run : (name : List ℕ) → AllByRecursion (λ c. ends_ident c ≡ false) name
    → begins_ident name ≡ true → IsIdent name
ident_of_run [] all first = absurd (false≢true first)
ident_of_run (c ∷ cs) all first = (first, all.1)

module _ (input name rest : List ℕ) (run : IsNameRun input name rest) where
  the_run : (other after : List ℕ) → IsIdent other → EndOfIdent after → input ≡ other ++ after
      → (name ≡ other) × (rest ≡ after)
  the_run other after is end whole =
      same_run (λ c. ends_ident c ≡ false) (λ c. ends_ident c ≡ true)
      (λ c not is. both_ways (ends_ident c) not is) name other rest after
      run.1 (run_of_ident other is).0 run.2 end (sym run.0 ∙ whole)

  pub ident_read : begins_ident name ≡ true
      → Reads EndOfIdent (λ name text. IsIdent text × (name ≡ text)) input (Some (rest, name))
  ident_read first = (
    record { piece = name; whole = run.0; is = (ident_of_run name run.1 first, refl) },
    λ other after end begins.
        let same = the_run begins.piece after begins.is.0 end begins.whole in
        (begins.is.1 ∙ sym same.0, sym same.1),
  )

  pub ident_none : begins_ident name ≡ false
      → Reads {V = List ℕ} EndOfIdent (λ name text. IsIdent text × (name ≡ text)) input None
  ident_none first other after end begins =
      let same = the_run begins.piece after begins.is.0 end begins.whole in
      both_ways (begins_ident name) first
      (subst (λ t. begins_ident t ≡ true) (sym same.0) (run_of_ident begins.piece begins.is.0).1)
