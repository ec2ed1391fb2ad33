-- The results of the parsers of a declaration's clause.
use Rattle.std.proofs.Common.{◌≡◌, ℕ, ◌<◌, ◌⊎◌, inl, inr, true, false, Option, Some, None, List, [], ◌∷◌}
use Rattle.std.proofs.Common.{◌++◌, length, refl, sym, ap, ◌∙◌, subst, codes, option_map, append_assoc}
use Rattle.std.proofs.Common.{length-append, arith}
use Rattle.std.proofs.lemmas.Bool.{both_ways, or_left}
use Rattle.std.specs.Char.{is_whitespace}
use Rattle.std.specs.Char.Unicode.Alphabetic.{is_alphabetic}
use Rattle.std.specs.Str.{skip_leading_whitespace}
use Rattle.deno_graph_jsdoc.specs.Characters.{opening_brace, closing_brace}
use Rattle.deno_graph_jsdoc.specs.JsDocGrammar.{◌·◌, Is, IsSpace, IsGap, IsIdent, Lacks, IsNames, IsNamespace}
use Rattle.deno_graph_jsdoc.specs.JsDocGrammar.{IsName, IsClause, Begins, Anything, NoSpace}
use Rattle.deno_graph_jsdoc.specs.internal.Reading.{EndOfIdent, Reads}
use Rattle.deno_graph_jsdoc.proofs.Alphabetic.{opening_brace_no_letter, star_no_letter}
use Rattle.deno_graph_jsdoc.proofs.Attributes.{begins_alphabetic}
use Rattle.deno_graph_jsdoc.proofs.Blocks.{IsSolid-ident, IsSolid-front}
use Rattle.deno_graph_jsdoc.proofs.Readings.{Begins-split, Begins-join, Begins-as, IsSolid, IsSolid-word}
use Rattle.deno_graph_jsdoc.proofs.Readings.{NoSpace-before, spaced, spaced_none, then_none, then_some}
use Rattle.deno_graph_jsdoc.proofs.Readings.{lexeme_none, lexeme_then, same_first}
use Rattle.deno_graph_jsdoc.proofs.Runs.{IsSpace-append}

-- an identifier, without its name as the value
ident_alone : (input : List ℕ) (o : Option (List ℕ × List ℕ))
    → Reads EndOfIdent (λ name text. IsIdent text × (name ≡ text)) input o
    → Reads EndOfIdent (λ (_ : Unit {0}). IsIdent) input (option_map (λ x. (x.0, tt)) o)
ident_alone input None none =
    λ _ rest end b. none b.piece rest end (record { piece = b.piece; whole = b.whole; is = (b.is, refl) })
ident_alone input (Some x) found = (
  Begins-as (λ text is. is.0) found.0,
  λ _ after end b.
      (refl, (found.1 b.piece after end (record { piece = b.piece; whole = b.whole; is = (b.is, refl) })).1),
)

-- white space ends an identifier
pub EndOfIdent-gap : (input rest : List ℕ) → Begins IsGap input rest → EndOfIdent input
EndOfIdent-gap input rest b = by_piece b.piece b.is.0 b.is.1 b.whole
  where
    by_piece : (piece : List ℕ) → IsSpace piece → 0 < length piece → input ≡ piece ++ rest → EndOfIdent input
    by_piece [] white some whole = absurd (omega arith)
    by_piece (c ∷ cs) white some whole = subst EndOfIdent (sym whole) (or_left (is_whitespace c) _ white.0)

pub IsSolid-name : (text : List ℕ) → IsName text → IsSolid text
IsSolid-name text is = IsSolid-front IsSolid-ident text is

-- a name: an identifier and white space
pub name_none : (input : List ℕ) → Reads EndOfIdent (λ name text. IsIdent text × (name ≡ text)) input None
    → Reads NoSpace (λ (_ : Unit {0}). IsName) input None
name_none input none = then_none EndOfIdent NoSpace IsIdent (λ _. IsGap)
    (λ _ middle rest _ b. EndOfIdent-gap middle rest b) input (ident_alone input None none)

pub name_read : (input middle name : List ℕ) (o : Option (List ℕ × Unit {0}))
    → Reads EndOfIdent (λ name text. IsIdent text × (name ≡ text)) input (Some (middle, name))
    → Reads NoSpace (λ (_ : Unit {0}). IsGap) middle o → Reads NoSpace (λ (_ : Unit {0}). IsName) input o
name_read input middle name o found gap =
    then_some EndOfIdent NoSpace IsIdent (λ _. IsGap) (λ _ middle rest _ b. EndOfIdent-gap middle rest b)
    input middle o (ident_alone input (Some (middle, name)) found) gap

-- everything under one name
abbrev AsName : Unit {0} → List ℕ → Type 0
AsName _ = Is (codes "as") · IsGap · IsName

AsName-solid : (w : Unit {0}) (text : List ℕ) → AsName w text → IsSolid text
AsName-solid _ text is = IsSolid-word 97 (codes "s") refl text is

pub gap_before_name : (_ : Unit {0}) (middle rest : List ℕ) → NoSpace rest
    → Begins IsName middle rest → NoSpace middle
gap_before_name _ middle rest _ b = NoSpace-before IsSolid-name b

module _ (input : List ℕ) where
  pub namespace_no_star : Reads NoSpace (λ (_ : Unit {0}). Is (codes "*") · IsSpace) input None
      → Reads NoSpace (λ (_ : Unit {0}). IsNamespace) input None
  namespace_no_star none = lexeme_none NoSpace AsName AsName-solid (Is (codes "*")) input none

  module _ (after : List ℕ)
      (star : Reads NoSpace (λ (_ : Unit {0}). Is (codes "*") · IsSpace) input (Some (after, tt))) where
    from_star : (o : Option (List ℕ × Unit {0})) → Reads NoSpace AsName after o
        → Reads NoSpace (λ (_ : Unit {0}). IsNamespace) input o
    from_star o found = lexeme_then NoSpace AsName AsName-solid (Is (codes "*")) input after o star found

    pub namespace_no_as : Reads Anything (λ (_ : Unit {0}). Is (codes "as")) after None
        → Reads NoSpace (λ (_ : Unit {0}). IsNamespace) input None
    namespace_no_as none = from_star None
        (then_none Anything NoSpace (Is (codes "as")) (λ _. IsGap · IsName) (λ _ _ _ _ _. tt) after none)

    module _ (next : List ℕ)
        (as_word : Reads Anything (λ (_ : Unit {0}). Is (codes "as")) after (Some (next, tt))) where
      from_as : (o : Option (List ℕ × Unit {0})) → Reads NoSpace (λ (_ : Unit {0}). IsGap · IsName) next o
          → Reads NoSpace (λ (_ : Unit {0}). IsNamespace) input o
      from_as o found = from_star o (then_some Anything NoSpace (Is (codes "as")) (λ _. IsGap · IsName)
          (λ _ _ _ _ _. tt) after next o as_word found)

      pub namespace_no_gap : Reads NoSpace (λ (_ : Unit {0}). IsGap) next None
          → Reads NoSpace (λ (_ : Unit {0}). IsNamespace) input None
      namespace_no_gap none =
          from_as None (then_none NoSpace NoSpace IsGap (λ _. IsName) gap_before_name next none)

      pub namespace_read : (last : List ℕ) (o : Option (List ℕ × Unit {0}))
          → Reads NoSpace (λ (_ : Unit {0}). IsGap) next (Some (last, tt))
          → Reads NoSpace (λ (_ : Unit {0}). IsName) last o
          → Reads NoSpace (λ (_ : Unit {0}). IsNamespace) input o
      namespace_read last o gap found =
          from_as o (then_some NoSpace NoSpace IsGap (λ _. IsName) gap_before_name next last o gap found)

-- names in braces
module _ (input : List ℕ) where
  pub names_unopened : Reads Anything (λ (_ : Unit {0}). Is (codes "{")) input None
      → Reads NoSpace (λ (_ : Unit {0}). IsNames · IsSpace) input None
  names_unopened none = spaced_none (λ (_ : Unit {0}). IsNames) input (then_none Anything Anything
      (Is (codes "{")) (λ _. Lacks closing_brace · Is (codes "}")) (λ _ _ _ _ _. tt) input none)

  module _ (middle : List ℕ)
      (opens : Reads Anything (λ (_ : Unit {0}). Is (codes "{")) input (Some (middle, tt))) where
    from_brace : (o : Option (List ℕ × Unit {0}))
        → Reads Anything (λ (_ : Unit {0}). Lacks closing_brace · Is (codes "}")) middle o
        → Reads Anything (λ (_ : Unit {0}). IsNames) input o
    from_brace o found = then_some Anything Anything (Is (codes "{"))
        (λ _. Lacks closing_brace · Is (codes "}")) (λ _ _ _ _ _. tt) input middle o opens found

    pub names_unclosed : Reads Anything (λ (_ : Unit {0}). Lacks closing_brace · Is (codes "}")) middle None
        → Reads NoSpace (λ (_ : Unit {0}). IsNames · IsSpace) input None
    names_unclosed none = spaced_none (λ (_ : Unit {0}). IsNames) input (from_brace None none)

    pub names_read : (after : List ℕ)
        → Reads Anything (λ (_ : Unit {0}). Lacks closing_brace · Is (codes "}")) middle (Some (after, tt))
        → Reads NoSpace (λ (_ : Unit {0}). IsNames · IsSpace) input
        (Some (skip_leading_whitespace after, tt))
    names_read after found =
        spaced (λ (_ : Unit {0}). IsNames) input after tt (from_brace (Some (after, tt)) found)

-- a text that ends with white space takes further white space
abbrev TakesSpace : (List ℕ → Type 0) → Type 0
TakesSpace P = (text space : List ℕ) → P text → IsSpace space → P (text ++ space)

TakesSpace-gap : TakesSpace IsGap
TakesSpace-gap text space is white =
    (IsSpace-append text space is.0 white, (let some = is.1 in omega (arith, length-append text space)))

TakesSpace-after : {P Q : List ℕ → Type 0} → TakesSpace Q → TakesSpace (P · Q)
TakesSpace-after takes text space is white = record {
  front = is.front;
  back = is.back ++ space;
  whole = ap (λ t. t ++ space) is.whole ∙ append_assoc is.front is.back space;
  is_front = is.is_front;
  is_back = takes is.back space is.is_back white;
}

with_space : {P : List ℕ → Type 0} {input rest : List ℕ} → TakesSpace P
    → Begins (P · IsSpace) input rest → Begins P input rest
with_space {P} takes b =
    Begins-as (λ text is. subst P (sym is.whole) (takes is.front is.back is.is_front is.is_back)) b

no_space : {P : List ℕ → Type 0} {input rest : List ℕ} → Begins P input rest → Begins (P · IsSpace) input rest
no_space {P} {input} {rest} b = Begins-join b (record { piece = []; whole = refl; is = tt })

-- the first characters of the three forms
first_of_name : {input rest after : List ℕ} (c : ℕ) {cs : List ℕ} → is_alphabetic c ≡ false
    → Begins IsName input rest → Begins (Is (c ∷ cs)) input after → ⊥
first_of_name {input} {rest} {after} c {cs} not b word =
    let first = (Begins-split b).1 in
    let ident = begins_alphabetic first.piece (Begins-split b).0 first.is in
    let same : ident.0 ∷ ident.1 ≡ c ∷ (cs ++ after) =
    sym ident.2 ∙ sym first.whole ∙ word.whole ∙ ap (λ t. t ++ after) word.is in
    let heads : ident.0 ≡ c = cc in
    both_ways (is_alphabetic c) not (subst (λ d. is_alphabetic d ≡ true) heads ident.3)

abbrev Clause : Unit {0} → List ℕ → Type 0
Clause _ = IsClause · IsSpace

-- a clause has one of the three forms
pub clause_apart : {input rest : List ℕ} → Begins (IsClause · IsSpace) input rest
    → Begins (IsNames · IsSpace) input rest ⊎ (Begins IsNamespace input rest ⊎ Begins IsName input rest)
clause_apart b =
    let parts = Begins-split b in
    by_form parts.1.is parts.1.whole parts.2
  where
    by_form : {input middle rest piece : List ℕ} → IsClause piece → input ≡ piece ++ middle
        → Begins IsSpace middle rest
        → Begins (IsNames · IsSpace) input rest ⊎ (Begins IsNamespace input rest ⊎ Begins IsName input rest)
    by_form {piece = piece} (inl is) whole space =
        inl (Begins-join (record { piece = piece; whole = whole; is = is }) space)
    by_form {piece = piece} (inr (inl is)) whole space =
        inr (inl (with_space (TakesSpace-after
        (TakesSpace-after (TakesSpace-after (TakesSpace-after (TakesSpace-after TakesSpace-gap)))))
        (Begins-join (record { piece = piece; whole = whole; is = is }) space)))
    by_form {piece = piece} (inr (inr is)) whole space =
        inr (inr (with_space (TakesSpace-after TakesSpace-gap)
        (Begins-join (record { piece = piece; whole = whole; is = is }) space)))

-- a text doesn't begin with clauses of two forms
pub names_or_namespace : {input rest after : List ℕ} → Begins (IsNames · IsSpace) input rest
    → Begins IsNamespace input after → ⊥
names_or_namespace names namespace =
    let heads : ◌≡◌ {A = ℕ} 123 42 =
    same_first (Begins-split (Begins-split names).1).1 (Begins-split namespace).1 in
    omega (arith, heads)

pub names_or_name : {input rest after : List ℕ} → Begins (IsNames · IsSpace) input rest
    → Begins IsName input after → ⊥
names_or_name names name =
    first_of_name opening_brace opening_brace_no_letter name (Begins-split (Begins-split names).1).1

pub namespace_or_name : {input rest after : List ℕ} → Begins IsNamespace input rest
    → Begins IsName input after → ⊥
namespace_or_name namespace name = first_of_name 42 star_no_letter name (Begins-split namespace).1

pub clause_names : (input rest : List ℕ) → Reads NoSpace (λ (_ : Unit {0}). IsNames · IsSpace) input
    (Some (rest, tt)) → Reads NoSpace Clause input (Some (rest, tt))
clause_names input rest found = (
  (let parts = Begins-split found.0 in Begins-join (Begins-as (λ text is. inl is) parts.1) parts.2),
  λ other after stop b. elim (clause_apart b) [
    | inl names ↦ found.1 other after stop names
    | inr others ↦ elim others [
      | inl namespace ↦ absurd (names_or_namespace found.0 namespace)
      | inr name ↦ absurd (names_or_name found.0 name)
    ]
  ],
)

-- a clause that begins with a brace is names in braces
pub clause_unclosed : (input inside : List ℕ) → Begins (Is (codes "{")) input inside
    → Reads NoSpace (λ (_ : Unit {0}). IsNames · IsSpace) input None → Reads NoSpace Clause input None
clause_unclosed input inside brace none = λ other after stop b. elim (clause_apart b) [
  | inl names ↦ none other after stop names
  | inr others ↦ elim others [
    | inl namespace ↦
        let heads : ◌≡◌ {A = ℕ} 123 42 = same_first brace (Begins-split namespace).1 in
        omega (arith, heads)
    | inr name ↦ first_of_name opening_brace opening_brace_no_letter name brace
  ]
]

module _ (input : List ℕ) (no_names : Reads NoSpace (λ (_ : Unit {0}). IsNames · IsSpace) input None) where
  pub clause_namespace : (rest : List ℕ) → Reads NoSpace (λ (_ : Unit {0}). IsNamespace) input
      (Some (rest, tt)) → Reads NoSpace Clause input (Some (rest, tt))
  clause_namespace rest found = (
    no_space (Begins-as (λ text is. inr (inl is)) found.0),
    λ other after stop b. elim (clause_apart b) [
      | inl names ↦ absurd (no_names other after stop names)
      | inr others ↦ elim others [
        | inl namespace ↦ found.1 other after stop namespace
        | inr name ↦ absurd (namespace_or_name found.0 name)
      ]
    ],
  )

  pub clause_name : (o : Option (List ℕ × Unit {0})) → Reads NoSpace
      (λ (_ : Unit {0}). IsNamespace) input None → Reads NoSpace (λ (_ : Unit {0}). IsName) input o
      → Reads NoSpace Clause input o
  clause_name None no_namespace none = λ other after stop b. elim (clause_apart b) [
    | inl names ↦ no_names other after stop names
    | inr others ↦ elim others [
      | inl namespace ↦ no_namespace other after stop namespace
      | inr name ↦ none other after stop name
    ]
  ]
  clause_name (Some x) no_namespace found = (
    no_space (Begins-as (λ text is. inr (inr is)) found.0),
    λ other after stop b. elim (clause_apart b) [
      | inl names ↦ absurd (no_names other after stop names)
      | inr others ↦ elim others [
        | inl namespace ↦ absurd (no_namespace other after stop namespace)
        | inr name ↦ found.1 other after stop name
      ]
    ],
  )

-- `@import`, white space and the clause
pub IsSolid-clause : (text : List ℕ) → IsClause text → IsSolid text
IsSolid-clause text (inl is) = IsSolid-word opening_brace [] refl text is
IsSolid-clause text (inr (inl is)) = IsSolid-word 42 [] refl text is
IsSolid-clause text (inr (inr is)) = IsSolid-name text is

pub gap_before_clause : (_ : Unit {0}) (middle rest : List ℕ) → NoSpace rest
    → Begins (IsClause · IsSpace) middle rest → NoSpace middle
gap_before_clause _ middle rest _ b = NoSpace-before (IsSolid-front IsSolid-clause) b

-- the text after `@import`, up to the `from`
abbrev pub Head : Unit {0} → List ℕ → Type 0
Head _ = IsGap · IsClause · IsSpace

module _ (input : List ℕ) where
  pub head_no_gap : Reads NoSpace (λ (_ : Unit {0}). IsGap) input None → Reads NoSpace Head input None
  head_no_gap none = then_none NoSpace NoSpace IsGap Clause gap_before_clause input none

  pub head_read : (after : List ℕ) (o : Option (List ℕ × Unit {0}))
      → Reads NoSpace (λ (_ : Unit {0}). IsGap) input (Some (after, tt)) → Reads NoSpace Clause after o
      → Reads NoSpace Head input o
  head_read after o gap found =
      then_some NoSpace NoSpace IsGap Clause gap_before_clause input after o gap found
