-- A text begins with at most one declaration and with at most one dynamic import.
use Rattle.std.proofs.Common.{◌≡◌, ℕ, ◌+◌, ◌⊎◌, inl, inr, None, List, [], ◌∷◌, ◌++◌, refl, sym, ap, ◌∙◌}
use Rattle.std.proofs.Common.{subst, codes, append_assoc}
use Rattle.std.proofs.lemmas.List.{append_cancel_right}
use Rattle.std.specs.Str.{skip_leading_whitespace}
use Rattle.deno_graph_jsdoc.specs.Characters.{closing_brace}
use Rattle.deno_graph_jsdoc.specs.JsDocGrammar.{◌·◌, Is, IsSpace, IsGap, IsNames, IsNamespace, IsName}
use Rattle.deno_graph_jsdoc.specs.JsDocGrammar.{IsClause, IsOptions, IsUpTo, Begins, Anything, NoSpace}
use Rattle.deno_graph_jsdoc.specs.internal.Reading.{EndOfIdent}
use Rattle.deno_graph_jsdoc.specs.JsDocImport.{Mode, Import, BeginsWithImport, EndsDeclaration}
use Rattle.deno_graph_jsdoc.specs.JsDocImport.{EndsDynamicImport, IsDeclaration, IsDynamicImport, byte_count}
use Rattle.deno_graph_jsdoc.proofs.Arguments.{tail_apart, options_apart, end_apart, up_to_read, parts_of}
use Rattle.deno_graph_jsdoc.proofs.Arguments.{Paren, Paren-solid, Through as ThroughBrace}
use Rattle.deno_graph_jsdoc.proofs.Attributes.{IsSolid-quote}
use Rattle.deno_graph_jsdoc.proofs.Clauses.{clause_apart, names_or_namespace, names_or_name}
use Rattle.deno_graph_jsdoc.proofs.Clauses.{namespace_or_name, EndOfIdent-gap, gap_before_name}
use Rattle.deno_graph_jsdoc.proofs.Clauses.{gap_before_clause}
use Rattle.deno_graph_jsdoc.proofs.Imports.{with_solid}
use Rattle.deno_graph_jsdoc.proofs.Parts.{brace_read}
use Rattle.deno_graph_jsdoc.proofs.Readings.{Begins-split, IsSolid-append, IsSolid-word, NoSpace-solid}
use Rattle.deno_graph_jsdoc.proofs.Readings.{NoSpace-before, after_space, regroup_4}
use Rattle.deno_graph_jsdoc.proofs.Unique.{OneRest, one_then, one_word, one_space, one_gap, one_ident}
use Rattle.deno_graph_jsdoc.proofs.Unique.{only_quote, only_with, only_options}

-- the text up to a brace
pub one_through : OneRest Anything ThroughBrace
one_through input rest after _ _ b c =
    let parts = b.is in
    let whole : input ≡ parts.front ++ closing_brace ∷ rest =
    b.whole ∙ ap (λ t. t ++ rest) (parts.whole ∙ ap (λ brace. parts.front ++ brace) parts.is_back)
    ∙ append_assoc parts.front (closing_brace ∷ []) rest in
    sym ((brace_read input parts.front rest parts.is_front whole).1 tt after tt c).1

-- clauses
one_names : OneRest NoSpace (IsNames · IsSpace)
one_names =
    one_then Anything NoSpace (one_then Anything Anything (one_word (codes "{")) one_through (λ _ _ _ _. tt))
    one_space (λ _ _ _ _. tt)

one_name : OneRest NoSpace IsName
one_name = one_then EndOfIdent NoSpace one_ident one_gap (λ middle rest _ b. EndOfIdent-gap middle rest b)

one_namespace : OneRest NoSpace IsNamespace
one_namespace =
    one_then Anything NoSpace (one_word (codes "*"))
    (one_then NoSpace NoSpace one_space
    (one_then Anything NoSpace (one_word (codes "as")) (one_then NoSpace NoSpace one_gap one_name
    (λ middle rest g b. gap_before_name tt middle rest g b)) (λ _ _ _ _. tt))
    (λ middle rest _ b. NoSpace-before (IsSolid-word 97 (codes "s") refl) b))
    (λ _ _ _ _. tt)

one_clause : OneRest NoSpace (IsClause · IsSpace)
one_clause input rest after stop end b c = by_form (clause_apart b) (clause_apart c)
  where
    by_form : Begins (IsNames · IsSpace) input rest
        ⊎ (Begins IsNamespace input rest ⊎ Begins IsName input rest)
        → Begins (IsNames · IsSpace) input after
        ⊎ (Begins IsNamespace input after ⊎ Begins IsName input after) → rest ≡ after
    by_form (inl x) (inl y) = one_names input rest after stop end x y
    by_form (inl x) (inr (inl y)) = absurd (names_or_namespace x y)
    by_form (inl x) (inr (inr y)) = absurd (names_or_name x y)
    by_form (inr (inl x)) (inl y) = absurd (names_or_namespace y x)
    by_form (inr (inl x)) (inr (inl y)) = one_namespace input rest after stop end x y
    by_form (inr (inl x)) (inr (inr y)) = absurd (namespace_or_name x y)
    by_form (inr (inr x)) (inl y) = absurd (names_or_name y x)
    by_form (inr (inr x)) (inr (inl y)) = absurd (namespace_or_name y x)
    by_form (inr (inr x)) (inr (inr y)) = one_name input rest after stop end x y

-- the text before the specifier
abbrev DeclarationHead : List ℕ → Type 0
DeclarationHead = Is (codes "@import") · IsGap · IsClause · IsSpace · Is (codes "from") · IsSpace

one_from : OneRest NoSpace (Is (codes "from") · IsSpace)
one_from = one_then Anything NoSpace (one_word (codes "from")) one_space (λ _ _ _ _. tt)

one_declaration_head : OneRest NoSpace DeclarationHead
one_declaration_head input rest after stop end b c =
    one_then NoSpace NoSpace head one_from (λ middle others _ d. NoSpace-before
    (IsSolid-word 102 (codes "rom") refl) d) input rest after stop end (regroup_4 b) (regroup_4 c)
  where
    head : OneRest NoSpace (Is (codes "@import") · IsGap · IsClause · IsSpace)
    head =
        one_then Anything NoSpace (one_word (codes "@import"))
        (one_then NoSpace NoSpace one_gap one_clause
        (λ middle others g d. gap_before_clause tt middle others g d)) (λ _ _ _ _. tt)

abbrev DynamicHead : List ℕ → Type 0
DynamicHead = Is (codes "{") · IsUpTo (codes "import") · IsSpace · Is (codes "(") · IsSpace

one_import : OneRest Anything (IsUpTo (codes "import"))
one_import input rest after _ _ b c =
    let parts = parts_of (codes "import") b in
    sym ((up_to_read (codes "import") input parts.0 rest parts.1 parts.3 parts.2).1 tt after tt c).1

one_dynamic_head : OneRest NoSpace DynamicHead
one_dynamic_head =
    one_then Anything NoSpace (one_word (codes "{"))
    (one_then Anything NoSpace one_import
    (one_then NoSpace NoSpace one_space
    (one_then Anything NoSpace (one_word (codes "(")) one_space (λ _ _ _ _. tt))
    (λ middle rest _ b. NoSpace-before (IsSolid-word 40 [] refl) b))
    (λ _ _ _ _. tt))
    (λ _ _ _ _. tt)

-- the text after the specifier
abbrev pub OnlyTail : (List ℕ → Mode → List ℕ → Type 0) → Type 0
OnlyTail Tail = (text : List ℕ) (mode other : Mode) (rest after : List ℕ) → Tail text mode rest
    → Tail text other after → (mode ≡ other) × (rest ≡ after)

pub only_declaration_tail : OnlyTail EndsDeclaration
only_declaration_tail text mode other rest after (inl b) (inl c) =
    only_with (skip_leading_whitespace text) rest after mode other tt tt
    (after_space (with_solid text mode) b) (after_space (with_solid text other) c)
only_declaration_tail text mode other rest after (inl b) (inr c) = absurd (c.1 mode rest b)
only_declaration_tail text mode other rest after (inr b) (inl c) = absurd (b.1 other after c)
only_declaration_tail text mode other rest after (inr b) (inr c) =
    (b.0 ∙ sym c.0, one_space text rest after b.3 c.3 b.2 c.2)

one_paren : OneRest Anything Paren
one_paren = one_word (codes ")")

pub only_dynamic_tail : OnlyTail EndsDynamicImport
only_dynamic_tail text mode other rest after b c =
    let left = end_apart text mode rest b in
    let right = end_apart text other after c in
    let same = by_form (tail_apart left.1) (tail_apart right.1) in (
      same.0,
      one_through right.0 rest after tt tt
          (subst (λ m. Begins ThroughBrace m rest) same.1 left.2) right.2,
    )
  where
    by_form : {middle next : List ℕ}
        → Begins (IsOptions mode · IsSpace · Paren) (skip_leading_whitespace text) middle
        ⊎ ((mode ≡ None) × Begins Paren (skip_leading_whitespace text) middle)
        → Begins (IsOptions other · IsSpace · Paren) (skip_leading_whitespace text) next
        ⊎ ((other ≡ None) × Begins Paren (skip_leading_whitespace text) next)
        → (mode ≡ other) × (middle ≡ next)
    by_form {middle} {next} (inl x) (inl y) =
        let left = Begins-split x in
        let right = Begins-split y in
        let same =
        only_options (skip_leading_whitespace text) left.0 right.0 mode other tt tt left.1 right.1 in
        let closing =
        one_then NoSpace Anything one_space one_paren (λ m r _ b. NoSpace-before Paren-solid b) in (
          same.0,
          closing right.0 middle next tt tt
              (subst (λ m. Begins (IsSpace · Paren) m middle) same.1 left.2) right.2,
        )
    by_form (inl x) (inr y) = absurd (options_apart (Begins-split x).1 y.1)
    by_form (inr x) (inl y) = absurd (options_apart (Begins-split y).1 x.1)
    by_form {middle} {next} (inr x) (inr y) =
        (x.0 ∙ sym y.0, one_paren (skip_leading_whitespace text) middle next tt tt x.1 y.1)

-- whole declarations and dynamic imports
module _ (Head : List ℕ → Type 0) (Tail : List ℕ → Mode → List ℕ → Type 0) (one_head : OneRest NoSpace Head)
    (only_tail : OnlyTail Tail) where
  solid_quote : {input rest : List ℕ} {a : Import} (s : BeginsWithImport Head Tail input a rest)
      → NoSpace (s.quote ++ s.after)
  solid_quote {a = a} s = NoSpace-solid (s.quote ++ s.after)
      (IsSolid-append s.quote s.after (IsSolid-quote a.specifier s.quote s.quoted))

  pub only_import : (input : List ℕ) (a b : Import) (rest after : List ℕ)
      → BeginsWithImport Head Tail input a rest
      → BeginsWithImport Head Tail input b after → (a ≡ b) × (rest ≡ after)
  only_import input a b rest after s t =
      let quotes = one_head input (s.quote ++ s.after) (t.quote ++ t.after) (solid_quote s) (solid_quote t)
      (record { piece = s.before; whole = s.whole; is = s.head })
      (record { piece = t.before; whole = t.whole; is = t.head }) in
      let befores : s.before ≡ t.before =
      append_cancel_right s.before t.before (t.quote ++ t.after)
      (ap (λ q. s.before ++ q) (sym quotes) ∙ sym s.whole ∙ t.whole) in
      let texts = only_quote (t.quote ++ t.after) s.after t.after a.specifier b.specifier tt tt
      (record { piece = s.quote; whole = sym quotes; is = s.quoted })
      (record { piece = t.quote; whole = refl; is = t.quoted }) in
      let tails = only_tail t.after a.mode b.mode rest after
      (subst (λ m. Tail m a.mode rest) texts.1 s.tail) t.tail in
      let start : a.start ≡ b.start = s.start ∙ ap (λ p. byte_count p + 1) befores ∙ sym t.start in
      let end : a.end ≡ b.end = s.end ∙ (λ i. start i + byte_count (texts.0 i)) ∙ sym t.end in
      ((λ i. record { specifier = texts.0 i; start = start i; end = end i; mode = tails.0 i }), tails.1)

pub one_declaration : (input : List ℕ) (a b : Import) (rest after : List ℕ) → IsDeclaration input a rest
    → IsDeclaration input b after → (a ≡ b) × (rest ≡ after)
one_declaration = only_import DeclarationHead EndsDeclaration one_declaration_head only_declaration_tail

pub one_dynamic_import : (input : List ℕ) (a b : Import) (rest after : List ℕ) → IsDynamicImport input a rest
    → IsDynamicImport input b after → (a ≡ b) × (rest ≡ after)
one_dynamic_import = only_import DynamicHead EndsDynamicImport one_dynamic_head only_dynamic_tail
