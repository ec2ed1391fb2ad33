-- The closing braces of a text, and the cache of the next closing brace.
use Rattle.std.proofs.Common.{◌≡◌, ◌≢◌, ℕ, ◌+◌, ◌<◌, ◌≤◌, ◌==◌, ◌⊎◌, inl, inr, Bool, true, false, Option}
use Rattle.std.proofs.Common.{Some, None, List, [], ◌∷◌, ◌++◌, length, refl, sym, ap, ◌∙◌, subst, codes}
use Rattle.std.proofs.Common.{append_assoc, length-append, arith}
use Rattle.std.proofs.lemmas.Bool.{both_ways, cases_lt, eqb-true, eqb-false}
use Rattle.std.proofs.lemmas.List.{append_cancel_left}
use Rattle.std.proofs.lemmas.Str.{length-le-encodes}
use Rattle.std.specs.Char.{is_whitespace}
use Rattle.std.specs.Str.{chars}
use Rattle.deno_graph_jsdoc.specs.Characters.{opening_brace, closing_brace}
use Rattle.deno_graph_jsdoc.specs.JsDocGrammar.{◌·◌, Is, IsGap, IsSpace, Lacks, Begins, Anything}
use Rattle.deno_graph_jsdoc.specs.internal.Reading.{Reads}
use Rattle.deno_graph_jsdoc.specs.JsDocImport.{byte_count}
use Rattle.deno_graph_jsdoc.specs.internal.Braces.{IsAfterBrace, IsNextEnd, IsUnclosed, Keeps}
use Rattle.deno_graph_jsdoc.specs.declared.grammar.declaration.NamesEnd.{NamesEnd}
use Rattle.deno_graph_jsdoc.proofs.Arguments.{Lacks-append}
use Rattle.deno_graph_jsdoc.proofs.Imports.{byte_count-append}
use Rattle.deno_graph_jsdoc.proofs.Parts.{brace_none, brace_read}
use Rattle.deno_graph_jsdoc.proofs.Runs.{Lacks-not_inside, front_of_front}

pub Lacks-back : (mark : ℕ) (xs ys : List ℕ) → Lacks mark (xs ++ ys) → Lacks mark ys
Lacks-back mark [] ys all = all
Lacks-back mark (x ∷ xs) ys all = Lacks-back mark xs ys all.1

-- a text lacks the mark, or has a first occurrence of the mark
abbrev pub FirstMark : ℕ → List ℕ → Type 0
FirstMark mark text = Lacks mark text
    ⊎ ((inside : List ℕ) × (after : List ℕ) × Lacks mark inside × (text ≡ inside ++ mark ∷ after))

pub first_mark : (mark : ℕ) (text : List ℕ) → FirstMark mark text
first_mark mark [] = inl tt
first_mark mark (c ∷ cs) = by_first (c == mark) refl (first_mark mark cs)
  where
    by_rest : c ≢ mark → FirstMark mark cs → FirstMark mark (c ∷ cs)
    by_rest other (inl lacks) = inl (other, lacks)
    by_rest other (inr (inside, after, lacks, whole)) =
        inr (c ∷ inside, after, (other, lacks), ap (λ t. c ∷ t) whole)

    by_first : (is : Bool) → (c == mark) ≡ is → FirstMark mark cs → FirstMark mark (c ∷ cs)
    by_first true is rest = inr ([], cs, tt, ap (λ d. d ∷ cs) (eqb-true c mark is))
    by_first false is rest = by_rest (eqb-false c mark is) rest

-- the length of the longest end of a text that has no `}`
pub IsUnclosed-none : (text : List ℕ) → Lacks closing_brace text → IsUnclosed text (byte_count text)
IsUnclosed-none text lacks front back whole = (
  (λ fits. Lacks-back closing_brace front back (subst (Lacks closing_brace) whole lacks)),
  λ none. omega (arith, ap byte_count whole, byte_count-append front back),
)

pub IsUnclosed-last : (text before after : List ℕ) → text ≡ before ++ closing_brace ∷ after
    → Lacks closing_brace after → IsUnclosed text (byte_count after)
IsUnclosed-last text before after whole lacks front back parts =
    by_length (cases_lt (length after) (length back))
  where
    same : before ++ closing_brace ∷ after ≡ front ++ back
    same = sym whole ∙ parts

    sizes : length before + (1 + length after) ≡ length front + length back
    sizes =
        omega (arith, ap length same, length-append before (closing_brace ∷ after), length-append front back)

    by_length : (length after < length back) ⊎ (length back ≤ length after)
        → (byte_count back ≤ byte_count after → Lacks closing_brace back)
        × (Lacks closing_brace back → byte_count back ≤ byte_count after)
    by_length (inl longer) =
        let middle = front_of_front front back before (closing_brace ∷ after) (sym same)
        (omega (arith, sizes, longer)) in
        let is : back ≡ middle.0 ++ closing_brace ∷ after =
        append_cancel_left front back (middle.0 ++ closing_brace ∷ after) (sym same
        ∙ ap (λ t. t ++ closing_brace ∷ after) middle.1
        ∙ append_assoc front middle.0 (closing_brace ∷ after)) in (
          (λ fits. absurd (omega (
            arith,
            fits,
            ap byte_count is,
            byte_count-append middle.0 (closing_brace ∷ after),
            byte_count-append (closing_brace ∷ []) after,
            length-le-encodes (closing_brace ∷ []),
          ))),
          λ none. absurd
              (Lacks-not_inside closing_brace middle.0 after (subst (Lacks closing_brace) is none)),
        )
    by_length (inr fits) =
        let middle = front_of_front (before ++ closing_brace ∷ []) after front back (append_assoc before
        (closing_brace ∷ []) after ∙ same)
        (omega (arith, sizes, fits, length-append before (closing_brace ∷ []))) in
        let is : after ≡ middle.0 ++ back =
        append_cancel_left (before ++ closing_brace ∷ []) after (middle.0 ++ back)
        (append_assoc before (closing_brace ∷ []) after ∙ same ∙ ap (λ t. t ++ back) middle.1
        ∙ append_assoc (before ++ closing_brace ∷ []) middle.0 back) in (
          (λ _. Lacks-back closing_brace middle.0 back (subst (Lacks closing_brace) is lacks)),
          λ _. omega (arith, ap byte_count is, byte_count-append middle.0 back),
        )

pub IsUnclosed-back : (text front back : List ℕ) (count : ℕ) → text ≡ front ++ back
    → IsUnclosed text count → IsUnclosed back count
IsUnclosed-back text front back count whole unclosed before after parts =
    unclosed (front ++ before) after
    (whole ∙ ap (λ t. front ++ t) parts ∙ sym (append_assoc front before after))

-- the cache at a later offset
pub IsAfterBrace-back : (after text front back : List ℕ) → text ≡ front ++ back → IsAfterBrace after text
    → IsAfterBrace after back
IsAfterBrace-back after text front back whole (inr (before, is)) =
    inr (before ++ front, is ∙ ap (λ t. before ++ t) whole ∙ sym (append_assoc before front back))
IsAfterBrace-back after text front back whole (inl (inside, lacks, is)) =
    by_length (cases_lt (length inside) (length front))
  where
    same : inside ++ closing_brace ∷ after ≡ front ++ back
    same = sym is ∙ whole

    by_length : (length inside < length front) ⊎ (length front ≤ length inside) → IsAfterBrace after back
    by_length (inl past) =
        let middle = front_of_front (inside ++ closing_brace ∷ []) after front back (append_assoc inside
        (closing_brace ∷ []) after ∙ same)
        (omega (arith, past, length-append inside (closing_brace ∷ []))) in
        inr (
          middle.0,
          append_cancel_left (inside ++ closing_brace ∷ []) after (middle.0 ++ back)
              (append_assoc inside (closing_brace ∷ []) after ∙ same ∙ ap (λ t. t ++ back) middle.1
              ∙ append_assoc (inside ++ closing_brace ∷ []) middle.0 back),
        )
    by_length (inr ahead) =
        let middle = front_of_front front back inside (closing_brace ∷ after) (sym same) ahead in
        inl (
          middle.0,
          Lacks-back closing_brace front middle.0 (subst (Lacks closing_brace) middle.1 lacks),
          append_cancel_left front back (middle.0 ++ closing_brace ∷ after)
              (sym same ∙ ap (λ t. t ++ closing_brace ∷ after) middle.1
              ∙ append_assoc front middle.0 (closing_brace ∷ after)),
        )

pub Keeps-back : (text front back : List ℕ) (cache : Option NamesEnd) → text ≡ front ++ back
    → Keeps text cache → Keeps back cache
Keeps-back text front back None whole keeps = tt
Keeps-back text front back (Some end) whole keeps =
    (keeps.0, IsAfterBrace-back (chars end.after.now) text front back whole keeps.1)

-- a cached brace that isn't before the text is the next brace
pub IsNextEnd-ahead : (text : List ℕ) (end : NamesEnd) → Keeps text (Some end)
    → byte_count (chars end.after.now) < byte_count text → IsNextEnd text (Some end)
IsNextEnd-ahead text end keeps ahead = by_case keeps.1
  where
    by_case : IsAfterBrace (chars end.after.now) text → IsNextEnd text (Some end)
    by_case (inl (inside, lacks, whole)) =
        record { is_end = keeps.0; is_next = brace_read text inside (chars end.after.now) lacks whole }
    by_case (inr (front, is)) = absurd (omega (arith, ahead, ap byte_count is, byte_count-append front text))

-- the cache of `inside` is kept for a text with a front that has no brace before `inside`
pub Keeps-next : (text before inside : List ℕ) (cache : Option NamesEnd) → text ≡ before ++ inside
    → Lacks closing_brace before → IsNextEnd inside cache → Keeps text cache
Keeps-next text before inside None whole lacks next = tt
Keeps-next text before inside (Some end) whole lacks next =
    let found = next.is_next.0 in
    let parts = found.is in (
      next.is_end,
      inl (
        before ++ parts.front,
        Lacks-append closing_brace before parts.front lacks parts.is_front,
        whole ∙ ap (λ t. before ++ t)
            (found.whole ∙ ap (λ t. t ++ chars end.after.now)
            (parts.whole ∙ ap (λ brace. parts.front ++ brace) parts.is_back)
            ∙ append_assoc parts.front (closing_brace ∷ []) (chars end.after.now))
            ∙ sym (append_assoc before parts.front (closing_brace ∷ chars end.after.now)),
      ),
    )

-- neither white space nor an opening brace contains a closing brace
space_lacks : (text : List ℕ) → IsSpace text → Lacks closing_brace text
space_lacks [] white = tt
space_lacks (c ∷ cs) white = (
  (λ is. both_ways (is_whitespace closing_brace) refl (subst (λ d. is_whitespace d ≡ true) is white.0)),
  space_lacks cs white.1,
)

pub opening : (input clause inside : List ℕ) → Begins IsGap input clause → Begins (Is (codes "{")) clause
    inside → (before : List ℕ) × Lacks closing_brace before × (input ≡ before ++ inside)
opening input clause inside gap brace = (
  gap.piece ++ opening_brace ∷ [],
  Lacks-append closing_brace gap.piece (opening_brace ∷ []) (space_lacks gap.piece gap.is.0)
      ((λ is. omega (arith, is)), tt),
  gap.whole ∙ ap (λ t. gap.piece ++ t) (brace.whole ∙ ap (λ t. t ++ inside) brace.is)
      ∙ sym (append_assoc gap.piece (opening_brace ∷ []) inside),
)

-- a text has a `}` if it is longer than its end without `}`
pub brace_left : (text : List ℕ) (count : ℕ) → IsUnclosed text count → count < byte_count text
    → (after : List ℕ)
    × Reads Anything (λ (_ : Unit {0}). Lacks closing_brace · Is (codes "}")) text (Some (after, tt))
brace_left text count unclosed more = by_brace (first_mark closing_brace text)
  where
    by_brace : FirstMark closing_brace text
        → (after : List ℕ) × Reads Anything (λ (_ : Unit {0}). Lacks closing_brace · Is (codes "}")) text
        (Some (after, tt))
    by_brace (inl lacks) = absurd (omega (arith, more, (unclosed [] text refl).1 lacks))
    by_brace (inr (inside, after, lacks, whole)) = (after, brace_read text inside after lacks whole)

pub no_brace_left : (text : List ℕ) (count : ℕ) → IsUnclosed text count → byte_count text ≤ count
    → Reads Anything (λ (_ : Unit {0}). Lacks closing_brace · Is (codes "}")) text None
no_brace_left text count unclosed fits = brace_none text ((unclosed [] text refl).0 fits)
