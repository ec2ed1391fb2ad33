-- The test whether a text is a string literal with a value agrees with the definition.
use Rattle.std.proofs.Common.{◌≡◌, ℕ, zero, suc, ◌≤◌, ◌⊎◌, ◌==◌, ◌||◌, true, Option, Some, None, List, []}
use Rattle.std.proofs.Common.{◌∷◌, length, nat_eq, refl, sym, ap, ◌∙◌, subst, inl, inr, arith}
use Rattle.std.proofs.lemmas.Bool.{and_from, and_parts, eqb-true, eq-eqb, false≢true, or_cases, or_left}
use Rattle.std.proofs.lemmas.Bool.{or_right}
use Rattle.std.proofs.lemmas.Bool.Decides.{Decides-eqb}
use Rattle.std.proofs.lemmas.Slice.Eq.{slice_eq-Decides}
use Rattle.std.specs.Bool.{IsTrue}
use Rattle.std.specs.Cmp.Lexicographic.{pointwise}
use Rattle.std.specs.Str.{chars}
use Rattle.modinfo_literals.specs.Literal.{Consists, IsStringElement, Spells, string_of}
use Rattle.modinfo_literals.specs.Value.{Elements, are_whole, elements_in, is_spelled, is_spelled_by}
use Rattle.modinfo_literals.specs.Value.{with_element}
use Rattle.modinfo_literals.specs.declared.element.Form.TheVariants.{StringWith}
use Rattle.modinfo_literals.specs.internal.Step.{Step, string_step}
use Rattle.modinfo_literals.proofs.Chains.{Walks, string_step-quote, string_walks}
use Rattle.modinfo_literals.proofs.Reading.{step_shorter}
use Rattle.modinfo_literals.proofs.Sound.{string-sound}

-- the elements are those of the text
AreElements : ℕ → List ℕ → Elements → Type 0
AreElements quote text elements = Consists (IsStringElement quote) elements.points text elements.end

first_and : (quote : ℕ) (text : List ℕ) (others : List ℕ → Elements) (found : Option Step)
    → string_step quote text ≡ found → ((rest : List ℕ) → AreElements quote rest (others rest))
    → AreElements quote text (with_element others text found)
unfolding AreElements
first_and quote text others None is each = refl
first_and quote text others (Some step) is each =
    let found = string-sound quote text step is in
    (found.0, step.rest, found.1, found.2, each step.rest)

are_elements : (most quote : ℕ) (text : List ℕ) → AreElements quote text (elements_in most quote text)
unfolding elements_in AreElements
are_elements zero quote text = refl
are_elements (suc most) quote text =
    first_and quote text (elements_in most quote) (string_step quote text) refl (are_elements most quote)

-- a walk to a text where no element begins is found, if it isn't too long
walked : (most quote : ℕ) (points : List (Option ℕ)) (text end : List ℕ)
    → Walks (string_step quote) points text end → string_step quote end ≡ None → length text ≤ most
    → elements_in most quote text ≡ record { points = points; end = end }
unfolding elements_in
walked zero quote [] text end w none few = λ i. record { points = []; end = w i }
walked (suc most) quote [] text end w none few =
    ap (with_element (elements_in most quote) text) (ap (string_step quote) w ∙ none)
    ∙ (λ i. record { points = []; end = w i })
walked zero quote (p ∷ points) text end w none few =
    let shorter = step_shorter (StringWith quote) text (record { point = p; rest = w.0 }) (sym w.1) in
    absurd (omega (arith, shorter, few))
walked (suc most) quote (p ∷ points) text end w none few =
    let shorter = step_shorter (StringWith quote) text (record { point = p; rest = w.0 }) (sym w.1) in
    let rest = walked most quote points w.0 end w.2 none (omega (arith, shorter, few)) in
    ap (with_element (elements_in most quote) text) w.1
    ∙ (λ i. record { points = p ∷ (rest i).points; end = (rest i).end })

same_lists : (xs ys : List ℕ) → pointwise nat_eq xs ys ≡ true → xs ≡ ys
same_lists xs ys = (slice_eq-Decides Decides-eqb xs ys (pointwise nat_eq xs ys) refl).0

same_test : (xs ys : List ℕ) → xs ≡ ys → pointwise nat_eq xs ys ≡ true
same_test xs ys = (slice_eq-Decides Decides-eqb xs ys (pointwise nat_eq xs ys) refl).1

is_quote : (quote : ℕ) → ((quote == 34) || (quote == 39)) ≡ true → (quote ≡ 34) ⊎ (quote ≡ 39)
is_quote quote is = elim (or_cases (quote == 34) (quote == 39) is) [
  | inl double ↦ inl (eqb-true quote 34 double)
  | inr single ↦ inr (eqb-true quote 39 single)
]

quote_test : (quote : ℕ) → (quote ≡ 34) ⊎ (quote ≡ 39) → ((quote == 34) || (quote == 39)) ≡ true
quote_test quote is = elim is [
  | inl double ↦ or_left (quote == 34) (quote == 39) (eq-eqb quote 34 double)
  | inr single ↦ or_right (quote == 34) (quote == 39) (eq-eqb quote 39 single)
]

spelled : (slice value text : List ℕ) → chars slice ≡ text → is_spelled_by text value ≡ true
    → Spells slice value
unfolding AreElements
spelled slice value [] whole is = absurd (false≢true is)
spelled slice value (quote ∷ inside) whole is =
    let found = elements_in (length inside) quote inside in
    let parts = and_parts ((quote == 34) || (quote == 39)) (are_whole quote value found) is in
    let ends = and_parts (pointwise nat_eq found.end (quote ∷ []))
    (pointwise nat_eq value (string_of found.points)) parts.1 in record {
      quote = quote;
      inside = inside;
      points = found.points;
      is_quote = is_quote quote parts.0;
      opens = whole;
      closes = subst (Consists (IsStringElement quote) found.points inside)
          (same_lists found.end (quote ∷ []) ends.0) (are_elements (length inside) quote inside);
      is_value = same_lists value (string_of found.points) ends.1;
    }

tested : (slice value : List ℕ) → Spells slice value → is_spelled slice value ≡ true
unfolding is_spelled
tested slice value s =
    let found = walked (length s.inside) s.quote s.points s.inside (s.quote ∷ [])
    (string_walks s.quote s.points s.inside (s.quote ∷ []) s.closes)
    (string_step-quote s.quote [] s.is_quote) (omega arith) in
    ap (λ text. is_spelled_by text value) s.opens
    ∙ and_from ((s.quote == 34) || (s.quote == 39)) _ (quote_test s.quote s.is_quote)
    (ap (are_whole s.quote value) found
    ∙ and_from _ _ (same_test (s.quote ∷ []) (s.quote ∷ []) refl)
    (same_test value (string_of s.points) s.is_value))

pub decided : (slice value : List ℕ)
    → (IsTrue (is_spelled slice value) → Spells slice value)
    × (Spells slice value → IsTrue (is_spelled slice value))
unfolding is_spelled
decided slice value = (spelled slice value (chars slice) refl, tested slice value)
