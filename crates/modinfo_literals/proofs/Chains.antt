-- Elements from the start of a text to its end, and that a text has one list of elements.
use Rattle.std.proofs.Common.{◌≡◌, ℕ, ◌⊎◌, Option, Some, None, List, [], ◌∷◌, ◌++◌, drop, get_or, refl, sym}
use Rattle.std.proofs.Common.{ap, ◌∙◌, subst, ⊎_elim, unwrap_or}
use Rattle.modinfo_literals.specs.Literal.{Consists, IsStringElement, IsTemplateElement, string_of, Spells}
use Rattle.modinfo_literals.specs.Literal.{SpellsCooked}
use Rattle.modinfo_literals.specs.internal.Step.{Step, string_step, template_step}
use Rattle.modinfo_literals.proofs.Complete.{string-complete, template-complete}

-- steps over elements that stand for these code points lead from `text` to `end`
abbrev pub Walks : (List ℕ → Option Step) → List (Option ℕ) → List ℕ → List ℕ → Type 0
Walks step [] text end = text ≡ end
Walks step (point ∷ points) text end =
    (after : List ℕ) × (step text ≡ Some
    (record { point = point; rest = after })) × Walks step points after end

pub Walks-from_Consists : (IsElement : List ℕ → List ℕ → Option ℕ → Type 0) (step : List ℕ → Option Step)
    → ((after text : List ℕ) (point : Option ℕ) → IsElement after text point
    → step (text ++ after) ≡ Some (record { point = point; rest = after }))
    → (points : List (Option ℕ)) (text end : List ℕ) → Consists IsElement points text end
    → Walks step points text end
Walks-from_Consists IsElement step complete [] text end c = c
Walks-from_Consists IsElement step complete (point ∷ points) text end c = (
  c.1,
  ap step c.2 ∙ complete c.1 c.0 point c.3,
  Walks-from_Consists IsElement step complete points c.1 end c.4,
)

-- two walks to texts where no element begins are one
ends_differ : (step : List ℕ → Option Step) (text end : List ℕ) (found : Step) → step text ≡ Some found
    → text ≡ end → step end ≡ None → ⊥
ends_differ step text end found is same none = let h = sym is ∙ ap step same ∙ none in absurd cc

pub Walks-unique : (step : List ℕ
    → Option Step) (points others : List (Option ℕ)) (text end other_end : List ℕ)
    → Walks step points text end → Walks step others text other_end → step end ≡ None → step other_end ≡ None
    → (points ≡ others) × (end ≡ other_end)
Walks-unique step [] [] text end other_end w v n m = (refl, sym w ∙ v)
Walks-unique step [] (q ∷ others) text end other_end w v n m = absurd (ends_differ step text end _ v.1 w n)
Walks-unique step (p ∷ points) [] text end other_end w v n m =
    absurd (ends_differ step text other_end _ w.1 v m)
Walks-unique step (p ∷ points) (q ∷ others) text end other_end w v n m =
    let first : Step = record { point = p; rest = w.0 } in
    let same = ap (λ (found : Option Step). unwrap_or found first) (sym w.1 ∙ v.1) in
    let here = subst (λ rest. Walks step points rest end) (ap (λ s. s.rest) same) w.2 in
    let rest = Walks-unique step points others v.0 end other_end here v.2 n m in
    (λ i. (same i).point ∷ rest.0 i, rest.1)

-- no element begins with the quote
pub string_step-quote : (quote : ℕ) (rest : List ℕ) → (quote ≡ 34) ⊎ (quote ≡ 39)
    → string_step quote (quote ∷ rest) ≡ None
unfolding string_step
string_step-quote quote rest is =
    let at = λ (q : ℕ) (same : quote ≡ q) (none : string_step q (q ∷ rest) ≡ None).
    subst (λ n. string_step n (n ∷ rest) ≡ None) (sym same) none in
    ⊎_elim (λ e. at 34 e refl) (λ e. at 39 e refl) is

pub template_step-nil : template_step [] ≡ None
unfolding template_step
template_step-nil = refl

pub string_walks : (quote : ℕ) (points : List (Option ℕ)) (text end : List ℕ)
    → Consists (IsStringElement quote) points text end → Walks (string_step quote) points text end
string_walks quote = Walks-from_Consists (IsStringElement quote) (string_step quote) (string-complete quote)

pub template_walks : (points : List (Option ℕ)) (text end : List ℕ)
    → Consists IsTemplateElement points text end → Walks template_step points text end
template_walks = Walks-from_Consists IsTemplateElement template_step template-complete

-- laws
pub Spells-unique : (slice value other : List ℕ) → Spells slice value → Spells slice other → value ≡ other
Spells-unique slice value other s t =
    let same = sym t.opens ∙ s.opens in
    let same_quote = ap (λ l. get_or l 0 0) same in
    let same_inside = ap (drop 1) same in
    let closes = subst (λ q. Consists (IsStringElement q) t.points t.inside (q ∷ [])) same_quote t.closes in
    let walk = subst (λ inside. Walks (string_step s.quote) t.points inside (s.quote ∷ [])) same_inside
    (string_walks s.quote t.points t.inside _ closes) in
    let none = string_step-quote s.quote [] s.is_quote in
    let points = Walks-unique (string_step s.quote) s.points t.points s.inside _ _
    (string_walks s.quote s.points s.inside _ s.closes) walk none none in
    s.is_value ∙ ap string_of points.0 ∙ sym t.is_value

pub SpellsCooked-unique : (slice value other : List ℕ) → SpellsCooked slice value → SpellsCooked slice other
    → value ≡ other
SpellsCooked-unique slice value other s t =
    let points = Walks-unique template_step s.points t.points _ _ _
    (template_walks s.points _ _ s.whole) (template_walks t.points _ _ t.whole)
    template_step-nil template_step-nil in
    s.is_value ∙ ap string_of points.0 ∙ sym t.is_value
