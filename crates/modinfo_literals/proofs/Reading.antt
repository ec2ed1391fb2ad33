-- The elements read from the start of a text.
use Rattle.std.proofs.Common.{◌≡◌, ℕ, ◌<◌, Option, Some, List, [], ◌∷◌, ◌++◌, length, refl, sym, ap, ◌∙◌}
use Rattle.std.proofs.Common.{arith, length-append, append-nil}
use Rattle.std.specs.List.{flat_map}
use Rattle.std.proofs.lemmas.List.Concat.{flat_map-append}
use Rattle.modinfo_literals.specs.Literal.{Consists, IsStringElement, IsTemplateElement, units_of}
use Rattle.modinfo_literals.specs.Literal.IsStringElement.{character, escape}
use Rattle.modinfo_literals.specs.Literal.IsTemplateElement.{character as template_character, dollar}
use Rattle.modinfo_literals.specs.Literal.IsTemplateElement.{carriage_return_line_feed, carriage_return}
use Rattle.modinfo_literals.specs.Literal.IsTemplateElement.{escape as template_escape}
use Rattle.modinfo_literals.specs.declared.element.Form.{Form}
use Rattle.modinfo_literals.specs.declared.element.Form.TheVariants.{StringWith, Template}
use Rattle.modinfo_literals.specs.internal.Step.{Step}
use Rattle.modinfo_literals.specs.internal.Read.{IsElementOf, first_step}
use Rattle.modinfo_literals.proofs.Sound.{Found, string-sound, template-sound}

-- an element isn't empty
string_some : (quote : ℕ) (after text : List ℕ) (point : Option ℕ) → IsStringElement quote after text point
    → 0 < length text
string_some quote after _ _ (character c plain) = omega arith
string_some quote after _ _ (escape text point is) = omega arith

template_some : (after text : List ℕ) (point : Option ℕ) → IsTemplateElement after text point
    → 0 < length text
template_some after _ _ (template_character c plain) = omega arith
template_some after _ _ (dollar alone) = omega arith
template_some after _ _ carriage_return_line_feed = omega arith
template_some after _ _ (carriage_return alone) = omega arith
template_some after _ _ (template_escape text point is) = omega arith

element_some : (form : Form) (after text : List ℕ) (point : Option ℕ) → IsElementOf form after text point
    → 0 < length text
element_some (StringWith quote) after text point is = string_some quote after text point is
element_some Template after text point is = template_some after text point is

-- a step is over an element, and leaves less of the text
pub step_found : (form : Form) (text : List ℕ) (step : Step) → Some step ≡ first_step form text
    → Found (IsElementOf form) text step
step_found (StringWith quote) text step e = string-sound quote text step (sym e)
step_found Template text step e = template-sound text step (sym e)

pub step_shorter : (form : Form) (text : List ℕ) (step : Step) → Some step ≡ first_step form text
    → length step.rest < length text
step_shorter form text step e =
    let found = step_found form text step e in
    omega (
      arith,
      ap length found.1,
      length-append found.0 step.rest,
      element_some form step.rest found.0 step.point found.2,
    )

-- one more element
Consists-more : (IsElement : List ℕ → List ℕ → Option ℕ
    → Type 0) (points : List (Option ℕ)) (text end : List ℕ)
    (step : Step) → Consists IsElement points text end → Found IsElement end step
    → Consists IsElement (points ++ step.point ∷ []) text step.rest
Consists-more IsElement [] text end step c found = (found.0, step.rest, c ∙ found.1, found.2, refl)
Consists-more IsElement (p ∷ points) text end step c found =
    (c.0, c.1, c.2, c.3, Consists-more IsElement points c.1 end step c.4 found)

-- the elements from the start of a text, and their units
pub record IsSoFar (form : Form) (text end units : List ℕ) : Type 0 where
  pub points : List (Option ℕ)
  pub consists : Consists (IsElementOf form) points text end
  pub are : units ≡ flat_map units_of points

pub IsSoFar-more : (form : Form) (text end units : List ℕ) (step : Step) (new : List ℕ)
    → IsSoFar form text end units → Some step ≡ first_step form end → new ≡ units ++ units_of step.point
    → IsSoFar form text step.rest new
IsSoFar-more form text end units step new so_far e adds = record {
  points = so_far.points ++ step.point ∷ [];
  consists = Consists-more (IsElementOf form) so_far.points text end step so_far.consists
      (step_found form end step e);
  are = adds ∙ ap (λ l. l ++ units_of step.point) so_far.are
      ∙ sym (flat_map-append units_of so_far.points (step.point ∷ [])
      ∙ ap (λ l. flat_map units_of so_far.points ++ l)
      (append-nil (units_of step.point)));
}
