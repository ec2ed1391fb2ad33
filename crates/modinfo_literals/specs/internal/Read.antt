-- The elements that the program reads.
use Rattle.std.specs.Prelude.{◌≡◌, ℕ, ◌<◌, true, Option, None, List, ◌∷◌, IfSome, option_map}
use Rattle.std.specs.Char.{digit_value, is_digit}
use Rattle.std.specs.List.{flat_map}
use Rattle.std.specs.Str.{chars}
use Rattle.modinfo_literals.specs.Literal.{Consists, IsStringElement, IsTemplateElement, units_of}
use Rattle.modinfo_literals.specs.internal.Step.{Step, string_step, template_step}
use Rattle.modinfo_literals.specs.declared.element.Piece.{Piece}
use Rattle.modinfo_literals.specs.declared.element.Form.{Form}
use Rattle.modinfo_literals.specs.declared.element.Form.TheVariants.{StringWith, Template}

-- the step of a piece
abbrev pub step_of : Piece → Step
step_of piece = record { point = piece.point; rest = chars piece.rest.now }

-- the result is this step
abbrev pub IsStep : Option Piece → Option Step → Type 0
IsStep piece step = option_map step_of piece ≡ step

-- the number in the result is a code point
abbrev pub HasCodePoint : Option Piece → Type 0
HasCodePoint piece = IfSome piece (λ p. IfSome p.point (λ point. point < 0x11_0000))

-- the text begins with a digit of the base, with this value, and `rest` follows
pub record IsFirstDigit (base most : ℕ) (text : List ℕ) (value : ℕ) (rest : List ℕ) : Type 0 where
  pub digit : ℕ
  pub whole : text ≡ digit ∷ rest
  pub is_digit_of : is_digit digit base ≡ true
  pub value_is : value ≡ digit_value digit
  pub in_range : value < base

-- the elements of a literal of this form, and the step over the first of them
abbrev pub IsElementOf : Form → List ℕ → List ℕ → Option ℕ → Type 0
IsElementOf (StringWith quote) = IsStringElement quote
IsElementOf Template = IsTemplateElement

abbrev pub first_step : Form → List ℕ → Option Step
first_step (StringWith quote) = string_step quote
first_step Template = template_step

-- `units` are those of the elements of the text up to `end`, where no element begins
pub record AreUnits (form : Form) (text end units : List ℕ) : Type 0 where
  pub points : List (Option ℕ)
  pub consists : Consists (IsElementOf form) points text end
  pub are : units ≡ flat_map units_of points
  pub no_more : first_step form end ≡ None
