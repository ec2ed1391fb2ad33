-- The first element of a text, as the code finds it.
use Rattle.std.specs.Prelude.{ℕ, ◌==◌, ◌&&◌, ◌||◌, not, if◌then◌else◌, nat_le, nat_lt, Option, Some, None}
use Rattle.std.specs.Prelude.{List, [], ◌∷◌, length, drop, zero, suc}
use Rattle.std.specs.Char.{is_digit}
use Rattle.modinfo_literals.specs.Escape.{begins_with, number, is_line_terminator}

-- the code point that an element stands for, or `None` for an element that stands for nothing, and the text
-- after the element
pub record Step : Type 0 where
  pub point : Option ℕ
  pub rest : List ℕ

abbrev pub stands_for : ℕ → List ℕ → Option Step
stands_for point rest = Some (record { point = Some point; rest = rest })

abbrev pub stands_for_nothing : List ℕ → Option Step
stands_for_nothing rest = Some (record { point = None; rest = rest })

-- the text after a carriage return, without the line feed that belongs to it
abbrev pub after_carriage_return : List ℕ → List ℕ
after_carriage_return [] = []
after_carriage_return (c ∷ rest) = if c == 10 then rest else c ∷ rest

-- the digits that the text begins with, at most `most`
abbrev pub digits_of : ℕ → ℕ → List ℕ → List ℕ
digits_of base zero text = []
digits_of base (suc most) [] = []
digits_of base (suc most) (c ∷ rest) = if is_digit c base then c ∷ digits_of base most rest else []

unfoldable pub hex_step : ℕ → List ℕ → Option Step
hex_step count text =
    let digits = digits_of 16 count text in
    if length digits == count then stands_for (number 16 digits) (drop (length digits) text) else None

-- the text after a closing brace
abbrev pub close_brace : ℕ → List ℕ → Option Step
close_brace point [] = None
close_brace point (c ∷ rest) = if c == 125 then stands_for point rest else None

unfoldable pub braced_step : List ℕ → Option Step
braced_step text =
    let digits = digits_of 16 (length text) text in
    if nat_lt 0 (length digits) && nat_le (number 16 digits) 0x10_FFFF then
    close_brace (number 16 digits) (drop (length digits) text) else None

unfoldable pub unicode_step : List ℕ → Option Step
unicode_step [] = None
unicode_step (c ∷ rest) = if c == 123 then braced_step rest else hex_step 4 (c ∷ rest)

unfoldable pub octal_step : ℕ → List ℕ → Option Step
octal_step c rest =
    let digits = digits_of 8 (if nat_lt c 52 then 3 else 2) (c ∷ rest) in
    stands_for (number 8 digits) (drop (length digits) (c ∷ rest))

unfoldable pub single_escape : ℕ → ℕ
single_escape c =
    if c == 98 then 8 else if c == 116 then 9 else if c == 110 then 10 else if c == 118 then 11 else
    if c == 102 then 12 else if c == 114 then 13 else c

unfoldable pub common_step : ℕ → List ℕ → Option Step
common_step c rest =
    if c == 120 then hex_step 2 rest else if c == 117 then unicode_step rest else
    if c == 13 then stands_for_nothing (after_carriage_return rest) else
    if is_line_terminator c then stands_for_nothing rest else stands_for (single_escape c) rest

unfoldable pub string_escape_step : List ℕ → Option Step
string_escape_step [] = None
string_escape_step (c ∷ rest) =
    if is_digit c 8 then octal_step c rest else
    if is_digit c 10 then stands_for c rest else common_step c rest

unfoldable pub template_escape_step : List ℕ → Option Step
template_escape_step [] = None
template_escape_step (c ∷ rest) =
    if is_digit c 10 then
    if c == 48 && not (begins_with (λ d. is_digit d 10) rest) then stands_for 0 rest else None
    else common_step c rest

unfoldable pub string_step : ℕ → List ℕ → Option Step
string_step quote [] = None
string_step quote (c ∷ rest) =
    if c == 92 then string_escape_step rest else
    if c == quote || (c == 10 || c == 13) then None else stands_for c rest

unfoldable pub template_step : List ℕ → Option Step
template_step [] = None
template_step (c ∷ rest) =
    if c == 92 then template_escape_step rest else if c == 96 then None else
    if c == 36 && begins_with (λ d. d == 123) rest then None else
    if c == 13 then stands_for 10 (after_carriage_return rest) else stands_for c rest
