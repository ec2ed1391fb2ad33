-- The values that literals of JavaScript spell: SV of a string literal (ECMA-262, 12.9.4) and TV of a part of
-- a template (12.9.6).
use Rattle.std.specs.Prelude.{◌≡◌, ◌⊎◌, ℕ, ◌==◌, ◌||◌, false, Option, Some, None, List, [], ◌∷◌, ◌++◌, codes}
use Rattle.std.specs.Char.Escape.{encode_utf16}
use Rattle.std.specs.List.{flat_map}
use Rattle.std.specs.Str.{chars}
use Rattle.deno_graph_base.specs.JsString.{points_of_units}
use Rattle.modinfo_literals.specs.Escape.{begins_with, IsStringEscape, IsTemplateEscape}

-- an element of a string literal with this quote: its text, where `after` follows, and the code point that
-- the element stands for, or `None` if the element stands for nothing
pub data IsStringElement (quote : ℕ) (after : List ℕ) : List ℕ → Option ℕ → Type 0 where
  -- any character but a backslash, the quote, a line feed and a carriage return
  character : (c : ℕ) → (c == 92 || (c == quote || (c == 10 || c == 13))) ≡ false
      → IsStringElement quote after (c ∷ []) (Some c)
  escape : (text : List ℕ) (point : Option ℕ) → IsStringEscape after text point
      → IsStringElement quote after (92 ∷ text) point

-- TemplateCharacter: an element of a template
pub data IsTemplateElement (after : List ℕ) : List ℕ → Option ℕ → Type 0 where
  -- any character but a backslash, a backtick, `$` and a carriage return
  character : (c : ℕ) → (c == 92 || (c == 96 || (c == 36 || c == 13))) ≡ false
      → IsTemplateElement after (c ∷ []) (Some c)
  dollar : begins_with (λ c. c == 123) after ≡ false → IsTemplateElement after (codes "$") (Some 36)
  -- a carriage return, with its line feed if there is one, stands for a line feed
  carriage_return_line_feed : IsTemplateElement after (13 ∷ 10 ∷ []) (Some 10)
  carriage_return : begins_with (λ c. c == 10) after ≡ false → IsTemplateElement after (13 ∷ []) (Some 10)
  escape : (text : List ℕ) (point : Option ℕ) → IsTemplateEscape after text point
      → IsTemplateElement after (92 ∷ text) point

-- the text consists of elements that stand for these code points, in order, and of `end` after the last
-- element
abbrev pub Consists : (List ℕ → List ℕ → Option ℕ → Type 0) → List (Option ℕ) → List ℕ → List ℕ → Type 0
Consists IsElement [] text end = text ≡ end
Consists IsElement (point ∷ points) text end =
    (element : List ℕ) × (after : List ℕ) × (text ≡ element ++ after) × IsElement after element point
    × Consists IsElement points after end

-- the UTF-16 units of an element's code point
abbrev pub units_of : Option ℕ → List ℕ
units_of None = []
units_of (Some point) = encode_utf16 point

-- the string of the elements' units: two surrogates may join to one code point
abbrev pub string_of : List (Option ℕ) → List ℕ
string_of points = points_of_units (flat_map units_of points)

-- the text `slice`, in UTF-8, is a string literal with its quotes, and `value` is its value
pub record Spells (slice value : List ℕ) : Type 0 where
  pub quote : ℕ
  pub inside : List ℕ
  pub points : List (Option ℕ)
  pub is_quote : (quote ≡ 34) ⊎ (quote ≡ 39)
  pub opens : chars slice ≡ quote ∷ inside
  pub closes : Consists (IsStringElement quote) points inside (quote ∷ [])
  pub is_value : value ≡ string_of points

-- the text `slice`, in UTF-8, is a part of a template without its delimiters, and `value` is its cooked value
pub record SpellsCooked (slice value : List ℕ) : Type 0 where
  pub points : List (Option ℕ)
  pub whole : Consists IsTemplateElement points (chars slice) []
  pub is_value : value ≡ string_of points
