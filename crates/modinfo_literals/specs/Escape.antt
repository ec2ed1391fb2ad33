-- Escapes of JavaScript's string literals and templates, without their backslash (ECMA-262, 12.9.4 and
-- 12.9.6). A text is its list of code points. In each relation `after` is the text after an escape: some
-- escapes are as long as they can be.
use Rattle.std.specs.Prelude.{◌≡◌, ◌<◌, ◌≤◌, ◌⊎◌, ℕ, ◌+◌, ◌*◌, ◌==◌, ◌||◌, Bool, true, false, if◌then◌else◌}
use Rattle.std.specs.Prelude.{Option, Some, None, List, [], ◌∷◌, ◌++◌, length, fold, codes, nat_lt}
use Rattle.std.specs.Char.{digit_value, is_digit}
use Rattle.std.specs.List.{AllByRecursion, list_any}

-- the text begins with a character that passes the test
abbrev pub begins_with : (ℕ → Bool) → List ℕ → Bool
begins_with test [] = false
begins_with test (c ∷ text) = test c

-- the text consists of digits of this base
abbrev pub AreDigits : ℕ → List ℕ → Type 0
AreDigits base digits = AllByRecursion (λ c. is_digit c base ≡ true) digits

-- the number that digits stand for
abbrev pub number : ℕ → List ℕ → ℕ
number base digits = fold (λ n digit. n * base + digit_value digit) 0 digits

-- line feed, carriage return, line separator and paragraph separator
abbrev pub is_line_terminator : ℕ → Bool
is_line_terminator c = c == 10 || (c == 13 || (c == 0x2028 || c == 0x2029))

-- LineTerminatorSequence: a line terminator, or a carriage return with its line feed
pub data IsLineEnd (after : List ℕ) : List ℕ → Type 0 where
  carriage_return_line_feed : IsLineEnd after (13 ∷ 10 ∷ [])
  carriage_return : begins_with (λ c. c == 10) after ≡ false → IsLineEnd after (13 ∷ [])
  other_terminator : (c : ℕ) → is_line_terminator c ≡ true → (c == 13) ≡ false → IsLineEnd after (c ∷ [])

-- a character that begins an escape of its own, or ends a line: EscapeCharacter without the quotes and the
-- backslash, or LineTerminator
abbrev pub is_special : ℕ → Bool
is_special c = list_any (λ d. c == d) (codes "btnvfrxu") || (is_digit c 10 || is_line_terminator c)

-- an escape that both literals have: its text, and the code point that the escape stands for, or `None` if
-- the escape stands for nothing
pub data IsCommonEscape (after : List ℕ) : List ℕ → Option ℕ → Type 0 where
  -- SingleEscapeCharacter, by Table 37
  backspace : IsCommonEscape after (codes "b") (Some 0x8)
  tab : IsCommonEscape after (codes "t") (Some 0x9)
  line_feed : IsCommonEscape after (codes "n") (Some 0xA)
  vertical_tab : IsCommonEscape after (codes "v") (Some 0xB)
  form_feed : IsCommonEscape after (codes "f") (Some 0xC)
  carriage_return : IsCommonEscape after (codes "r") (Some 0xD)
  -- a quote, a backslash, and NonEscapeCharacter
  itself : (c : ℕ) → is_special c ≡ false → IsCommonEscape after (c ∷ []) (Some c)
  -- HexEscapeSequence
  hex : (digits : List ℕ) → AreDigits 16 digits → length digits ≡ 2
      → IsCommonEscape after (codes "x" ++ digits) (Some (number 16 digits))
  -- UnicodeEscapeSequence
  unicode : (digits : List ℕ) → AreDigits 16 digits → length digits ≡ 4
      → IsCommonEscape after (codes "u" ++ digits) (Some (number 16 digits))
  code_point : (digits : List ℕ) → AreDigits 16 digits → 0 < length digits → number 16 digits ≤ 0x10_FFFF
      → IsCommonEscape after (codes "u{" ++ (digits ++ codes "}")) (Some (number 16 digits))
  -- LineContinuation
  line_continuation : (text : List ℕ) → IsLineEnd after text → IsCommonEscape after text None

-- the most digits that an octal escape with these digits has: three after 0 to 3, two after 4 to 7
abbrev pub most_octal_digits : List ℕ → ℕ
most_octal_digits digits = if begins_with (λ c. nat_lt c 52) digits then 3 else 2

-- an escape of a string literal
pub data IsStringEscape (after : List ℕ) : List ℕ → Option ℕ → Type 0 where
  common : (text : List ℕ) (point : Option ℕ) → IsCommonEscape after text point
      → IsStringEscape after text point
  -- LegacyOctalEscapeSequence, and `0` before no digit: as many octal digits as there are
  octal : (digits : List ℕ) → AreDigits 8 digits → 0 < length digits
      → length digits ≤ most_octal_digits digits
      → (length digits ≡ most_octal_digits digits) ⊎ (begins_with (λ c. is_digit c 8) after ≡ false)
      → IsStringEscape after digits (Some (number 8 digits))
  -- NonOctalDecimalEscapeSequence: `8` or `9`
  eight_or_nine : (c : ℕ) → is_digit c 10 ≡ true → is_digit c 8 ≡ false
      → IsStringEscape after (c ∷ []) (Some c)

-- TemplateEscapeSequence
pub data IsTemplateEscape (after : List ℕ) : List ℕ → Option ℕ → Type 0 where
  common : (text : List ℕ) (point : Option ℕ) → IsCommonEscape after text point
      → IsTemplateEscape after text point
  zero : begins_with (λ c. is_digit c 10) after ≡ false → IsTemplateEscape after (codes "0") (Some 0)
