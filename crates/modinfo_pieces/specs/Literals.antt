-- Strings, templates and regular expressions of ECMA-262 (12.9.4 String Literals, 12.9.5 Regular Expression
-- Literals, 12.9.6 Template Literal Lexical Components).
use Rattle.std.specs.Prelude.{ℕ, ◌+◌, ◌==◌, Bool, true, false, not, ◌&&◌, ◌||◌, List, Option, Some, None}
use Rattle.std.specs.Prelude.{if◌then◌else◌, length, nat_lt, slice_index}
use Rattle.modinfo_pieces.specs.Spaces.{is_line_end}

-- Where an escape in a string ends: after a backslash and one byte, or after a backslash, CR and LF.
abbrev pub escape_end : List ℕ → ℕ → ℕ
escape_end text at =
    (if (slice_index text (at + 1) == 13) && (slice_index text (at + 2) == 10) then at + 3 else at + 2)

-- One character of a string with this quote, or a byte of one: an escape, or a byte but the quote, LF and CR.
unfoldable pub string_step : ℕ → List ℕ → ℕ → Option ℕ
string_step quote text at =
    let byte = slice_index text at in
    (if not (nat_lt at (length text)) || ((byte == quote) || ((byte == 10) || (byte == 13))) then None
    else (if byte == 92 then Some (escape_end text at) else Some (at + 1)))

-- The offset after a quote.
abbrev pub quote_close : ℕ → List ℕ → ℕ → Option ℕ
quote_close quote text at =
    (if nat_lt at (length text) && (slice_index text at == quote) then Some (at + 1) else None)

-- `${` is at an offset.
abbrev pub is_substitution : List ℕ → ℕ → Bool
is_substitution text at = (slice_index text at == 36) && (slice_index text (at + 1) == 123)

-- One character of a template, or a byte of one: a backslash and a byte, or a byte but the backtick and the
-- `$` of `${`.
unfoldable pub template_step : List ℕ → ℕ → Option ℕ
template_step text at =
    let byte = slice_index text at in
    (if not (nat_lt at (length text)) || ((byte == 96) || is_substitution text at) then None
    else (if byte == 92 then Some (at + 2) else Some (at + 1)))

-- The offset after the backtick or the `${` that ends a part of a template.
abbrev pub template_close : List ℕ → ℕ → Option ℕ
template_close text at =
    (if nat_lt at (length text) then Some (if slice_index text at == 96 then at + 1 else at + 2) else None)

-- An offset in a regular expression, and whether it is in a class, as `[/]`.
pub record BodyPlace : Type 0 where
  pub at : ℕ
  pub in_class : Bool

-- The first offset in a regular expression.
abbrev pub body_start : ℕ → BodyPlace
body_start at = record { at = at; in_class = false }

-- A slash that ends a regular expression.
abbrev pub is_body_end : List ℕ → BodyPlace → Bool
is_body_end text place = (slice_index text place.at == 47) && not place.in_class

-- Whether the offset after a byte is in a class.
abbrev pub class_after : ℕ → Bool → Bool
class_after byte in_class = (if byte == 91 then true else (if byte == 93 then false else in_class))

-- One character of a regular expression, or a byte of one: a backslash and a byte that begins no line
-- terminator, or a byte but a line terminator's and the last slash.
unfoldable pub body_step : List ℕ → BodyPlace → Option BodyPlace
body_step text place =
    let byte = slice_index text place.at in
    (if not (nat_lt place.at (length text)) || (is_line_end text place.at || is_body_end text place) then None
    else (if byte == 92 then (if is_line_end text (place.at + 1) then None
    else Some (record { at = place.at + 2; in_class = place.in_class }))
    else Some (record { at = place.at + 1; in_class = class_after byte place.in_class })))

-- The offset after the last slash. Flags are a word after it.
abbrev pub body_close : List ℕ → BodyPlace → Option ℕ
body_close text place =
    (if nat_lt place.at (length text) && is_body_end text place then Some (place.at + 1) else None)
