-- Words: names, keywords and numbers alike, each as long as it can be.
use Rattle.std.specs.Prelude.{ℕ, ◌+◌, ◌==◌, Bool, not, ◌&&◌, ◌||◌, List, Option, Some, None, if◌then◌else◌}
use Rattle.std.specs.Prelude.{drop, length, nat_le, position, slice_index, unwrap_or}
use Rattle.modinfo_pieces.specs.Spaces.{space_size}

-- An ASCII letter or digit, `$` or `_`.
unfoldable pub is_word_byte : ℕ → Bool
is_word_byte byte =
    ((nat_le 97 byte && nat_le byte 122) || (nat_le 65 byte && nat_le byte 90))
    || ((nat_le 48 byte && nat_le byte 57) || ((byte == 36) || (byte == 95)))

-- A hexadecimal digit.
abbrev pub is_hex_digit : ℕ → Bool
is_hex_digit byte =
    (nat_le 48 byte && nat_le byte 57)
    || ((nat_le 65 byte && nat_le byte 70) || (nat_le 97 byte && nat_le byte 102))

-- A byte above 127 that begins no white space: one of a character above U+007F.
abbrev pub is_wide_byte : List ℕ → ℕ → Bool
is_wide_byte text at = nat_le 128 (slice_index text at) && (space_size text at == 0)

-- How many hexadecimal digits there are from an offset on.
unfoldable pub hex_digits : List ℕ → ℕ → ℕ
hex_digits text from =
    let rest = drop from text in unwrap_or (position (λ byte. not (is_hex_digit byte)) rest) (length rest)

-- The length of an escape: of `\u{..}` whole, otherwise of the backslash alone, since the bytes after it are
-- bytes of a word.
unfoldable pub escape_size : List ℕ → ℕ → ℕ
escape_size text at =
    let digits = hex_digits text (at + 3) in
    (if ((slice_index text (at + 1) == 117) && (slice_index text (at + 2) == 123))
    && (slice_index text ((at + 3) + digits) == 125) then 4 + digits else 1)

-- A byte of a word, or an escape.
unfoldable pub word_step : List ℕ → ℕ → Option ℕ
word_step text at =
    (if is_word_byte (slice_index text at) || is_wide_byte text at then Some (at + 1)
    else (if slice_index text at == 92 then Some (at + escape_size text at) else None))
