-- White space and line terminators of ECMA-262 (12.2 White Space, 12.3 Line Terminators), as UTF-8 has them.
use Rattle.std.specs.Prelude.{ℕ, ◌+◌, ◌==◌, Bool, ◌&&◌, ◌||◌, List, Option, Some, None, false, zero, suc}
use Rattle.std.specs.Prelude.{if◌then◌else◌, nat_le, slice_index}

-- TAB, LF, VT, FF, CR and SP.
abbrev pub is_ascii_space : ℕ → Bool
is_ascii_space byte = (nat_le 9 byte && nat_le byte 13) || (byte == 32)

-- U+2000 to U+200A, U+2028, U+2029 and U+202F after their first byte, and U+200B, which TypeScript reads as
-- white space.
abbrev pub is_space_of_e280 : ℕ → Bool
is_space_of_e280 third =
    (nat_le 0x80 third && nat_le third 0x8B) || ((third == 0xA8) || ((third == 0xA9) || (third == 0xAF)))

-- U+1680, U+2000 to U+202F as above, U+205F, U+3000 and U+FEFF, and U+180E, which TypeScript reads as white
-- space.
unfoldable pub is_space_of_three : ℕ → ℕ → ℕ → Bool
is_space_of_three first second third =
    ((first == 0xE1) && (((second == 0x9A) && (third == 0x80)) || ((second == 0xA0) && (third == 0x8E))))
    || (((first == 0xE2) && (((second == 0x80) && is_space_of_e280 third)
    || ((second == 0x81) && (third == 0x9F))))
    || (((first == 0xE3) && ((second == 0x80) && (third == 0x80)))
    || ((first == 0xEF) && ((second == 0xBB) && (third == 0xBF)))))

-- How many of three bytes are white space or a line terminator above U+007F. U+00A0 has two, and U+0085,
-- which TypeScript reads as white space.
abbrev pub wide_space_size : ℕ → ℕ → ℕ → ℕ
wide_space_size first second third =
    (if (first == 0xC2) && ((second == 0x85) || (second == 0xA0)) then 2
    else (if is_space_of_three first second third then 3 else 0))

-- How many bytes the white space or the line terminator at an offset has; none if there is none.
unfoldable pub space_size : List ℕ → ℕ → ℕ
space_size text at =
    let first = slice_index text at in
    (if is_ascii_space first then 1
    else wide_space_size first (slice_index text (at + 1)) (slice_index text (at + 2)))

-- One white space or line terminator.
abbrev pub space_step : List ℕ → ℕ → Option ℕ
space_step text at = (if space_size text at == 0 then None else Some (at + space_size text at))

-- A line terminator begins at an offset: LF, CR, U+2028 or U+2029.
unfoldable pub is_line_end : List ℕ → ℕ → Bool
is_line_end text at =
    (slice_index text at == 10) || ((slice_index text at == 13)
    || ((slice_index text at == 0xE2) && ((slice_index text (at + 1) == 0x80)
    && ((slice_index text (at + 2) == 0xA8) || (slice_index text (at + 2) == 0xA9)))))

-- A line terminator begins at one of `count` offsets from `from` on.
unfoldable pub has_line_end : List ℕ → ℕ → ℕ → Bool
has_line_end text from zero = false
has_line_end text from (suc count) = has_line_end text from count || is_line_end text (from + count)
