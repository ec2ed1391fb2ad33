-- Comments of ECMA-262 (12.4 Comments, 12.5 Hashbang Comments, B.1.1 HTML-like Comments).
use Rattle.std.specs.Prelude.{ℕ, ◌+◌, ◌-◌, ◌==◌, Bool, not, ◌&&◌, List, Option, Some, None, if◌then◌else◌}
use Rattle.std.specs.Prelude.{length, nat_le, nat_lt, slice_index, slice_range}
use Rattle.std.specs.Str.{bytes_eq}
use Rattle.modinfo_pieces.specs.Spaces.{is_line_end}

-- These bytes are at an offset.
abbrev pub has_bytes : List ℕ → ℕ → List ℕ → Bool
has_bytes text at bytes =
    nat_le at (length text) && (nat_le (length bytes) (length text - at)
    && bytes_eq (slice_range text at (at + length bytes)) bytes)

-- A byte of a line comment: any but the first of a line terminator.
abbrev pub line_step : List ℕ → ℕ → Option ℕ
line_step text at = (if nat_lt at (length text) && not (is_line_end text at) then Some (at + 1) else None)

-- `*/` is at an offset.
abbrev pub is_comment_end : List ℕ → ℕ → Bool
is_comment_end text at = (slice_index text at == 42) && (slice_index text (at + 1) == 47)

-- A byte inside a block comment: any but the `*` of `*/`.
abbrev pub block_step : List ℕ → ℕ → Option ℕ
block_step text at = (if nat_lt at (length text) && not (is_comment_end text at) then Some (at + 1) else None)

-- The offset after `*/`, if the text doesn't end before.
abbrev pub block_close : List ℕ → ℕ → Option ℕ
block_close text at = (if nat_lt at (length text) then Some (at + 2) else None)
