-- Ranges of a text.
use Rattle.std.specs.Prelude.{ℕ, ◌==◌, Bool, ◌&&◌, List, length, nat_le, slice_index}
use Rattle.std.specs.Fmt.{is_char_start}
use Rattle.deno_graph_base.specs.declared.text.position.SourceRange.{SourceRange}

-- Whether two ranges are the same.
abbrev pub is_range : SourceRange → SourceRange → Bool
is_range a b = (a.start == b.start) && (a.end == b.end)

-- The offset is the start of a character of the text, or the end of the text.
abbrev pub is_boundary : List ℕ → ℕ → Bool
is_boundary text at = nat_le at (length text) && is_char_start (slice_index text at)

-- The range is inside the text, not reversed, and starts and ends at boundaries.
abbrev pub is_text_range : List ℕ → SourceRange → Bool
is_text_range text range =
    (nat_le range.start range.end && is_boundary text range.start) && is_boundary text range.end

-- The range from an offset of a text to the end of the text.
abbrev pub rest_range : List ℕ → ℕ → SourceRange
rest_range text at = record { start = at; end = length text }
