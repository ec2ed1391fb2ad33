-- Ranges of a text by offsets in bytes.
use Rattle.std.specs.Prelude.{ℕ, ◌-◌, ◌≤◌, List, take, drop}
use Rattle.std.specs.Str.{IsCharBoundary}
use Rattle.deno_graph_base.specs.declared.text.position.SourceRange.{SourceRange}

-- the range is not reversed, and it starts and ends at boundaries of `text`, so that it is inside
pub record IsTextRange (text : List ℕ) (range : SourceRange) : Type 0 where
  pub ordered : range.start ≤ range.end
  pub start : IsCharBoundary text range.start
  pub end : IsCharBoundary text range.end

-- the bytes of `text` in the range
abbrev pub slice_of : List ℕ → SourceRange → List ℕ
slice_of text range = take (range.end - range.start) (drop range.start text)
