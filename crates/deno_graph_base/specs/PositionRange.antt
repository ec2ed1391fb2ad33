-- Ranges of a text by positions.
use Rattle.std.specs.Prelude.{ℕ, List}
use Rattle.deno_graph_base.specs.Position.{IsAt}
use Rattle.deno_graph_base.specs.declared.text.position.PositionRange.{PositionRange}
use Rattle.deno_graph_base.specs.declared.text.position.SourceRange.{SourceRange}

-- `range` starts and ends at boundaries of `text` with the two positions
pub record IsRangeAt (text : List ℕ) (positions : PositionRange) (range : SourceRange) : Type 0 where
  pub start : IsAt text positions.start range.start
  pub end : IsAt text positions.end range.end
