-- All boundaries before the cursor are before `wanted`.
use Rattle.std.proofs.Common.{ℕ, ◌-◌, ◌≤◌, ◌<◌, length}
use Rattle.std.specs.Str.{IsCharBoundary}
use Rattle.deno_graph_base.specs.internal.Cursor.{IsCursor}
use Rattle.deno_graph_base.specs.Position.{IsBefore, position_at}
use Rattle.deno_graph_base.proofs.text.cursor.Cursor.skip_before.Given as goal

abbrev pub invariant-loop-cursor : goal.invariant-loop-cursor
invariant-loop-cursor l = record {
  cursor : IsCursor l.text l.cursor;
  from : l.fn.self.offset ≤ l.cursor.offset;
  before : (offset : ℕ) → l.fn.self.offset ≤ offset → offset < l.cursor.offset → IsCharBoundary l.text offset
      → IsBefore (position_at l.text offset) l.wanted;
}

abbrev pub decreases-loop-cursor : goal.decreases-loop-cursor
decreases-loop-cursor l = length l.text - l.cursor.offset
