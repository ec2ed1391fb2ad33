-- The cursor is at the last checkpoint or the start, and each offset less than a reach after it is near.
use Rattle.std.proofs.Common.{ℕ, ◌+◌, ◌-◌, ◌*◌, ◌<◌, ◌≤◌, All, vec_len, length}
use Rattle.deno_graph_base.specs.internal.Cursor.{IsCursor, AreCursors, IsNear, reach}
use Rattle.deno_graph_base.proofs.text.checkpoints.checkpoints.Given as goal

abbrev pub invariant-loop-cursor : goal.invariant-loop-cursor
invariant-loop-cursor l = record {
  cursor : IsCursor l.text l.cursor;
  cursors : AreCursors l.text l.cursors.items;
  near : (offset : ℕ) → offset < l.cursor.offset + reach → IsNear l.cursors.items offset;
  few : 93 * vec_len l.cursors ≤ l.cursor.offset;
  before : All (λ cursor. cursor.offset ≤ l.cursor.offset) l.cursors.items;
}

abbrev pub decreases-loop-cursor : goal.decreases-loop-cursor
decreases-loop-cursor l = length l.text - l.cursor.offset
