-- The cursor is where the remaining characters begin, and all boundaries before it are before `wanted`.
use Rattle.std.proofs.Common.{◌≡◌, ℕ, ◌≤◌, ◌<◌, drop}
use Rattle.std.specs.Str.{IsCharBoundary}
use Rattle.std.specs.Str.Iter.{chars_rest}
use Rattle.deno_graph_base.specs.internal.Cursor.{IsCursor}
use Rattle.deno_graph_base.specs.Position.{IsBefore, position_at}
use Rattle.deno_graph_base.proofs.text.cursor.Cursor.first_not_before.Given as goal

abbrev pub invariant-loop-c : goal.invariant-loop-c
invariant-loop-c l = record {
  cursor : IsCursor l.text l.cursor;
  rest : drop l.cursor.offset l.text ≡ chars_rest l.c-iterator;
  before : (offset : ℕ) → l.fn.self.offset ≤ offset → offset < l.cursor.offset → IsCharBoundary l.text offset
      → IsBefore (position_at l.text offset) l.wanted;
}
