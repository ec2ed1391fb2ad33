-- Cursors, and the checkpoints of a text.
use Rattle.std.specs.Prelude.{◌≡◌, ◌+◌, ◌<◌, ◌≤◌, ◌⊎◌, ◌==◌, ◌||◌, ◌&&◌, ℕ, Bool, List, All, Any, length}
use Rattle.std.specs.Prelude.{nat_lt}
use Rattle.std.specs.List.Sorted.{IsNonDecreasingBy}
use Rattle.std.specs.Str.{IsCharBoundary}
use Rattle.deno_graph_base.specs.Position.{position_at}
use Rattle.deno_graph_base.specs.declared.text.checkpoints.TheConstants.{STRIDE}
use Rattle.deno_graph_base.specs.declared.text.cursor.Cursor.{Cursor}
use Rattle.deno_graph_base.specs.declared.text.position.Position.{Position}

-- the cursor is at a boundary of `text`, and has the position of that boundary
pub record IsCursor (text : List ℕ) (cursor : Cursor) : Type 0 where
  pub boundary : IsCharBoundary text cursor.offset
  pub position : cursor.position ≡ position_at text cursor.offset

-- the cursors are at boundaries of `text`, and have their positions; their offsets ascend
pub record AreCursors (text : List ℕ) (cursors : List Cursor) : Type 0 where
  pub all : All (IsCursor text) cursors
  pub ascending : IsNonDecreasingBy (λ cursor. cursor.offset) cursors

-- whether `first` is before `second`
abbrev pub is_before : Position → Position → Bool
is_before first second =
    nat_lt first.line second.line || ((first.line == second.line) && nat_lt first.character second.character)

-- more than the most bytes from a checkpoint to an offset that is found from it
abbrev pub reach : ℕ
reach = STRIDE + 1

-- `offset` is within reach of the start of the text, or of one of `cursors` at or before `offset`
abbrev pub IsNear : List Cursor → ℕ → Type 0
IsNear cursors offset =
    (offset < reach) ⊎ Any (λ cursor. (cursor.offset ≤ offset) × (offset < cursor.offset + reach)) cursors

-- the cursors are at boundaries of `text`, and each offset in `text` is within reach of one of them
pub record AreCheckpoints (text : List ℕ) (cursors : List Cursor) : Type 0 where
  pub ordered : AreCursors text cursors
  pub near : (offset : ℕ) → offset ≤ length text → IsNear cursors offset
