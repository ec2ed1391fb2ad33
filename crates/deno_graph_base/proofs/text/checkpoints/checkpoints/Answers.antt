use Rattle.std.proofs.Common.{◌≡◌, ◌+◌, ◌≤◌, ◌++◌, ◌∷◌, [], All, arith, sym, subst}
use Rattle.deno_graph_base.specs.internal.Cursor.{AreCursors, IsNear}
use Rattle.deno_graph_base.proofs.CheckpointLemmas.{AreCursors-push, below_last, near_push}
use Rattle.deno_graph_base.proofs.CursorLemmas.{near_floor}
use Rattle.deno_graph_base.proofs.text.checkpoints.checkpoints.Goals as goal

pub ahead-cursor-requires-clause-order : goal.ahead-cursor-requires-clause-order
ahead-cursor-requires-clause-order c =
    let inv = c.loop-cursor.invariant in
    let near = near_floor c.args.text.now c.loop-cursor.cursor.offset (c.loop-cursor.cursor.offset + 96)
    c.floor_char_boundary.result c.utf8.text inv.cursor.boundary (omega arith) (omega arith)
    c.floor_char_boundary.ensures.nearest in
    omega arith

pub ahead-cursor-requires-clause-short : goal.ahead-cursor-requires-clause-short
ahead-cursor-requires-clause-short c = omega (arith, c.floor_char_boundary.ensures.bound)

pub loop-cursor-smaller : goal.loop-cursor-smaller
loop-cursor-smaller c =
    let inv = c.loop-cursor.invariant in
    let near = near_floor c.args.text.now c.loop-cursor.cursor.offset (c.loop-cursor.cursor.offset + 96)
    c.floor_char_boundary.result c.utf8.text inv.cursor.boundary (omega arith) (omega arith)
    c.floor_char_boundary.ensures.nearest in
    omega (arith, c.ahead-cursor.ensures.offset)

pub loop-cursor-preserved : goal.loop-cursor-preserved
loop-cursor-preserved c =
    let text = c.args.text.now in
    let inv = c.loop-cursor.invariant in
    let near = near_floor text c.loop-cursor.cursor.offset (c.loop-cursor.cursor.offset + 96)
    c.floor_char_boundary.result c.utf8.text inv.cursor.boundary (omega arith) (omega arith)
    c.floor_char_boundary.ensures.nearest in
    let next = c.ahead-cursor.result in
    let order : c.loop-cursor.cursor.offset ≤ next.offset = omega (arith, c.ahead-cursor.ensures.offset) in
    let pushed : c.loop-cursor.cursors.items ++ next ∷ [] ≡ c.push.new.self.items =
    sym c.in_ok-push.ensures.items in
    record {
      cursor = c.ahead-cursor.ensures.cursor;
      cursors = subst (AreCursors text) pushed (AreCursors-push text _ next c.loop-cursor.cursor.offset
          inv.cursors
          c.ahead-cursor.ensures.cursor inv.before order);
      near = λ offset under. subst (λ cursors. IsNear cursors offset) pushed
          (near_push _ next c.loop-cursor.cursor.offset inv.near
          (omega (arith, c.ahead-cursor.ensures.offset, c.floor_char_boundary.ensures.bound)) offset under);
      few = omega (arith, inv.few, near, c.ahead-cursor.ensures.offset, c.in_ok-push.ensures.len);
      before = subst (All (λ cursor. cursor.offset ≤ next.offset)) pushed
          (below_last _ next c.loop-cursor.cursor.offset inv.before order);
    }

pub returns-clause-checkpoints : goal.returns-clause-checkpoints
returns-clause-checkpoints c =
    let inv = c.loop-cursor.invariant in
    record { ordered = inv.cursors; near = λ offset within. inv.near offset (omega arith) }
