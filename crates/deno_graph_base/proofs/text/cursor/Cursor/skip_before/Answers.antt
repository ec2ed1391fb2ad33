use Rattle.std.proofs.Common.{◌+◌, arith, sym, subst, refl}
use Rattle.deno_graph_base.specs.Position.{IsBefore, position_at}
use Rattle.deno_graph_base.proofs.CursorLemmas.{near_floor, before_from_lt}
use Rattle.deno_graph_base.proofs.PositionLemmas.{IsBefore-trans}
use Rattle.deno_graph_base.proofs.text.cursor.Cursor.skip_before.Goals as goal

pub ahead-next-requires-clause-order : goal.ahead-next-requires-clause-order
ahead-next-requires-clause-order c =
    let inv = c.loop-cursor.invariant in
    let near = near_floor c.args.text.now c.loop-cursor.cursor.offset (c.loop-cursor.cursor.offset + 32)
    c.floor_char_boundary.result c.utf8.text inv.cursor.boundary (omega arith) (omega arith)
    c.floor_char_boundary.ensures.nearest in
    omega arith

pub ahead-next-requires-clause-short : goal.ahead-next-requires-clause-short
ahead-next-requires-clause-short c = omega (arith, c.floor_char_boundary.ensures.bound)

pub loop-cursor-smaller : goal.loop-cursor-smaller
loop-cursor-smaller c =
    let inv = c.loop-cursor.invariant in
    let near = near_floor c.args.text.now c.loop-cursor.cursor.offset (c.loop-cursor.cursor.offset + 32)
    c.floor_char_boundary.result c.utf8.text inv.cursor.boundary (omega arith) (omega arith)
    c.floor_char_boundary.ensures.nearest in
    omega (arith, c.ahead-next.ensures.offset)

pub loop-cursor-preserved : goal.loop-cursor-preserved
loop-cursor-preserved c =
    let text = c.args.text.now in
    let inv = c.loop-cursor.invariant in
    let next = c.ahead-next.ensures.cursor in
    let near = near_floor text c.loop-cursor.cursor.offset (c.loop-cursor.cursor.offset + 32)
    c.floor_char_boundary.result c.utf8.text inv.cursor.boundary (omega arith) (omega arith)
    c.floor_char_boundary.ensures.nearest in
    let reached : IsBefore c.ahead-next.result.position c.args.wanted =
    c.if-not-is_before.ensures.fact.0 refl in
    record {
      cursor = next;
      from = omega (arith, c.ahead-next.ensures.offset);
      before = λ offset from below boundary. IsBefore-trans _ _ _
          (subst (IsBefore (position_at text offset)) (sym next.position)
          (before_from_lt text offset _ c.utf8.text boundary next.boundary below)) reached;
    }
