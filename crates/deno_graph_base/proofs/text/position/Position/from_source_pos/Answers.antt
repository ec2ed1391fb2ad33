use Rattle.std.proofs.Common.{arith, sym, ap, ◌∙◌, subst}
use Rattle.std.specs.Str.{IsCharBoundary}
use Rattle.deno_graph_base.specs.internal.Cursor.{IsCursor}
use Rattle.deno_graph_base.specs.Position.{position_at}
use Rattle.deno_graph_base.proofs.text.position.Position.from_source_pos.Goals as goal

pub ahead-requires-clause-cursor : goal.ahead-requires-clause-cursor
ahead-requires-clause-cursor c =
    subst (λ text. IsCursor text c.cursor_up_to.result) (sym c.text.ensures) c.cursor_up_to.ensures.cursor

pub ahead-requires-clause-boundary : goal.ahead-requires-clause-boundary
ahead-requires-clause-boundary c =
    subst (λ text. IsCharBoundary text c.args.offset) (sym c.text.ensures) c.requires

pub ahead-requires-clause-short : goal.ahead-requires-clause-short
ahead-requires-clause-short c = omega (arith, c.cursor_up_to.ensures.near c.requires.0)

pub returns : goal.returns
returns c =
    c.ahead.ensures.cursor.position ∙ ap (position_at c.text.result.now) c.ahead.ensures.offset
    ∙ ap (λ text. position_at text c.args.offset) c.text.ensures
