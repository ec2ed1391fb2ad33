use Rattle.std.proofs.Common.{refl}
use Rattle.deno_graph_base.proofs.CursorLemmas.{IsCursor-start}
use Rattle.deno_graph_base.proofs.PositionLemmas.{position_of-nil}
use Rattle.deno_graph_base.proofs.text.cursor.Cursor.start.Goals as goal

pub returns-clause-cursor : goal.returns-clause-cursor
returns-clause-cursor c = λ text utf8.
    IsCursor-start text _ utf8 refl (position_of-nil _ c.zeroed.ensures.line c.zeroed.ensures.character)
