use Rattle.std.proofs.Common.{◌++◌, arith, ap, ◌∙◌}
use Rattle.std.specs.Str.{chars}
use Rattle.deno_graph_base.specs.Position.{position_of}
use Rattle.deno_graph_base.proofs.CursorLemmas.{line_le_offset, character_le_offset, IsCursor-ahead}
use Rattle.deno_graph_base.proofs.text.cursor.Cursor.ahead.Goals as goal

pub after-requires-clause-short : goal.after-requires-clause-short
after-requires-clause-short c = omega (arith, c.range.ensures.len)

pub after-requires-clause-line : goal.after-requires-clause-line
after-requires-clause-line c =
    omega (arith, c.range.ensures.len, line_le_offset c.args.text.now _ c.utf8.text c.requires.cursor)

pub after-requires-clause-character : goal.after-requires-clause-character
after-requires-clause-character c =
    omega (arith, c.range.ensures.len, character_le_offset c.args.text.now _ c.utf8.text c.requires.cursor)

pub returns-clause-cursor : goal.returns-clause-cursor
returns-clause-cursor c =
    IsCursor-ahead c.args.text.now c.args.self _ c.utf8.text c.requires.cursor c.requires.boundary
    c.requires.order (λ front is. c.after.ensures front is
    ∙ ap (λ bs. position_of (front ++ chars bs)) c.range.ensures.value)
