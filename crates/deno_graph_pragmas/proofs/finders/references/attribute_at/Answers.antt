use Rattle.std.proofs.Common.{sym, arith}
use Rattle.deno_graph_pragmas.specs.internal.Reading.{attribute_front}
use Rattle.deno_graph_pragmas.proofs.Found.{length_left}
use Rattle.deno_graph_pragmas.proofs.finders.references.attribute_at.Goals as goal

pub capture_quoted-requires : goal.capture_quoted-requires
capture_quoted-requires c =
    let value = c.in_ok-value.ensures in
    let less = length_left (attribute_front c.args.name.now) _ _ c.utf8.rest value.utf8 (sym value.left) in
    omega (arith, less, c.requires.rest)
