-- An identifier, and then white space.
use Rattle.std.specs.Str.{chars}
use Rattle.deno_graph_jsdoc.specs.internal.Reading.{rest_of}
use Rattle.deno_graph_jsdoc.proofs.Clauses.{name_none, name_read}
use Rattle.deno_graph_jsdoc.proofs.grammar.declaration.name.Goals as goal

pub returns-in_err-rest : goal.returns-in_err-rest
returns-in_err-rest c = rw c.from_residual.ensures (name_none (chars c.args.input.now) c.in_err-rest.ensures)

pub returns : goal.returns
returns c =
    name_read (chars c.args.input.now) (chars c.in_ok-rest.rest.now) (chars c.in_ok-rest.field-0-1.now)
    (rest_of c.gap.result) c.in_ok-rest.ensures c.gap.ensures
