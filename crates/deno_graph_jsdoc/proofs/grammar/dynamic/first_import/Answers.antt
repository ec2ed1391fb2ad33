-- A brace, and the text up to the first `import`.
use Rattle.std.specs.Str.{chars}
use Rattle.deno_graph_jsdoc.specs.internal.Reading.{rest_of}
use Rattle.deno_graph_jsdoc.proofs.Arguments.{first_unopened, first_read}
use Rattle.deno_graph_jsdoc.proofs.grammar.dynamic.first_import.Goals as goal

pub returns-in_err-word : goal.returns-in_err-word
returns-in_err-word c =
    rw c.from_residual.ensures (first_unopened (chars c.args.input.now) c.in_err-word.ensures)

pub returns : goal.returns
returns c = first_read (chars c.args.input.now) (chars c.in_ok-word.field-0.now)
    (rest_of c.up_to_import.result) c.in_ok-word.ensures c.up_to_import.ensures
