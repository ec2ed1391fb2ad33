-- White space and the clause.
use Rattle.std.specs.Str.{chars}
use Rattle.deno_graph_jsdoc.specs.internal.Reading.{rest_of}
use Rattle.deno_graph_jsdoc.proofs.Clauses.{head_no_gap, head_read}
use Rattle.deno_graph_jsdoc.proofs.grammar.declaration.after_clause.Goals as goal

pub returns-in_err-gap : goal.returns-in_err-gap
returns-in_err-gap c = rw c.from_residual.ensures (head_no_gap (chars c.args.input.now) c.in_err-gap.ensures)

pub returns : goal.returns
returns c = head_read (chars c.args.input.now) (chars c.in_ok-gap.field-0.now)
    (rest_of c.clause.result) c.in_ok-gap.ensures c.clause.ensures
