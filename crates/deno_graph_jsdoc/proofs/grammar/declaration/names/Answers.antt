-- A brace, any text up to the closing brace, and white space.
use Rattle.std.specs.Str.{chars}
use Rattle.deno_graph_jsdoc.proofs.Clauses.{names_unopened, names_unclosed, names_read}
use Rattle.deno_graph_jsdoc.proofs.grammar.declaration.names.Goals as goal

pub returns-in_err-word : goal.returns-in_err-word
returns-in_err-word c =
    rw c.from_residual.ensures (names_unopened (chars c.args.input.now) c.in_err-word.ensures)

pub returns-in_err-through_brace : goal.returns-in_err-through_brace
returns-in_err-through_brace c =
    rw c.from_residual-in_err-through_brace.ensures
    (names_unclosed (chars c.args.input.now)
    (chars c.in_ok-word.field-0.now) c.in_ok-word.ensures c.in_err-through_brace.ensures)

pub returns : goal.returns
returns c =
    rw c.skip_space.ensures
    (names_read (chars c.args.input.now) (chars c.in_ok-word.field-0.now) c.in_ok-word.ensures
    (chars c.in_ok-through_brace.field-0.now) c.in_ok-through_brace.ensures)
