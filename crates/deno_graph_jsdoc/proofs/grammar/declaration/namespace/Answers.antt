-- `*`, `as` and a name, with white space.
use Rattle.std.specs.Str.{chars}
use Rattle.deno_graph_jsdoc.specs.internal.Reading.{rest_of}
use Rattle.deno_graph_jsdoc.proofs.Clauses.{namespace_no_star, namespace_no_as, namespace_no_gap}
use Rattle.deno_graph_jsdoc.proofs.Clauses.{namespace_read}
use Rattle.deno_graph_jsdoc.proofs.grammar.declaration.namespace.Goals as goal

pub returns-in_err-token : goal.returns-in_err-token
returns-in_err-token c =
    rw c.from_residual.ensures (namespace_no_star (chars c.args.input.now) c.in_err-token.ensures)

pub returns-in_err-word : goal.returns-in_err-word
returns-in_err-word c =
    rw c.from_residual-in_err-word.ensures
    (namespace_no_as (chars c.args.input.now)
    (chars c.in_ok-token.field-0.now) c.in_ok-token.ensures c.in_err-word.ensures)

pub returns-in_err-gap : goal.returns-in_err-gap
returns-in_err-gap c =
    rw c.from_residual-in_err-gap.ensures
    (namespace_no_gap (chars c.args.input.now) (chars c.in_ok-token.field-0.now) c.in_ok-token.ensures
    (chars c.in_ok-word.field-0.now) c.in_ok-word.ensures c.in_err-gap.ensures)

pub returns : goal.returns
returns c =
    namespace_read (chars c.args.input.now) (chars c.in_ok-token.field-0.now) c.in_ok-token.ensures
    (chars c.in_ok-word.field-0.now) c.in_ok-word.ensures
    (chars c.in_ok-gap.field-0.now) (rest_of c.name.result) c.in_ok-gap.ensures c.name.ensures
