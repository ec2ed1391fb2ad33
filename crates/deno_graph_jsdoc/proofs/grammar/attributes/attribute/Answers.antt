-- A key, a colon and a value, one after the other.
use Rattle.std.proofs.Common.{Some, None}
use Rattle.std.specs.Str.{chars}
use Rattle.deno_graph_jsdoc.proofs.Attributes.{attribute_no_key, attribute_no_colon, attribute_read}
use Rattle.deno_graph_jsdoc.proofs.grammar.attributes.attribute.Goals as goal

pub returns-in_err-rest : goal.returns-in_err-rest
returns-in_err-rest c =
    rw c.from_residual.ensures (attribute_no_key (chars c.args.input.now) c.in_err-rest.ensures)

pub returns-in_err-rest-2 : goal.returns-in_err-rest-2
returns-in_err-rest-2 c =
    rw c.from_residual-in_err-rest-2.ensures
    (attribute_no_colon (chars c.args.input.now) (chars c.in_ok-rest.rest.now)
    (chars c.in_ok-rest.key.now) c.in_ok-rest.ensures
    (rw c.skip_space.ensures at c.in_err-rest-2.ensures))

pub returns-in_err-rest-3 : goal.returns-in_err-rest-3
returns-in_err-rest-3 c =
    rw c.from_residual-in_err-rest-3.ensures
    (attribute_read (chars c.args.input.now) (chars c.in_ok-rest.rest.now)
    (chars c.in_ok-rest.key.now) c.in_ok-rest.ensures
    (chars c.in_ok-rest-2.rest.now)
    (rw c.skip_space.ensures at c.in_ok-rest-2.ensures) None c.in_err-rest-3.ensures)

pub returns : goal.returns
returns c =
    attribute_read (chars c.args.input.now) (chars c.in_ok-rest.rest.now)
    (chars c.in_ok-rest.key.now) c.in_ok-rest.ensures
    (chars c.in_ok-rest-2.rest.now) (rw c.skip_space.ensures at c.in_ok-rest-2.ensures)
    (Some (chars c.in_ok-rest-3.rest.now, chars c.in_ok-rest-3.value.now)) c.in_ok-rest-3.ensures
