-- A brace, and then a brace or attributes.
use Rattle.std.specs.Str.{chars}
use Rattle.deno_graph_jsdoc.specs.internal.Reading.{rest_and_mode}
use Rattle.deno_graph_jsdoc.proofs.Blocks.{block_unopened, block_empty, block_attributes}
use Rattle.deno_graph_jsdoc.proofs.Cached.{AreCached-after}
use Rattle.deno_graph_jsdoc.proofs.grammar.attributes.block.Goals as goal

pub returns-in_err-rest : goal.returns-in_err-rest
returns-in_err-rest c =
    rw c.from_residual.ensures (block_unopened (chars c.args.input.now) c.in_err-rest.ensures)

pub returns-in-Some : goal.returns-in-Some
returns-in-Some c = block_empty (chars c.args.input.now) (chars c.in_ok-rest.rest.now) c.in_ok-rest.ensures
    (chars c.in-Some.rest.now) c.in-Some.ensures

pub returns-in-None : goal.returns-in-None
returns-in-None c =
    block_attributes (chars c.args.input.now) (chars c.in_ok-rest.rest.now) c.in_ok-rest.ensures
    (rest_and_mode c.attributes.result) c.in-None.ensures c.attributes.ensures

pub attributes-requires : goal.attributes-requires
attributes-requires c = AreCached-after c.args.cache.now c.in_ok-rest.ensures.0 c.requires
