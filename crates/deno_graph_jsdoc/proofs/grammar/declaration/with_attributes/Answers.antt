-- `with`, and then a block.
use Rattle.std.specs.Str.{chars}
use Rattle.deno_graph_jsdoc.specs.internal.Reading.{rest_and_mode}
use Rattle.deno_graph_jsdoc.proofs.Blocks.{with_none, with_read}
use Rattle.deno_graph_jsdoc.proofs.Cached.{AreCached-after}
use Rattle.deno_graph_jsdoc.proofs.grammar.declaration.with_attributes.Goals as goal

pub returns-in_err-token : goal.returns-in_err-token
returns-in_err-token c =
    rw c.from_residual.ensures (with_none (chars c.args.input.now) c.in_err-token.ensures)

pub returns : goal.returns
returns c = with_read (chars c.args.input.now) (chars c.in_ok-token.field-0.now)
    (rest_and_mode c.block.result) c.in_ok-token.ensures c.block.ensures

pub block-requires : goal.block-requires
block-requires c = AreCached-after c.args.lists.now c.in_ok-token.ensures.0 c.requires
