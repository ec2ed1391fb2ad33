-- There is white space exactly if the rest is shorter.
use Rattle.deno_graph_jsdoc.proofs.Parts.{gap_read, gap_none}
use Rattle.deno_graph_jsdoc.proofs.grammar.parts.gap.Goals as goal

pub returns-then-rest-input : goal.returns-then-rest-input
returns-then-rest-input c =
    gap_read c.args.input.now c.skip_space-rest.result.now c.utf8.input c.skip_space-rest.utf8
    c.skip_space-rest.ensures c.if-rest-input.true

pub returns-else-rest-input : goal.returns-else-rest-input
returns-else-rest-input c =
    gap_none c.args.input.now c.skip_space-rest.result.now c.utf8.input c.skip_space-rest.utf8
    c.skip_space-rest.ensures c.if-rest-input.false
