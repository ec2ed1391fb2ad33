use Rattle.std.proofs.Common.{◌∙◌, map}
use Rattle.std.proofs.lemmas.List.{at_drop_all}
use Rattle.deno_graph_json.specs.Flat.{plain}
use Rattle.deno_graph_json.proofs.FloatNodes.{any_float, element_has_none, next_node}
use Rattle.deno_graph_json.proofs.flat.Element.has_float_node.Goals as goal

pub loop-node-preserved : goal.loop-node-preserved
loop-node-preserved c =
    c.loop-node.invariant ∙ next_node c.args.self.nodes.now c.loop-node.node-index c.loop-node-test.true
    c.in_default.not-Float

pub returns : goal.returns
returns c none =
    element_has_none c.args.self (c.loop-node.invariant
    ∙ at_drop_all (λ ns. any_float (map plain ns)) c.args.self.nodes.now c.loop-node.node-index
    c.loop-node-test.false)
