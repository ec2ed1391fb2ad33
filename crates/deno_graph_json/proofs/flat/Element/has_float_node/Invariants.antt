-- None of the nodes so far is a float.
use Rattle.std.specs.Prelude.{◌≡◌, drop, map}
use Rattle.deno_graph_json.specs.Flat.{plain}
use Rattle.deno_graph_json.proofs.FloatNodes.{any_float}
use Rattle.deno_graph_json.proofs.flat.Element.has_float_node.Given as goal

abbrev pub invariant-loop-node : goal.invariant-loop-node
invariant-loop-node l =
    any_float (map plain l.node-items) ≡ any_float (map plain (drop l.node-index l.node-items))
