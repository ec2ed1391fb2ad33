-- The nodes of the children so far have no fault.
use Rattle.std.proofs.Common.{take}
use Rattle.std.specs.List.{All, flat_map}
use Rattle.deno_graph_source.specs.internal.Check.{IsSound}
use Rattle.deno_graph_source.specs.Node.{nodes_in}
use Rattle.deno_graph_source.proofs.tree.check.nodes.+check_node.Given as goal

abbrev pub invariant-loop-number : goal.invariant-loop-number
invariant-loop-number l = All (IsSound l.text) (flat_map nodes_in (take l.number l.child-items))
