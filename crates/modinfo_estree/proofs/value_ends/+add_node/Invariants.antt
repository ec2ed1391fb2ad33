-- The ends of the node and of the nodes of the children so far are added.
use Rattle.std.proofs.Common.{◌∷◌, map, take}
use Rattle.std.specs.List.{flat_map}
use Rattle.deno_graph_source.specs.Node.{nodes_in, range_of}
use Rattle.modinfo_estree.specs.internal.ValueEnds.{AreAdded}
use Rattle.modinfo_estree.proofs.value_ends.+add_node.Given as goal

abbrev pub invariant-loop-child : goal.invariant-loop-child
invariant-loop-child l = AreAdded l.text
    (range_of l.node ∷ map range_of (flat_map nodes_in (take l.child-index l.child-items))) l.fn.ends l.ends
