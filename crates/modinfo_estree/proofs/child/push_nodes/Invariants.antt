-- The nodes so far, followed by those of the other children, are all nodes.
use Rattle.std.proofs.Common.{◌≡◌, ◌++◌, map}
use Rattle.modinfo_estree.specs.Child.{node_of}
use Rattle.modinfo_estree.proofs.child.push_nodes.Given as goal

abbrev pub invariant-loop-child : goal.invariant-loop-child
invariant-loop-child l =
    l.nodes ++ map node_of l.child-iterator.rest.items ≡ l.fn.nodes ++ map node_of l.fn.children.items
