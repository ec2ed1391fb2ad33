-- The nodes so far, followed by those of the other children, are all nodes.
use Rattle.std.proofs.Common.{◌≡◌, ◌++◌, map}
use Rattle.modinfo_estree.specs.Child.{in_extent}
use Rattle.modinfo_estree.proofs.child.nodes_in_parentheses.Given as goal

abbrev pub invariant-loop-child : goal.invariant-loop-child
invariant-loop-child l =
    l.nodes ++ map (in_extent l.fn.range) l.child-iterator.rest.items
    ≡ map (in_extent l.fn.range) l.fn.children.items
