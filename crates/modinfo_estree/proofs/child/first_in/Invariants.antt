-- None of the children so far is in the group.
use Rattle.std.proofs.Common.{◌≡◌, drop}
use Rattle.modinfo_estree.specs.Child.{nodes_in}
use Rattle.modinfo_estree.proofs.child.first_in.Given as goal

abbrev pub invariant-loop-child : goal.invariant-loop-child
invariant-loop-child l =
    nodes_in l.fn.group (drop l.child-index l.fn.children) ≡ nodes_in l.fn.group l.fn.children
