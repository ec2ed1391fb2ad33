-- The marks of a node and of the children so far.
use Rattle.std.proofs.Common.{◌≡◌, ◌++◌, take}
use Rattle.modinfo_imports.proofs.ClaimedNodes.{below}
use Rattle.modinfo_imports.specs.Nodes.{marks_of}
use Rattle.modinfo_imports.proofs.nodes.+add_marks_below.Given as goal

abbrev pub invariant-loop-child : goal.invariant-loop-child
invariant-loop-child l =
    l.marks.items
    ≡ (l.fn.marks.items ++ marks_of l.text l.node)
    ++ below (marks_of l.text) (take l.child-index l.child-items)
