-- The marks of the nodes so far.
use Rattle.std.proofs.Common.{◌≡◌, ◌++◌, take}
use Rattle.modinfo_imports.proofs.ClaimedNodes.{below}
use Rattle.modinfo_imports.specs.Nodes.{marks_of}
use Rattle.modinfo_imports.proofs.nodes.add_marks.Given as goal

abbrev pub invariant-loop-node : goal.invariant-loop-node
invariant-loop-node l =
    l.marks.items ≡ l.fn.marks.items ++ below (marks_of l.text) (take l.node-index l.nodes)
