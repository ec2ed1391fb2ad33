-- The copies so far are the children so far.
use Rattle.std.proofs.Common.{◌≡◌, take}
use Rattle.deno_graph_source.proofs.tree.node.NodeTryClone.+try_clone.Given as goal

abbrev pub invariant-loop-child : goal.invariant-loop-child
invariant-loop-child l = l.children ≡ take l.child-index l.child-items
