-- The nodes so far.
use Rattle.std.proofs.Common.{◌≡◌, ◌++◌}
use Rattle.modinfo_source.specs.internal.OpenNodes.{nodes_of_open}
use Rattle.modinfo_source.proofs.tree.children_of.Given as goal

abbrev pub invariant-loop-node : goal.invariant-loop-node
invariant-loop-node l =
    (l.fn.opened.items ≡ l.yielded ++ l.node-iterator.rest.items) × (l.nodes ≡ nodes_of_open l.yielded)
