-- The copy has the numbers so far.
use Rattle.std.proofs.Common.{◌≡◌, take}
use Rattle.deno_graph_source.proofs.tree.fault_place.try_clone_path.Given as goal

abbrev pub invariant-loop-number : goal.invariant-loop-number
invariant-loop-number l = l.copy ≡ take l.number-index l.number-items
