-- The copies so far are equal to the items so far.
use Rattle.std.proofs.Common.{◌≡◌, take}
use Rattle.deno_graph_base.proofs.values.items.ItemsTryClone.try_clone.Given as goal

abbrev pub invariant-loop-item : goal.invariant-loop-item
invariant-loop-item g l = l.vec.items ≡ take l.item-index l.self
