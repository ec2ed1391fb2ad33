-- The copies so far and the remaining entries are all entries.
use Rattle.std.proofs.Common.{◌≡◌, ◌++◌}
use Rattle.deno_graph_source.proofs.tree.by_offset.ByOffsetTryClone.try_clone.Given as goal

abbrev pub invariant-loop-pos : goal.invariant-loop-pos
invariant-loop-pos g l = l.map.entries ++ l.pos-iterator ≡ l.self
