-- The copies so far and the remaining entries are all entries.
use Rattle.std.proofs.Common.{◌≡◌, ◌++◌}
use Rattle.deno_graph_base.proofs.values.text_map.TextMapTryClone.try_clone.Given as goal

abbrev pub invariant-loop-key : goal.invariant-loop-key
invariant-loop-key g l = l.copy ++ l.key-iterator ≡ l.self
