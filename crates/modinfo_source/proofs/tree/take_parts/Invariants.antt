-- What is left and what was taken, from the last on, is all.
use Rattle.std.proofs.Common.{◌≡◌, ◌++◌, reverse}
use Rattle.modinfo_source.proofs.tree.take_parts.Given as goal

abbrev pub invariant-loop-turn : goal.invariant-loop-turn
invariant-loop-turn l = l.parts.items ++ reverse l.taken.items ≡ l.fn.parts.items
