-- The ends of the values in the nodes so far are found.
use Rattle.std.proofs.Common.{take}
use Rattle.modinfo_estree.specs.ValueEnds.{ranges_in}
use Rattle.modinfo_estree.specs.internal.ValueEnds.{AreAdded}
use Rattle.modinfo_estree.proofs.value_ends.ValueEnds.new.Given as goal

abbrev pub invariant-loop-node : goal.invariant-loop-node
invariant-loop-node l = AreAdded l.text (ranges_in (take l.node-index l.body)) l.initial.ends l.ends
