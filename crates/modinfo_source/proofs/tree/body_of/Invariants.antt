-- The literals in all nodes so far have the values that the text spells.
use Rattle.std.proofs.Common.{map}
use Rattle.modinfo_imports.specs.Nodes.{part_claim}
use Rattle.modinfo_source.specs.internal.OpenNodes.{AreSpelled}
use Rattle.modinfo_source.proofs.tree.body_of.Given as goal

abbrev pub invariant-loop-index : goal.invariant-loop-index
invariant-loop-index l = AreSpelled l.text (map (part_claim l.text) l.all_parts) l.open
