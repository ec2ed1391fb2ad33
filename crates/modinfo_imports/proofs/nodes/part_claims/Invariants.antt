-- The pieces of the parts so far.
use Rattle.std.proofs.Common.{◌≡◌, map, take}
use Rattle.modinfo_imports.specs.Nodes.{part_claim}
use Rattle.modinfo_imports.proofs.nodes.part_claims.Given as goal

abbrev pub invariant-loop-part : goal.invariant-loop-part
invariant-loop-part l = l.claims.items ≡ map (part_claim l.text) (take l.part-index l.parts)
