-- None of the properties so far is the one that is looked for.
use Rattle.std.proofs.Common.{◌≡◌}
use Rattle.modinfo_estree.specs.Kind.{clause_among}
use Rattle.modinfo_estree.proofs.clause.first_with.Given as goal

abbrev pub invariant-loop-property : goal.invariant-loop-property
invariant-loop-property l = clause_among l.property-iterator.rest.items ≡ clause_among l.fn.properties
