-- The last clause among the properties so far, and whether one has the key `with`.
use Rattle.std.specs.Option.{option_copied}
use Rattle.deno_graph_dep.proofs.LastClause.{ClausesBelow}
use Rattle.deno_graph_dep.proofs.attributes.last_clause_attributes.Given as goal

abbrev pub invariant-loop-property : goal.invariant-loop-property
invariant-loop-property l = ClausesBelow l.properties l.property-index l.after_with (option_copied l.last)
