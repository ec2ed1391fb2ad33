-- The entries so far are those that the properties so far give.
use Rattle.std.proofs.Common.{take}
use Rattle.deno_graph_dep.specs.Attributes.{HoldsLast, declared}
use Rattle.deno_graph_dep.proofs.attributes.parse_import_attributes.Given as goal

abbrev pub invariant-loop-property : goal.invariant-loop-property
invariant-loop-property l = HoldsLast declared (take l.property-index l.property-items) l.attributes
