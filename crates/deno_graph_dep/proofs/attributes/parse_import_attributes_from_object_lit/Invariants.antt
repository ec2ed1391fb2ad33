-- The properties so far have static keys, and the entries so far are those that they give.
use Rattle.std.proofs.Common.{◌≡◌, true, take, is_some}
use Rattle.std.specs.List.{list_all}
use Rattle.deno_graph_dep.specs.Attributes.{HoldsLast, in_object, static_key}
use Rattle.deno_graph_dep.proofs.attributes.parse_import_attributes_from_object_lit.Given as goal

abbrev pub invariant-loop-property : goal.invariant-loop-property
invariant-loop-property l =
    (list_all (λ property. is_some (static_key property)) (take l.property-index l.property-items) ≡ true)
    × HoldsLast in_object (take l.property-index l.property-items) l.attributes
