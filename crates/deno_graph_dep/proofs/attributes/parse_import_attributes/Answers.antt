-- A property with a static key and a static value puts it at the key, and any other is skipped.
use Rattle.std.proofs.Common.{Some, [], sym, subst, take, ◌+◌}
use Rattle.deno_graph_dep.specs.Attributes.{HoldsLast, attribute_of, declared}
use Rattle.deno_graph_dep.proofs.LastGiven.{HoldsLast-nil, HoldsLast-skip_more, HoldsLast-put_more}
use Rattle.deno_graph_dep.proofs.attributes.parse_import_attributes.Goals as goal
use Rattle.deno_graph_dep.proofs.attributes.parse_import_attributes.Goals.{in-Some-static_entry+in_ok-put_attribute}
use Rattle.deno_graph_dep.proofs.attributes.parse_import_attributes.Goals.{in_default-static_entry}

pub loop-property-init : goal.loop-property-init
loop-property-init c = subst (HoldsLast declared []) (sym c.new-attributes.ensures) (HoldsLast-nil declared)

pub loop-property-preserved : goal.loop-property-preserved
loop-property-preserved c =
    let so_far = HoldsLast declared
    (take (c.loop-property.property-index + 1) c.as_slice-property-items.result.now) in
    elim c.match-static_entry.branch [
      | in-Some-static_entry+in_ok-put_attribute w ↦
          subst so_far (sym w.attributes-is)
          (HoldsLast-put_more declared c.as_slice-property-items.result.now c.loop-property.property-index
          c.property-item.result
          c.loop-property.attributes w.put_attribute.new.attributes w.in-Some-static_entry.key.now
          (attribute_of (Some w.in-Some-static_entry.value.now))
          c.loop-property-test.true c.property-item.is
          (sym w.in-Some-static_entry.ensures) w.in_ok-put_attribute.ensures c.loop-property.invariant)
      | in_default-static_entry w ↦
          subst so_far (sym w.attributes-is)
          (HoldsLast-skip_more declared c.as_slice-property-items.result.now c.loop-property.property-index
          c.property-item.result
          c.loop-property.attributes c.loop-property-test.true c.property-item.is
          (sym w.in_default-static_entry.ensures) c.loop-property.invariant)
    ]
