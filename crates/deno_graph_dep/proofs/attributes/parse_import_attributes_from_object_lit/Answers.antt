-- A property with a static key puts what is known of its value at the key.
use Rattle.std.proofs.Common.{◌≡◌, true, Some, [], sym, ap, ◌∙◌, subst, refl, is_some}
use Rattle.std.specs.Option.{option_copied}
use Rattle.std.proofs.lemmas.Bool.{and_from}
use Rattle.std.proofs.lemmas.List.Folds.{list_all_more}
use Rattle.deno_graph_dep.specs.Attributes.{HoldsLast, attribute_of, in_object, static_key}
use Rattle.deno_graph_dep.proofs.LastGiven.{HoldsLast-nil, HoldsLast-put_more, in_object-key}
use Rattle.deno_graph_dep.proofs.attributes.parse_import_attributes_from_object_lit.Goals as goal

pub loop-property-init : goal.loop-property-init
loop-property-init c = (
  refl,
  subst (HoldsLast in_object []) (sym c.new-attributes.ensures) (HoldsLast-nil in_object),
)

pub loop-property-preserved : goal.loop-property-preserved
loop-property-preserved c =
    let property = c.property-item.result in
    let key : static_key property ≡ Some c.in-Some.key.now = sym c.static_key.ensures
    ∙ ap option_copied c.in-Some.is in
    let here : is_some (static_key property) ≡ true = ap is_some key in (
      list_all_more (λ p. is_some
          (static_key p)) c.as_slice-property-items.result.now c.loop-property.property-index property
          c.loop-property-test.true
          ∙ and_from _ _ c.loop-property.invariant.0
          (ap (λ p. is_some (static_key p)) (sym c.property-item.is) ∙ here),
      HoldsLast-put_more in_object c.as_slice-property-items.result.now c.loop-property.property-index
          property
          c.loop-property.attributes c.put_attribute.new.attributes
          c.in-Some.key.now (attribute_of
          (option_copied c.static_value.result)) c.loop-property-test.true c.property-item.is
          (in_object-key property c.in-Some.key.now key
          ∙ ap (λ v. Some (c.in-Some.key.now, attribute_of v)) (sym c.static_value.ensures))
          c.in_ok-put_attribute.ensures c.loop-property.invariant.1,
    )
