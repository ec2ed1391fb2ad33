-- A clause with a known object becomes the last clause, and any other property changes nothing.
use Rattle.std.proofs.Common.{Option, ◌||◌, sym, ap, ◌∙◌, subst, ◌+◌}
use Rattle.std.specs.Option.{option_copied}
use Rattle.std.proofs.lemmas.Bool.{both_ways}
use Rattle.std.proofs.lemmas.Result.{IfOk-weaker}
use Rattle.deno_graph_source.specs.declared.tree.node.Node.{Node}
use Rattle.deno_graph_dep.specs.Attributes.{AreObjectAttributes, AreClauseAttributes}
use Rattle.deno_graph_dep.proofs.LastClause.{ClausesBelow, ClausesBelow-skip, ClausesBelow-clause}
use Rattle.deno_graph_dep.proofs.LastClause.{AreClauseAttributes-unknown, AreClauseAttributes-none}
use Rattle.deno_graph_dep.proofs.LastClause.{AreClauseAttributes-last}
use Rattle.deno_graph_dep.proofs.attributes.last_clause_attributes.Goals as goal
use Rattle.deno_graph_dep.proofs.attributes.last_clause_attributes.Goals.{then-is_clause+in-Some}
use Rattle.deno_graph_dep.proofs.attributes.last_clause_attributes.Goals.{else-is_clause}

pub loop-property-preserved : goal.loop-property-preserved
loop-property-preserved c =
    let xs = c.args.properties.now in
    let i = c.loop-property.property-index in
    let property = c.property-item.result in
    let after_with = c.loop-property.after_with in
    let last = option_copied c.loop-property.last in
    let next : Option Node → Type 0 =
    λ o. ClausesBelow xs (i + 1) (after_with || c.has_key-after_with.result) o in
    elim c.if-is_clause.branch [
      | then-is_clause+in-Some w ↦
          subst next (sym (ap option_copied w.last-is))
          (ClausesBelow-clause xs i property c.loop-property-test.true c.property-item.is after_with last
          c.loop-property.invariant
          c.has_key-after_with.result c.has_key-after_with.ensures w.in-Some.object.now
          (c.is_clause.ensures.0 w.if-is_clause.true)
          (sym w.known_object.ensures ∙ ap option_copied w.in-Some.is))
      | else-is_clause w ↦
          subst next (sym (ap option_copied w.last-is))
          (ClausesBelow-skip xs i property c.loop-property-test.true c.property-item.is after_with last
          c.loop-property.invariant
          c.has_key-after_with.result c.has_key-after_with.ensures
          (λ clause. both_ways c.is_clause.result w.if-is_clause.false (c.is_clause.ensures.1 clause)))
    ]

pub returns-in_default : goal.returns-in_default
returns-in_default c =
    AreClauseAttributes-unknown c.args.properties.now c.loop-property.property-index c.property-item.result
    c.loop-property-test.true c.property-item.is
    c.loop-property.after_with (option_copied c.loop-property.last) c.loop-property.invariant
    (c.is_clause.ensures.0 c.if-is_clause.true)
    (sym c.known_object.ensures ∙ ap option_copied c.in_default.is)

pub returns-in-Some-last : goal.returns-in-Some-last
returns-in-Some-last c =
    IfOk-weaker c.parse_import_attributes_from_object_lit.result
    (AreObjectAttributes c.in-Some-last.object.now)
    (AreClauseAttributes c.args.properties.now)
    (λ result given. AreClauseAttributes-last c.args.properties.now c.loop-property.property-index
    c.loop-property.after_with
    (option_copied c.loop-property.last) c.in-Some-last.object.now result c.loop-property-test.false
    (ap option_copied c.in-Some-last.is)
    c.loop-property.invariant given)
    c.parse_import_attributes_from_object_lit.ensures

pub returns-in-None : goal.returns-in-None
returns-in-None c =
    AreClauseAttributes-none c.args.properties.now c.loop-property.property-index c.loop-property.after_with
    (option_copied c.loop-property.last)
    c.loop-property-test.false (ap option_copied c.in-None.is) c.loop-property.invariant
