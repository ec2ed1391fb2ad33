use Rattle.std.proofs.Common.{[], ◌∷◌, map, ap, subst, sym, ◌∙◌}
use Rattle.std.proofs.lemmas.List.{take_all}
use Rattle.std.specs.List.{flat_map}
use Rattle.deno_graph_source.specs.Node.{children_of, nodes_in, range_of}
use Rattle.deno_graph_source.proofs.Nodes.{nodes_in-is}
use Rattle.modinfo_estree.specs.internal.ValueEnds.{AreAdded}
use Rattle.modinfo_estree.proofs.FoundEnds.{node_added}
use Rattle.modinfo_estree.proofs.value_ends.+add_node.Goals as goal

pub loop-child-init : goal.loop-child-init
unfolding range_of
loop-child-init t c = c.in_ok-add_range.ensures

pub loop-child-preserved : goal.loop-child-preserved
loop-child-preserved t c =
    node_added c.args.text.now (range_of c.args.node.now ∷ []) _ c.loop-child.child-index
    c.child-item.result _ _ _ c.loop-child-test.true c.child-item.is c.loop-child.invariant
    c.in_ok-add_node.ensures

pub returns : goal.returns
unfolding children_of
returns t c =
    let node = c.args.node.now in
    subst (λ ranges. AreAdded c.args.text.now ranges c.args.ends.now c.loop-child.ends)
    (ap (λ children. range_of node ∷ map range_of (flat_map nodes_in children))
    (take_all _ _ c.loop-child-test.false ∙ c.as_slice-child-items.ensures)
    ∙ ap (map range_of) (sym (nodes_in-is node))) c.loop-child.invariant
