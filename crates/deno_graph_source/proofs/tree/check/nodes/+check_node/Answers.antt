use Rattle.std.proofs.Common.{◌≡◌, Some, refl, subst}
use Rattle.std.specs.List.{All, slice_get}
use Rattle.std.proofs.lemmas.Option.{MatchOption-at_none, MatchOption-at_some, slice_get_read}
use Rattle.deno_graph_source.proofs.NodeFindings.{found_from_child}
use Rattle.deno_graph_source.proofs.Lists.{All-flat_map_more, All-flat_map_all}
use Rattle.deno_graph_source.proofs.Nodes.{All-nodes_in}
use Rattle.deno_graph_source.specs.internal.Check.{IsSound}
use Rattle.deno_graph_source.specs.internal.Finding.{IsFindingBelow}
use Rattle.deno_graph_source.specs.Node.{children_of, nodes_in}
use Rattle.deno_graph_source.proofs.tree.check.nodes.+check_node.Goals as goal

pub returns-in-Some : goal.returns-in-Some
unfolding children_of
returns-in-Some t c =
    let text = c.args.text.now in
    let node = c.args.node.now in
    let child = c.child-item.result in
    let number = c.loop-number.number in
    let at = slice_get_read _ _ number child refl c.loop-number-test.true c.child-item.is in
    found_from_child text number c.in-Some.found c.in_ok-below.field-0 c.in_ok-below.ensures.at
    c.in_ok-below.ensures.reversed_path node child
    (subst (λ xs. slice_get xs number ≡ Some child) c.as_slice-child-items.ensures at)
    (MatchOption-at_some (All (IsSound text) (nodes_in child)) (IsFindingBelow text child) c.in-Some.found
    c.in-Some.is c.in_ok-found.ensures)

pub loop-number-preserved : goal.loop-number-preserved
loop-number-preserved t c =
    let text = c.args.text.now in
    let child = c.child-item.result in
    All-flat_map_more (IsSound text) nodes_in _ _ _ c.loop-number-test.true c.child-item.is
    c.loop-number.invariant
    (MatchOption-at_none (All (IsSound text) (nodes_in child)) (IsFindingBelow text child) c.in_default-2.is
    c.in_ok-found.ensures)

pub returns : goal.returns
returns t c =
    let text = c.args.text.now in
    let below = All-flat_map_all (IsSound text) nodes_in _ _ _ c.as_slice-child-items.ensures
    c.loop-number-test.false c.loop-number.invariant in
    All-nodes_in (IsSound text) c.args.node.now c.in_default.ensures (unfold children_of in below)
