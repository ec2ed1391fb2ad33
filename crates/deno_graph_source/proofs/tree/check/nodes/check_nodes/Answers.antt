use Rattle.std.proofs.Common.{◌≡◌, Some, refl, subst}
use Rattle.std.specs.List.{All, slice_get}
use Rattle.std.proofs.lemmas.Option.{MatchOption-at_none, MatchOption-at_some, slice_get_read}
use Rattle.deno_graph_source.proofs.NodeFindings.{found_from_item}
use Rattle.deno_graph_source.proofs.Lists.{All-flat_map_more, All-flat_map_all}
use Rattle.deno_graph_source.specs.internal.Check.{IsSound}
use Rattle.deno_graph_source.specs.internal.Finding.{IsFindingBelow}
use Rattle.deno_graph_source.specs.Node.{nodes_in, nodes_of}
use Rattle.deno_graph_source.proofs.tree.check.nodes.check_nodes.Goals as goal

pub returns-in-Some : goal.returns-in-Some
returns-in-Some c =
    let text = c.args.text.now in
    let item = c.node-item.result in
    let number = c.loop-number.number in
    let at = slice_get_read _ _ number item refl c.loop-number-test.true c.node-item.is in
    found_from_item text number c.in-Some.found c.in_ok-below.field-0 c.in_ok-below.ensures.at
    c.in_ok-below.ensures.reversed_path c.args.program.now item
    (subst (λ xs. slice_get xs number ≡ Some item) c.as_slice-node-items.ensures at)
    (MatchOption-at_some (All (IsSound text) (nodes_in item)) (IsFindingBelow text item) c.in-Some.found
    c.in-Some.is c.in_ok-found.ensures)

pub loop-number-preserved : goal.loop-number-preserved
loop-number-preserved c =
    let text = c.args.text.now in
    let item = c.node-item.result in
    All-flat_map_more (IsSound text) nodes_in _ _ _ c.loop-number-test.true c.node-item.is
    c.loop-number.invariant
    (MatchOption-at_none (All (IsSound text) (nodes_in item)) (IsFindingBelow text item) c.in_default.is
    c.in_ok-found.ensures)

pub returns : goal.returns
unfolding nodes_of
returns c =
    All-flat_map_all (IsSound c.args.text.now) nodes_in c.args.program.now.body _ _
    c.as_slice-node-items.ensures c.loop-number-test.false c.loop-number.invariant
