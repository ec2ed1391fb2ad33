use Rattle.std.proofs.Common.{Some, arith, ap}
use Rattle.serde_json.specs.Data.{items_depth}
use Rattle.deno_graph_json.specs.Data.{data_of, elements_data}
use Rattle.deno_graph_json.proofs.ArrayElements.{elements_next}
use Rattle.modinfo_document.proofs.Nodes.{depth_of_items}
use Rattle.modinfo_document.proofs.report.warnings.Survey.+walk.Goals as goal

pub nodes-loop-node-init : goal.nodes-loop-node-init
nodes-loop-node-init t c =
    let all = ap (λ es. items_depth (elements_data es)) c.into_iter-node-iterator.ensures.into_iter_gives in
    let inner = depth_of_items c.args.name.now (data_of c.args.parent) (elements_data c.in-Some.nodes)
    c.in-Some.ensures in
    (tt, tt, omega (arith, all, inner))

pub nodes-loop-node-preserved : goal.nodes-loop-node-preserved
nodes-loop-node-preserved t c =
    let first = elements_next c.loop-node.node-iterator c.next.new.self (Some c.in-Some-node.node)
    c.in-Some-node.ensures.steps in
    (tt, tt, omega (arith, ap items_depth first, c.loop-node.invariant.2))

pub nodes-node-requires : goal.nodes-node-requires
nodes-node-requires t c =
    let first = elements_next c.loop-node.node-iterator c.next.new.self (Some c.in-Some-node.node)
    c.in-Some-node.ensures.steps in
    (omega (arith, c.requires, ap items_depth first, c.loop-node.invariant.2), tt)
