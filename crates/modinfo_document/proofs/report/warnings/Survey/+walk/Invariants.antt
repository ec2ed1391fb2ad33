-- The nodes that are left are those of the array, so they nest less deep than the parent.
use Rattle.std.proofs.Common.{◌+◌, ◌*◌, ◌<◌}
use Rattle.serde_json.specs.Data.{depth, items_depth}
use Rattle.deno_graph_json.specs.Data.{data_of, elements_data}
use Rattle.modinfo_document.proofs.report.warnings.Survey.+walk.Given as goal

abbrev pub decreases-node : goal.decreases-node
decreases-node l = 2 * depth (data_of l.node) + 1

abbrev pub decreases-nodes : goal.decreases-nodes
decreases-nodes l = 2 * depth (data_of l.parent)

abbrev pub invariant-nodes-loop-node : goal.invariant-nodes-loop-node
invariant-nodes-loop-node l = (goal.iterator-nodes-loop-node).can_next l.node-iterator
    × (goal.iterator-nodes-loop-node).is_finite l.node-iterator
    × (items_depth (elements_data l.node-iterator) < depth (data_of l.initial.parent))
