-- The nodes so far were read, and the other items are left.
use Rattle.std.proofs.Common.{◌≡◌, ◌+◌, ◌*◌, length}
use Rattle.serde_json.specs.Data.{depth, members_depth}
use Rattle.deno_graph_json.specs.Data.{data_of, elements_data}
use Rattle.deno_graph_json.specs.ObjectReader.{readable}
use Rattle.deno_graph_json.specs.Read.Partial.{reads_items}
use Rattle.deno_graph_json.proofs.ArrayElements.{AreFrom}
use Rattle.deno_graph_json.proofs.Reading.{before}
use Rattle.modinfo_document.specs.Node.{reads_node}
use Rattle.modinfo_document.proofs.node.+read.Given as goal

abbrev pub decreases-read_node : goal.decreases-read_node
decreases-read_node l = 3 * depth (data_of l.value)

abbrev pub decreases-read_children : goal.decreases-read_children
decreases-read_children l = 3 * members_depth (readable l.object.now) + 2

abbrev pub decreases-read_nodes : goal.decreases-read_nodes
decreases-read_nodes l = 3 * depth (data_of l.value) + 1

abbrev pub invariant-read_nodes-loop-item : goal.invariant-read_nodes-loop-item
invariant-read_nodes-loop-item l = (goal.iterator-read_nodes-loop-item).can_next l.item-iterator
    × (goal.iterator-read_nodes-loop-item).is_finite l.item-iterator
    × AreFrom (length l.nodes) (elements_data l.initial.item-iterator) (elements_data l.item-iterator)
    × (reads_items reads_node (elements_data l.initial.item-iterator)
    ≡ before l.nodes (reads_items reads_node (elements_data l.item-iterator)))
