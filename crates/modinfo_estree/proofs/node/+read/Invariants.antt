-- The children so far were appended, and the other items or members are left.
use Rattle.std.proofs.Common.{◌+◌, ◌*◌, [], drop, map}
use Rattle.serde_json.specs.Data.{depth, items_depth, members_depth}
use Rattle.deno_graph_json.specs.Data.{data_of, elements_data, members_data}
use Rattle.deno_graph_json.proofs.ArrayElements.{AreFrom}
use Rattle.modinfo_estree.specs.Node.{children_among}
use Rattle.modinfo_estree.specs.Source.{source_of}
use Rattle.modinfo_estree.specs.internal.Candidates.{entry_of}
use Rattle.modinfo_estree.proofs.InnerMembers.{AreLeft}
use Rattle.modinfo_estree.proofs.Nodes.{AreSoFar}
use Rattle.modinfo_estree.proofs.node.+read.Given as goal

abbrev pub decreases-read_node : goal.decreases-read_node
decreases-read_node l = 5 * depth (data_of l.value)

abbrev pub decreases-push_node : goal.decreases-push_node
decreases-push_node l = 5 * depth (data_of l.value) + 1

abbrev pub decreases-push_children : goal.decreases-push_children
decreases-push_children l = 5 * depth (data_of l.value) + 2

abbrev pub decreases-push_items : goal.decreases-push_items
decreases-push_items l = 5 * items_depth (elements_data l.items) + 2

abbrev pub decreases-read_children : goal.decreases-read_children
decreases-read_children l = 5 * members_depth (members_data l.members) + 4

abbrev pub decreases-read_candidates : goal.decreases-read_candidates
decreases-read_candidates l = 5 * members_depth (members_data l.members) + 3

abbrev pub invariant-push_items-loop-index : goal.invariant-push_items-loop-index
invariant-push_items-loop-index l =
    AreFrom l.index-iterator.count (elements_data l.fn.items) (elements_data l.index-iterator.iter)
    × AreSoFar l.initial.children l.children
    (children_among (source_of l.source) l.role (elements_data l.fn.items))
    (children_among (source_of l.source) l.role (elements_data l.index-iterator.iter))

abbrev pub invariant-read_candidates-loop-candidate : goal.invariant-read_candidates-loop-candidate
invariant-read_candidates-loop-candidate l =
    AreLeft (members_data l.members) (map entry_of (drop l.candidate-index l.found)) [] l.children
    (source_of l.source) l.is_jsx
