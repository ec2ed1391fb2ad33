-- The items or members that were passed have no float.
use Rattle.std.proofs.Common.{◌≡◌, ◌+◌, ◌*◌, ◌^◌, ◌<◌}
use Rattle.serde_json.specs.Data.{depth, items_depth, members_depth}
use Rattle.serde_json.specs.Written.{items_have_float, members_have_float}
use Rattle.deno_graph_json.specs.Data.{data_of, elements_data, members_data, named_data}
use Rattle.deno_graph_json.specs.View.{count_of}
use Rattle.deno_graph_json.proofs.ArrayElements.{AreFrom}
use Rattle.deno_graph_json.proofs.ObjectMembers.{IsRest}
use Rattle.deno_graph_json.proofs.float.+find_float.Given as goal

abbrev pub decreases-find_float_in : goal.decreases-find_float_in
decreases-find_float_in l = 2 * depth (data_of l.value)

abbrev pub decreases-find_float_in_items : goal.decreases-find_float_in_items
decreases-find_float_in_items l = 2 * items_depth (elements_data l.items) + 1

abbrev pub decreases-find_float_in_members : goal.decreases-find_float_in_members
decreases-find_float_in_members l = 2 * members_depth (members_data l.members) + 1

abbrev pub invariant-find_float_in_items-loop-item : goal.invariant-find_float_in_items-loop-item
invariant-find_float_in_items-loop-item l =
    (goal.iterator-find_float_in_items-loop-item).can_next l.item-iterator
    × (goal.iterator-find_float_in_items-loop-item).is_finite l.item-iterator
    × (l.number + count_of l.item-iterator < 2 ^ 64)
    × (items_have_float (elements_data l.fn.items) ≡ items_have_float (elements_data l.item-iterator))
    × AreFrom l.number (elements_data l.fn.items) (elements_data l.item-iterator)

abbrev pub invariant-find_float_in_members-loop-name : goal.invariant-find_float_in_members-loop-name
invariant-find_float_in_members-loop-name l = (members_have_float (members_data l.fn.members)
    ≡ members_have_float (named_data l.name-iterator)) × IsRest (members_data l.fn.members) l.name-iterator
