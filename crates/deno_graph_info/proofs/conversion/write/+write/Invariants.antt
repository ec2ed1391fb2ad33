-- The text so far, with the items or members that are left, is the one at the end.
use Rattle.std.proofs.Common.{◌≡◌, ◌+◌, ◌*◌, ◌≤◌, true}
use Rattle.serde_json.specs.Data.{depth, items_depth, members_depth}
use Rattle.serde_json.specs.Written.{items_have_float, members_have_float}
use Rattle.deno_graph_json.specs.Data.{data_of, elements_data, members_data, named_data}
use Rattle.deno_graph_json.specs.Text.{text_in, with_tokens}
use Rattle.deno_graph_json.specs.View.{members_of}
use Rattle.deno_graph_info.proofs.WrittenText.{item_tokens}
use Rattle.deno_graph_info.specs.internal.Chosen.{chosen, test_of}
use Rattle.deno_graph_info.specs.internal.Ordered.{listed, ordered_data}
use Rattle.deno_graph_info.specs.internal.Written.{AreFloatless, AreFloatlessItems, member_tokens}
use Rattle.deno_graph_info.proofs.conversion.write.+write.Given as goal

abbrev pub decreases-write_value : goal.decreases-write_value
decreases-write_value l = 4 * depth (data_of l.value)

abbrev pub decreases-write_items : goal.decreases-write_items
decreases-write_items l = 4 * items_depth (elements_data l.items) + 1

abbrev pub decreases-write_object : goal.decreases-write_object
decreases-write_object l = 4 * members_depth (members_data l.members) + 3

abbrev pub decreases-write_chosen : goal.decreases-write_chosen
decreases-write_chosen l = 4 * members_depth (ordered_data l.members.now) + 2

abbrev pub decreases-write_listed : goal.decreases-write_listed
decreases-write_listed l = 4 * members_depth (listed (members_of l.members)) + 1

abbrev pub decreases-write_sorted : goal.decreases-write_sorted
decreases-write_sorted l = 4 * members_depth (named_data l.members.now) + 1

abbrev pub invariant-write_items-loop-item : goal.invariant-write_items-loop-item
invariant-write_items-loop-item l = (goal.iterator-write_items-loop-item).can_next l.item-iterator
    × (goal.iterator-write_items-loop-item).is_finite l.item-iterator
    × (items_depth (elements_data l.item-iterator) ≤ items_depth (elements_data l.fn.items))
    × (with_tokens (item_tokens (elements_data l.item-iterator)) (text_in l.out)
    ≡ with_tokens (item_tokens (elements_data l.fn.items)) (text_in l.initial.out))
    × (AreFloatlessItems (elements_data l.item-iterator) → AreFloatlessItems (elements_data l.fn.items))
    × (items_have_float (elements_data l.item-iterator) ≡ true
    → items_have_float (elements_data l.fn.items) ≡ true)

abbrev pub invariant-write_listed-loop-name : goal.invariant-write_listed-loop-name
invariant-write_listed-loop-name l = (goal.iterator-write_listed-loop-name).can_next l.name-iterator
    × (goal.iterator-write_listed-loop-name).is_finite l.name-iterator
    × (members_depth (listed (members_of l.name-iterator)) ≤ members_depth (listed (members_of l.fn.members)))
    × (with_tokens (member_tokens (chosen (test_of l.names) (listed (members_of l.name-iterator))))
    (text_in l.out)
    ≡ with_tokens (member_tokens (chosen (test_of l.names) (listed (members_of l.fn.members))))
    (text_in l.initial.out))
    × (AreFloatless (chosen (test_of l.names) (listed (members_of l.name-iterator)))
    → AreFloatless (chosen (test_of l.names) (listed (members_of l.fn.members))))
    × (members_have_float (listed (members_of l.name-iterator)) ≡ true
    → members_have_float (listed (members_of l.fn.members)) ≡ true)

abbrev pub invariant-write_sorted-loop-name : goal.invariant-write_sorted-loop-name
invariant-write_sorted-loop-name l =
    (members_depth (named_data l.name-iterator) ≤ members_depth (named_data l.members))
    × (with_tokens (member_tokens (chosen (test_of l.names) (named_data l.name-iterator))) (text_in l.out)
    ≡ with_tokens (member_tokens (chosen (test_of l.names) (named_data l.members))) (text_in l.initial.out))
    × (AreFloatless (chosen (test_of l.names) (named_data l.name-iterator))
    → AreFloatless (chosen (test_of l.names) (named_data l.members)))
    × (members_have_float (named_data l.name-iterator) ≡ true
    → members_have_float (named_data l.members) ≡ true)
