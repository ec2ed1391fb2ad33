-- The nodes so far: those of the array or object, and those of the items or members that were passed.
use Rattle.std.proofs.Common.{◌≡◌, List, ℕ, ◌++◌, ◌∷◌, length, map, take, String, Global}
use Rattle.serde_json.specs.Data.{no_members}
use Rattle.serde_json.specs.View.{view, members_view}
use Rattle.serde_json.specs.declared.value.Value.{Value}
use Rattle.deno_graph_json.specs.Data.{value_data, put_members}
use Rattle.deno_graph_json.specs.Flat.{plain, array, object}
use Rattle.deno_graph_json.specs.Value.{flat_items, flat_members}
use Rattle.deno_graph_json.specs.Value as flat
use Rattle.deno_graph_json.proofs.PushedValues.{items, members}
use Rattle.deno_graph_json.proofs.flat.from_value.+push.Given as goal

abbrev pub invariant-push_items-loop-item : goal.invariant-push_items-loop-item
invariant-push_items-loop-item l = (l.at ≡ length l.fn.nodes.items)
    × (vs : List flat.Value) × (map value_data vs ≡ map view (take l.item-index l.item-items))
    × (map plain l.nodes.items ≡ map plain l.fn.nodes.items ++ array 0 0 ∷ flat_items (items vs))

abbrev pub invariant-push_members-loop-name : goal.invariant-push_members-loop-name
invariant-push_members-loop-name l = (l.at ≡ length l.fn.nodes.items)
    × (done : List (String Global × Value)) × (done ++ l.name-iterator ≡ l.members.entries)
    × (ms : List (List ℕ × flat.Value)) × (put_members (members ms) no_members ≡ members_view done)
    × (map plain l.nodes.items ≡ map plain l.fn.nodes.items ++ object 0 ∷ flat_members (members ms))
