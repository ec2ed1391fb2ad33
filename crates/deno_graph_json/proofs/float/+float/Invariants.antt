-- The items or members that were passed have no float.
use Rattle.std.proofs.Common.{◌≡◌, map, drop}
use Rattle.serde_json.specs.View.{view, items_of, members_view}
use Rattle.serde_json.specs.Written.{items_have_float, members_have_float}
use Rattle.deno_graph_json.proofs.float.+float.Given as goal

abbrev pub invariant-items_have_float-loop-item : goal.invariant-items_have_float-loop-item
invariant-items_have_float-loop-item l =
    items_have_float (items_of (map view l.item-items)) ≡ items_have_float
    (items_of (map view (drop l.item-index l.item-items)))

abbrev pub invariant-members_have_float-loop-value : goal.invariant-members_have_float-loop-value
invariant-members_have_float-loop-value l =
    members_have_float (members_view l.members.entries) ≡ members_have_float (members_view l.value-iterator)
