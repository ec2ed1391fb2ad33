-- The values so far are the JSON of the items so far.
use Rattle.std.proofs.Common.{◌≡◌, All, map, take}
use Rattle.serde_json.specs.View.{view}
use Rattle.deno_graph_json.proofs.built_value.BuiltValue.items.Given as goal

abbrev pub invariant-loop-item : goal.invariant-loop-item
invariant-loop-item g l = record {
  forms : map view l.values.items ≡ map g.T.ToJson.json (take l.item-index l.items);
  held : All g.T.ToJson.is_held (take l.item-index l.items);
}
