-- The text so far, with the tokens of the items that are left, is the one at the end.
use Rattle.std.proofs.Common.{◌≡◌, All, take, drop}
use Rattle.deno_graph_json.specs.JsonWriter.{output}
use Rattle.deno_graph_json.proofs.Outputs.{with_more}
use Rattle.deno_graph_json.proofs.WritingItems.{items_text}
use Rattle.deno_graph_json.proofs.json_writer.JsonWriter.items.Given as goal

abbrev pub invariant-loop-item : goal.invariant-loop-item
invariant-loop-item g l = record {
  text : with_more (items_text g.T.ToJson.json (drop l.item-index l.items)) (output l.self)
      ≡ with_more (items_text g.T.ToJson.json l.items) (output l.initial.self);
  held : All g.T.ToJson.is_held (take l.item-index l.items);
}
