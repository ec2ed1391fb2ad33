use Rattle.std.proofs.Common.{◌≡◌, ◌<◌, length, get_or, map, ap}
use Rattle.std.proofs.lemmas.Result.{on_ok_weaker}
use Rattle.serde_json.specs.View.{items_of}
use Rattle.deno_graph_json.specs.JsonWriter.{output}
use Rattle.deno_graph_json.specs.Text.{text_in}
use Rattle.deno_graph_json.proofs.Outputs.{array_written, with_more}
use Rattle.deno_graph_json.proofs.WritingItems.{held_more, held_all, items_text, output_all, output_more}
use Rattle.deno_graph_json.proofs.json_writer.JsonWriter.items.Goals as goal

pub loop-item-preserved : goal.loop-item-preserved
loop-item-preserved g c =
    let json = g.T.ToJson.json in
    let xs = c.args.items.now in
    let i = c.loop-item.item-index in
    let x = c.item-item.result in
    let below : i < length xs = c.loop-item-test.true in
    let here : x ≡ get_or xs i x = c.item-item.is in
    let wrote = c.in_ok-write-in-Text.ensures in
    record {
      text = output_more json xs i x (output c.loop-item.self) (output c.write.new.out)
          (with_more (items_text json xs) (output c.token.new.self)) below here
          c.loop-item.invariant.text wrote.ok;
      held = held_more g.T.ToJson.is_held xs i x below here c.loop-item.invariant.held wrote.held;
    }

pub returns-after-loop-item-clause-ok : goal.returns-after-loop-item-clause-ok
returns-after-loop-item-clause-ok g c =
    let json = g.T.ToJson.json in
    let xs = c.args.items.now in
    let whole = with_more (items_text json xs) (output c.token.new.self) in
    on_ok_weaker c.token-in-Text.result
    (array_written (items_of (map json xs)) (text_in c.in-Text.field-0) (output c.args.self.now)
    (output c.token.new.self) (output c.loop-item.self) (output c.token-in-Text.new.self)
    (ap output c.in-Text.is) c.in_ok-token-in-Text.ensures
    (output_all json xs c.loop-item.item-index (output c.loop-item.self) whole c.loop-item-test.false
    c.loop-item.invariant.text))
    c.token-in-Text.ensures

pub returns-after-loop-item-clause-held : goal.returns-after-loop-item-clause-held
returns-after-loop-item-clause-held g c =
    on_ok_weaker c.token-in-Text.result
    (λ _. held_all g.T.ToJson.is_held c.args.items.now c.loop-item.item-index c.loop-item-test.false
    c.loop-item.invariant.held)
    c.token-in-Text.ensures
