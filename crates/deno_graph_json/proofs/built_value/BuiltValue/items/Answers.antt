use Rattle.std.proofs.Common.{◌≡◌, ◌<◌, length, get_or, ap, ◌∙◌}
use Rattle.std.proofs.lemmas.Result.{on_ok_weaker}
use Rattle.serde_json.proofs.Views.{view-Array}
use Rattle.serde_json.specs.View.{members_view}
use Rattle.deno_graph_json.specs.JsonWriter.{value, with_value}
use Rattle.deno_graph_json.proofs.WritingItems.{held_more, forms_more, forms_all}
use Rattle.deno_graph_json.proofs.built_value.BuiltValue.items.Goals as goal

pub loop-item-preserved : goal.loop-item-preserved
loop-item-preserved g c =
    let xs = c.args.items.now in
    let i = c.loop-item.item-index in
    let x = c.item-item.result in
    let below : i < length xs = c.loop-item-test.true in
    let here : x ≡ get_or xs i x = c.item-item.is in
    let made = c.in_ok-to_value in
    record {
      forms = forms_more g.T.ToJson.json xs i x c.loop-item.values.items c.push.new.self.items made.field-0
          below here c.loop-item.invariant.forms made.ensures.form c.in_ok-push.ensures.items;
      held = held_more g.T.ToJson.is_held xs i x below here c.loop-item.invariant.held made.ensures.held;
    }

pub returns-clause-ok : goal.returns-clause-ok
unfolding with_value
returns-clause-ok g c =
    let json = g.T.ToJson.json in
    on_ok_weaker c.set.result
    (λ same. same ∙ ap (λ d. value d (members_view c.args.self.now.members.entries))
    (view-Array c.loop-item.values
    ∙ forms_all json c.args.items.now c.loop-item.item-index _ c.loop-item-test.false
    c.loop-item.invariant.forms))
    c.set.ensures
