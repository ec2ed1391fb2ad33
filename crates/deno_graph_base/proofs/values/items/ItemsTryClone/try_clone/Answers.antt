use Rattle.std.proofs.Common.{◌≡◌, ◌++◌, ◌<◌, [], ◌∷◌, length, get_or, sym, ap, ap₂, ◌∙◌, arith}
use Rattle.std.proofs.lemmas.List.{take_all, take_more}
use Rattle.deno_graph_base.proofs.values.items.ItemsTryClone.try_clone.Goals as goal

pub loop-item-preserved : goal.loop-item-preserved
loop-item-preserved g c =
    let items = c.args.self.now in
    let i = c.loop-item.item-index in
    let item = c.item-item.result in
    let whole = c.as_slice-item-items.ensures in
    let within : i < length items = omega (arith, c.loop-item-test.true, ap length whole) in
    let copied = c.in_ok-try_clone.ensures ∙ c.item-item.is ∙ ap (λ xs. get_or xs i item) whole in
    c.in_ok-push.ensures.items ∙ ap₂ (λ front copy. front ++ copy ∷ []) c.loop-item.invariant copied
    ∙ sym (take_more items i item within)

pub returns : goal.returns
returns g c =
    let items = c.args.self.now in
    c.loop-item.invariant ∙ take_all c.loop-item.item-index items
    (omega (arith, c.loop-item-test.false, ap length c.as_slice-item-items.ensures))
