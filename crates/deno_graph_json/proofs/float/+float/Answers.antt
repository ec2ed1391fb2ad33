use Rattle.std.proofs.Common.{◌+◌, List, map, drop, true, string_bytes, sym, ap, ◌∙◌}
use Rattle.std.proofs.lemmas.List.{at_drop_more}
use Rattle.serde_json.specs.Data.{Items, item}
use Rattle.serde_json.specs.View.{view, items_of, items_view, members_view}
use Rattle.serde_json.specs.declared.value.Value.{Value}
use Rattle.serde_json.specs.Written.{items_have_float}
use Rattle.deno_graph_json.proofs.Floats.{items_after, members_after}
use Rattle.deno_graph_json.proofs.float.+float.Goals as goal

pub items_have_float-returns-then-has_float : goal.items_have_float-returns-then-has_float
items_have_float-returns-then-has_float t c =
    let all = c.deref-item-items.result.now in
    let i = c.loop-item.item-index in
    let v = c.item-item.result in
    let left : List Value → Items = λ vs. items_of (map view vs) in
    let first = at_drop_more left all i v c.loop-item-test.true
    ∙ ap (λ w. item (view w) (left (drop (i + 1) all))) (sym c.item-item.is) in
    sym (items_after true (items_view all) (left (drop i all)) (left (drop (i + 1) all)) (view v)
    c.loop-item.invariant first (sym c.has_float.ensures ∙ c.if-has_float.true))
    ∙ ap (λ vs. items_have_float (items_view vs)) c.deref-item-items.ensures.value

pub members_have_float-returns-then-has_float : goal.members_have_float-returns-then-has_float
members_have_float-returns-then-has_float t c =
    sym (members_after true (members_view c.args.members.now.entries)
    (members_view c.loop-value.value-iterator) (members_view c.next.new.self)
    (string_bytes c.in-Some.field-0-0.now) (view c.in-Some.value.now) c.loop-value.invariant
    (ap members_view c.in-Some.ensures.steps) (sym c.has_float.ensures ∙ c.if-has_float.true))
