use Rattle.std.proofs.Common.{◌≡◌, Ok, Some, None, true, arith, sym, ap, subst, ◌∙◌}
use Rattle.json.specs.Token.{begin_array, begin_object, end_array, end_object, key}
use Rattle.json.specs.Json as json
use Rattle.serde_json.specs.Data.{items_depth, member, members_depth}
use Rattle.serde_json.specs.Written.{has_float, items_have_float, members_have_float}
use Rattle.deno_graph_json.proofs.ArrayElements.{elements_next}
use Rattle.deno_graph_json.proofs.Texts.{text_written}
use Rattle.deno_graph_json.specs.Data.{data_of, elements_data, members_data}
use Rattle.deno_graph_json.specs.Text.{text_in, with_tokens}
use Rattle.deno_graph_json.specs.View.{members_of}
use Rattle.deno_graph_info.specs.internal.Chosen.{chosen, test_of}
use Rattle.deno_graph_info.specs.internal.Ordered.{listed, ordered_data}
use Rattle.deno_graph_info.specs.internal.Written.{AreFloatless, member_tokens}
use Rattle.deno_graph_info.proofs.OrderedMembers.{listed_next}
use Rattle.deno_graph_info.proofs.TextFaults.{exits_text, float_after_item, float_after_member, float_at_item}
use Rattle.deno_graph_info.proofs.TextFaults.{float_at_member}
use Rattle.deno_graph_info.proofs.WrittenText.{all_chosen, array_written, chosen_floatless, chosen_text}
use Rattle.deno_graph_info.proofs.WrittenText.{depth_next, item_tokens, item_written, items_floatless}
use Rattle.deno_graph_info.proofs.WrittenText.{object_written, floatless_item}
use Rattle.deno_graph_info.proofs.conversion.write.+write.Goals as goal

pub write_items-write_value-requires : goal.write_items-write_value-requires
write_items-write_value-requires t c =
    let first = elements_next c.loop-item.item-iterator c.next.new.self (Some c.in-Some.item)
    c.in-Some.ensures.steps in
    (omega (arith, c.decreases, c.loop-item.invariant.2, ap items_depth first), tt)

pub write_items-loop-item-preserved : goal.write_items-loop-item-preserved
write_items-loop-item-preserved t c =
    let kept = c.loop-item.invariant in
    let all = elements_data c.args.items in
    let rest = elements_data c.next.new.self in
    let d = data_of c.in-Some.item in
    let out = text_in c.loop-item.out in
    let first = elements_next c.loop-item.item-iterator c.next.new.self (Some c.in-Some.item)
    c.in-Some.ensures.steps in
    let value = c.in_ok-write_value.ensures.ok in (
      tt,
      tt,
      omega (arith, kept.2, ap items_depth first),
      item_written d rest out (text_in c.write_value.new.out)
          (with_tokens (item_tokens all) (text_in c.begin_array.new.self)) value.0
          (ap (λ l. with_tokens (item_tokens l) out) (sym first) ∙ kept.3),
      λ more. kept.4 (rw first (floatless_item d rest value.1 more)),
      float_after_item all (elements_data c.loop-item.item-iterator) rest d kept.5 first,
    )

pub write_items-returns-in_err-write_value-clause-err : goal.write_items-returns-in_err-write_value-clause-err
write_items-returns-in_err-write_value-clause-err t c =
    let all = elements_data c.args.items in
    let d = data_of c.in-Some.item in
    let first = elements_next c.loop-item.item-iterator c.next.new.self (Some c.in-Some.item)
    c.in-Some.ensures.steps in
    exits_text ⊥ ⊥ (has_float d) (items_have_float all) _ _ (λ x. x)
    (float_at_item all (elements_data c.loop-item.item-iterator) (elements_data c.next.new.self) d
    c.loop-item.invariant.5 first) c.from_residual-in_err-write_value.ensures.1
    c.in_err-write_value.ensures.err

pub write_items-returns-clause-ok : goal.write_items-returns-clause-ok
write_items-returns-clause-ok t c =
    let kept = c.loop-item.invariant in
    let all = elements_data c.args.items in
    let left = elements_data c.loop-item.item-iterator in
    let none = elements_next c.loop-item.item-iterator c.next.new.self None c.in-None.ensures.steps in
    let opens = text_written (Ok c.in_ok-begin_array.field-0) c.args.out.now c.begin_array.new.self
    begin_array c.in_ok-begin_array.ensures in
    let closes = text_written (Ok c.in_ok-end_array.field-0) c.loop-item.out c.end_array.new.self end_array
    c.in_ok-end_array.ensures in (
      array_written all left (text_in c.args.out.now) (text_in c.begin_array.new.self)
          (text_in c.loop-item.out) (text_in c.end_array.new.self) opens none kept.3 closes,
      ap json.array (items_floatless all left none kept.4),
    )

pub write_object-returns-in_err-write_chosen-clause-err :
    goal.write_object-returns-in_err-write_chosen-clause-err
write_object-returns-in_err-write_chosen-clause-err t c =
    let found = members_data c.args.members in
    let ordered = ordered_data c.in_ok-ordered.ordered in
    exits_text ⊥ ⊥ (members_have_float ordered) (members_have_float found) _ _ (λ x. x)
    (subst (λ ms. members_have_float ms ≡ true → members_have_float found ≡ true)
    (sym c.in_ok-ordered.ensures) (λ is. is)) c.from_residual-in_err-write_chosen.ensures.1
    c.in_err-write_chosen.ensures.err

pub write_object-returns-clause-ok : goal.write_object-returns-clause-ok
write_object-returns-clause-ok t c =
    let ms = members_data c.args.members in
    let all = all_chosen (ordered_data c.in_ok-ordered.ordered) ∙ c.in_ok-ordered.ensures in
    let inside = c.in_ok-write_chosen.ensures.ok in
    let opens = text_written (Ok c.in_ok-begin_object.field-0) c.args.out.now c.begin_object.new.self
    begin_object c.in_ok-begin_object.ensures in
    let closes = text_written (Ok c.in_ok-end_object.field-0) c.write_chosen.new.out c.end_object.new.self
    end_object c.in_ok-end_object.ensures in (
      object_written ms (text_in c.args.out.now) (text_in c.begin_object.new.self)
          (text_in c.write_chosen.new.out) (text_in c.end_object.new.self) opens
          (inside.0 ∙ ap (λ l. with_tokens (member_tokens l) (text_in c.begin_object.new.self)) all) closes,
      ap json.object (subst AreFloatless all inside.1),
    )

pub write_listed-write_value-requires : goal.write_listed-write_value-requires
write_listed-write_value-requires t c =
    let left = members_of c.next.new.self in
    let first = listed_next c.in-Some.name.now c.in-Some.value (members_of c.loop-name.name-iterator) left
    c.in-Some.ensures.steps in
    (omega (arith, c.decreases, c.loop-name.invariant.2, ap members_depth first), tt)

pub write_listed-loop-name-preserved-in-Continue-branch-2 :
    goal.write_listed-loop-name-preserved-in-Continue-branch-2
write_listed-loop-name-preserved-in-Continue-branch-2 t c =
    let kept = c.loop-name.invariant in
    let names = test_of c.args.names in
    let k = c.in-Some.name.now in
    let d = data_of c.in-Some.value in
    let left = listed (members_of c.loop-name.name-iterator) in
    let rest = listed (members_of c.next.new.self) in
    let whole = chosen names (listed (members_of c.args.members)) in
    let first : left ≡ member k d rest = listed_next k c.in-Some.value (members_of c.loop-name.name-iterator)
    (members_of c.next.new.self) c.in-Some.ensures.steps in
    let has = sym c.has.ensures ∙ c.if-has.true in
    let value = c.in_ok-write_value.ensures.ok in
    let named = text_written (Ok c.in_ok-key.field-0) c.loop-name.out c.key.new.self (key k)
    c.in_ok-key.ensures in (
      tt,
      tt,
      depth_next names k d left rest first _ kept.2,
      chosen_text names k d left rest first (text_in c.loop-name.out) (text_in c.key.new.self)
          (text_in c.write_value.new.out) (with_tokens (member_tokens whole)
          (text_in c.args.out.now)) has named
          value.0 kept.3,
      chosen_floatless names k d left rest first whole has value.1 kept.4,
      float_after_member (listed (members_of c.args.members)) left rest k d kept.5 first,
    )

pub write_listed-returns-in_err-write_value-clause-err :
    goal.write_listed-returns-in_err-write_value-clause-err
write_listed-returns-in_err-write_value-clause-err t c =
    let all = listed (members_of c.args.members) in
    let d = data_of c.in-Some.value in
    let first = listed_next c.in-Some.name.now c.in-Some.value (members_of c.loop-name.name-iterator)
    (members_of c.next.new.self) c.in-Some.ensures.steps in
    exits_text ⊥ ⊥ (has_float d) (members_have_float all) _ _ (λ x. x)
    (float_at_member all (listed (members_of c.loop-name.name-iterator)) (listed (members_of c.next.new.self))
    c.in-Some.name.now d c.loop-name.invariant.5 first) c.from_residual-in_err-write_value.ensures.1
    c.in_err-write_value.ensures.err
