use Rattle.std.proofs.Common.{◌≡◌, ◌+◌, ◌-◌, [], ◌∷◌, ◌++◌, length, map, take, String, Global, Bool}
use Rattle.std.proofs.Common.{append-nil, string_bytes, refl, sym, ap, ◌∙◌, subst, append_assoc, arith, rules}
use Rattle.std.proofs.lemmas.List.{take_all, take_more, map-append, length-map}
use Rattle.std.specs.List.Sorted.{IsStrictlySortedBy}
use Rattle.std.specs.Map.{keys_of}
use Rattle.std.specs.String.{string_cmp}
use Rattle.serde_json.specs.Data.{no_members, put}
use Rattle.serde_json.specs.Data as serde
use Rattle.serde_json.specs.View.{view, items_of, members_view, number_view}
use Rattle.serde_json.specs.declared.number.Number.{Number}
use Rattle.serde_json.specs.declared.value.Value.{Value, Null, the_lemmas, Bool as TheBool}
use Rattle.serde_json.specs.declared.value.Value.{Number as TheNumber, String as TheString}
use Rattle.serde_json.proofs.Views.{put_last}
use Rattle.deno_graph_json.specs.Data.{value_data, put_members}
use Rattle.deno_graph_json.specs.Flat.{plain}
use Rattle.deno_graph_json.specs.Flat as flat
use Rattle.deno_graph_json.specs.Value.{flat_value, flat_items, flat_members, item_count}
use Rattle.deno_graph_json.specs.Value as value
use Rattle.deno_graph_json.specs.declared.flat.FlatNode.TheVariants as node
use Rattle.deno_graph_json.proofs.Nested.{begun, filled, has_more, room_taken}
use Rattle.deno_graph_json.proofs.PushedValues.{items, item_pushed, items_counted, items_seen, members}
use Rattle.deno_graph_json.proofs.PushedValues.{member_pushed, member_put}
use Rattle.deno_graph_json.proofs.flat.from_value.+push.Goals as goal

-- ---- values

seen_null : serde.null ≡ view Null
seen_null = search (rules, the_lemmas)

seen_bool : (b : Bool) → serde.boolean b ≡ view (TheBool b)
seen_bool b = search (rules, the_lemmas)

seen_number : (n : Number) → serde.number (number_view n) ≡ view (TheNumber n)
seen_number n = search (rules, the_lemmas)

seen_string : (s : String Global) → serde.string (string_bytes s) ≡ view (TheString s)
seen_string s = search (rules, the_lemmas)

pub push_value-returns-in_ok-push-in-Null : goal.push_value-returns-in_ok-push-in-Null
unfolding flat_value value_data
push_value-returns-in_ok-push-in-Null t c = (
  value.null,
  seen_null ∙ ap view (sym c.in-Null.is),
  begun c.args.nodes.now.items c.push.new.self.items node.Null c.in_ok-push-in-Null.ensures.items,
)

pub push_value-returns-in_ok-push-in-Bool : goal.push_value-returns-in_ok-push-in-Bool
unfolding flat_value value_data
push_value-returns-in_ok-push-in-Bool t c = (
  value.boolean c.in-Bool.value,
  (seen_bool c.in-Bool.value) ∙ ap view (sym c.in-Bool.is),
  begun c.args.nodes.now.items c.push-in-Bool.new.self.items (node.Bool c.in-Bool.value)
      c.in_ok-push-in-Bool.ensures.items,
)

pub push_value-returns-in_ok-push-in-Number : goal.push_value-returns-in_ok-push-in-Number
unfolding flat_value value_data
push_value-returns-in_ok-push-in-Number t c =
    let old = c.args.nodes.now.items in (
      value.number (number_view c.in-Number.number),
      (seen_number c.in-Number.number) ∙ ap view (sym c.in-Number.is),
      begun old c.push-in-Number.new.self.items c.node_of.result c.in_ok-push-in-Number.ensures.items
          ∙ ap (λ n. map plain old ++ n ∷ []) c.node_of.ensures,
    )

pub push_value-returns-in_ok-push-in-String : goal.push_value-returns-in_ok-push-in-String
unfolding flat_value value_data
push_value-returns-in_ok-push-in-String t c =
    let old = c.args.nodes.now.items in (
      value.string (string_bytes c.in-String.text),
      (seen_string c.in-String.text) ∙ ap view (sym c.in-String.is),
      begun old c.push-in-String.new.self.items (node.String c.as_str.result)
          c.in_ok-push-in-String.ensures.items
          ∙ ap (λ s. map plain old ++ flat.string s ∷ []) c.as_str.ensures.value,
    )

-- ---- arrays

pub push_items-loop-item-init : goal.push_items-loop-item-init
unfolding flat_value
push_items-loop-item-init t c = (
  search rules,
  [],
  refl,
  begun c.args.nodes.now.items c.push.new.self.items (node.Array 0 0) c.in_ok-push.ensures.items,
)

pub push_items-loop-item-preserved : goal.push_items-loop-item-preserved
push_items-loop-item-preserved t c =
    let kept = c.loop-item.invariant in
    let old = c.args.nodes.now.items in
    let all = c.deref-item-items.result.now in
    let i = c.loop-item.item-index in
    let w = c.item-item.result in
    let pushed = c.in_ok-push_value.ensures in
    let v = pushed.0 in
    let next : take (i + 1) all ≡ take i all ++ w ∷ [] =
    take_more all i w c.loop-item-test.true ∙ ap (λ x. take i all ++ x ∷ []) (sym c.item-item.is) in (
      kept.0,
      kept.1 ++ v ∷ [],
      map-append value_data kept.1 (v ∷ []) ∙ ap (λ l. l ++ value_data v ∷ []) kept.2
          ∙ ap (λ d. map view (take i all) ++ d ∷ []) pushed.1 ∙ sym (map-append view (take i all) (w ∷ []))
          ∙ ap (map view) (sym next),
      has_more old c.loop-item.nodes.items (flat.array 0 0) (flat_items (items kept.1)) kept.3
          c.push_value.new.nodes.items (flat_value v) pushed.2
          ∙ ap (λ l. map plain old ++ flat.array 0 0 ∷ l) (sym (item_pushed kept.1 v)),
    )

pub push_items-returns : goal.push_items-returns
unfolding flat_value value_data
push_items-returns t c =
    let kept = c.loop-item.invariant in
    let old = c.args.nodes.now.items in
    let now = c.loop-item.nodes.items in
    let given = c.args.items.now.items in
    let inside = flat_items (items kept.1) in
    let all : map value_data kept.1 ≡ map view given =
    kept.2 ∙ ap (map view) (take_all c.loop-item.item-index c.deref-item-items.result.now
    c.loop-item-test.false ∙ c.deref-item-items.ensures.value) in
    let room = room_taken old now (flat.array 0 0) inside kept.3 in
    let length_is : c.len.result ≡ length now = search rules in
    let given_is : c.len-2.result ≡ length given = search rules in
    let count : c.len-2.result ≡ item_count (items kept.1) =
    omega (
      arith,
      given_is,
      items_counted kept.1,
      length-map kept.1 value_data,
      length-map given view,
      ap length all,
    ) in
    let size : c.len.result - c.len-at.result - 1 ≡ length inside =
    omega (arith, room, kept.0, length_is) in (
      value.array (items kept.1),
      ap serde.array (items_seen kept.1 ∙ ap items_of all),
      filled old now (flat.array 0 0) inside kept.3 c.len-at.result
          (node.Array c.len-2.result (c.len.result - c.len-at.result - 1)) kept.0
          ∙ ap (λ n. map plain old ++ flat.array n (c.len.result - c.len-at.result - 1) ∷ inside) count
          ∙ ap (λ n. map plain old ++ flat.array (item_count (items kept.1)) n ∷ inside) size,
    )

-- ---- objects

pub push_members-loop-name-init : goal.push_members-loop-name-init
unfolding flat_value value_data
push_members-loop-name-init t c = (
  search rules,
  [],
  c.into_iter-name-iterator.ensures.into_iter_gives ∙ c.iter-name-items.ensures.rest,
  [],
  refl,
  begun c.args.nodes.now.items c.push.new.self.items (node.Object 0) c.in_ok-push.ensures.items,
)

pub push_members-loop-name-preserved : goal.push_members-loop-name-preserved
push_members-loop-name-preserved t c =
    let kept = c.loop-name.invariant in
    let old = c.args.nodes.now.items in
    let e : String Global × Value = (c.in-Some.name.now, c.in-Some.value.now) in
    let k = string_bytes c.in-Some.name.now in
    let rest = c.next.new.self in
    let pushed = c.in_ok-push_value.ensures in
    let v = pushed.0 in
    let whole : kept.1 ++ e ∷ rest ≡ c.args.members.now.entries =
    ap (λ l. kept.1 ++ l) (sym c.in-Some.ensures.steps) ∙ kept.2 in
    let sorted : IsStrictlySortedBy string_cmp (keys_of (kept.1 ++ e ∷ rest)) =
    subst (λ l. IsStrictlySortedBy string_cmp (keys_of l)) (sym whole) c.iter-name-items.ensures.ordered in
    let inside = flat_members (members kept.3) in
    let named = has_more old c.loop-name.nodes.items (flat.object 0) inside kept.5
    c.push-in-loop-name.new.self.items (flat.key k ∷ [])
    (begun c.loop-name.nodes.items c.push-in-loop-name.new.self.items (node.Key c.as_str.result)
    c.in_ok-push-2.ensures.items
    ∙ ap (λ s. map plain c.loop-name.nodes.items ++ flat.key s ∷ []) c.as_str.ensures.value) in (
      kept.0,
      kept.1 ++ e ∷ [],
      append_assoc kept.1 (e ∷ []) rest ∙ whole,
      kept.3 ++ (k, v) ∷ [],
      member_put kept.3 k v no_members ∙ ap (λ d. put k d (put_members (members kept.3) no_members)) pushed.1
          ∙ ap (put k (view c.in-Some.value.now)) kept.4 ∙ put_last kept.1 e rest sorted,
      has_more old c.push-in-loop-name.new.self.items (flat.object 0) (inside ++ flat.key k ∷ []) named
          c.push_value.new.nodes.items (flat_value v) pushed.2
          ∙ ap (λ l. map plain old ++ flat.object 0 ∷ l)
          (append_assoc inside (flat.key k ∷ []) (flat_value v) ∙ sym (member_pushed kept.3 k v)),
    )

pub push_members-overflow_sub-inside : goal.push_members-overflow_sub-inside
push_members-overflow_sub-inside t c =
    let kept = c.loop-name.invariant in
    let room = room_taken c.args.nodes.now.items c.loop-name.nodes.items (flat.object 0)
    (flat_members (members kept.3)) kept.5 in
    omega (arith, kept.0, room, c.len.ensures)

pub push_members-overflow_sub-inside-2 : goal.push_members-overflow_sub-inside-2
push_members-overflow_sub-inside-2 t c =
    let kept = c.loop-name.invariant in
    let room = room_taken c.args.nodes.now.items c.loop-name.nodes.items (flat.object 0)
    (flat_members (members kept.3)) kept.5 in
    omega (arith, kept.0, room, c.len.ensures)

pub push_members-index_mut-requires : goal.push_members-index_mut-requires
push_members-index_mut-requires t c =
    let kept = c.loop-name.invariant in
    let room = room_taken c.args.nodes.now.items c.loop-name.nodes.items (flat.object 0)
    (flat_members (members kept.3)) kept.5 in
    omega (arith, kept.0, room)

pub push_members-returns : goal.push_members-returns
unfolding flat_value value_data
push_members-returns t c =
    let kept = c.loop-name.invariant in
    let old = c.args.nodes.now.items in
    let now = c.loop-name.nodes.items in
    let inside = flat_members (members kept.3) in
    let room = room_taken old now (flat.object 0) inside kept.5 in
    let length_is : c.len.result ≡ length now = search rules in
    let whole : kept.1 ≡ c.args.members.now.entries =
    sym (append-nil kept.1) ∙ ap (λ l. kept.1 ++ l) (sym c.in-None.ensures.steps.0) ∙ kept.2 in
    let size : c.len.result - c.len-at.result - 1 ≡ length inside =
    omega (arith, room, kept.0, length_is) in (
      value.object (members kept.3),
      ap serde.object (kept.4 ∙ ap members_view whole),
      filled old now (flat.object 0) inside kept.5 c.len-at.result
          (node.Object (c.len.result - c.len-at.result - 1)) kept.0
          ∙ ap (λ n. map plain old ++ flat.object n ∷ inside) size,
    )
