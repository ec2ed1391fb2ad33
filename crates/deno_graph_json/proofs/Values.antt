-- A list of nodes is the flat list of at most one value, and the values in a list.
use Rattle.std.proofs.Common.{◌≡◌, ℕ, zero, suc, ◌+◌, ◌*◌, ◌<◌, ◌≤◌, List, [], ◌∷◌, ◌++◌, length, arith, refl}
use Rattle.std.proofs.Common.{sym, ap, ◌∙◌, append-nil, length-append}
use Rattle.std.proofs.lemmas.List.{take_at, drop_at}
use Rattle.json.specs.Json.{Json}
use Rattle.json.specs.Json as json
use Rattle.deno_graph_json.specs.Flat.{PlainNode, flat_list, items_list, members_list}
use Rattle.deno_graph_json.specs.Flat as flat
use Rattle.deno_graph_json.specs.Value.{Value, null, boolean, number, string, array, object, ValueItems}
use Rattle.deno_graph_json.specs.Value.{no_items, item, ValueMembers, no_members, member, item_count}
use Rattle.deno_graph_json.specs.Value.{plain_value, plain_items, plain_members, flat_value, flat_items}
use Rattle.deno_graph_json.specs.Value.{flat_members, after_value, value_within, items_within, members_within}
use Rattle.deno_graph_json.specs.Value.{value_in, items_in, members_in}

pub some_value : (v : Value) → 0 < length (flat_value v)
unfolding flat_value
some_value null = omega arith
some_value (boolean b) = omega arith
some_value (number x) = omega arith
some_value (string s) = omega arith
some_value (array vs) = omega arith
some_value (object ms) = omega arith

pub after_value_front : (v : Value) (r : List PlainNode) → after_value (flat_value v ++ r) ≡ r
unfolding flat_value
after_value_front null r = refl
after_value_front (boolean b) r = refl
after_value_front (number x) r = refl
after_value_front (string s) r = refl
after_value_front (array vs) r = drop_at (flat_items vs) r (length (flat_items vs)) refl
after_value_front (object ms) r = drop_at (flat_members ms) r (length (flat_members ms)) refl

first_item : (v : Value) (r : List PlainNode) (n : ℕ)
    → items_within (suc n) (flat_value v ++ r) ≡ item (value_within n (flat_value v ++ r))
    (items_within n (after_value (flat_value v ++ r)))
unfolding flat_value items_within
first_item null r n = refl
first_item (boolean b) r n = refl
first_item (number x) r n = refl
first_item (string s) r n = refl
first_item (array vs) r n = refl
first_item (object ms) r n = refl

mutual
  unfolding flat_value value_within

  pub in_value : (v : Value) (n : ℕ) (r : List PlainNode) → 2 * length (flat_value v) ≤ n + 1
      → value_within n (flat_value v ++ r) ≡ v
  in_value null zero r enough = absurd (omega arith)
  in_value null (suc n) r enough = refl
  in_value (boolean b) zero r enough = absurd (omega arith)
  in_value (boolean b) (suc n) r enough = refl
  in_value (number x) zero r enough = absurd (omega arith)
  in_value (number x) (suc n) r enough = refl
  in_value (string s) zero r enough = absurd (omega arith)
  in_value (string s) (suc n) r enough = refl
  in_value (array vs) zero r enough = absurd (omega arith)
  in_value (array vs) (suc n) r enough =
      ap (λ l. array (items_within n l)) (take_at (flat_items vs) r (length (flat_items vs)) refl)
      ∙ ap array (in_items vs n (omega arith))
  in_value (object ms) zero r enough = absurd (omega arith)
  in_value (object ms) (suc n) r enough =
      ap (λ l. object (members_within n l)) (take_at (flat_members ms) r (length (flat_members ms)) refl)
      ∙ ap object (in_members ms n (omega arith))

  pub in_items : (vs : ValueItems) (n : ℕ) → 2 * length (flat_items vs) ≤ n
      → items_within n (flat_items vs) ≡ vs
  in_items no_items zero enough = refl
  in_items no_items (suc n) enough = refl
  in_items (item v vs) zero enough = absurd
      (omega (arith, some_value v, length-append (flat_value v) (flat_items vs)))
  in_items (item v vs) (suc n) enough =
      let all = length-append (flat_value v) (flat_items vs) in
      first_item v (flat_items vs) n
      ∙ ap (λ w. item w (items_within n (after_value (flat_value v ++ flat_items vs))))
      (in_value v n (flat_items vs) (omega (arith, all)))
      ∙ ap (λ l. item v (items_within n l)) (after_value_front v (flat_items vs))
      ∙ ap (item v) (in_items vs n (omega (arith, all, some_value v)))

  pub in_members : (ms : ValueMembers) (n : ℕ) → 2 * length (flat_members ms) ≤ n
      → members_within n (flat_members ms) ≡ ms
  in_members no_members zero enough = refl
  in_members no_members (suc n) enough = refl
  in_members (member k v ms) zero enough = absurd (omega arith)
  in_members (member k v ms) (suc n) enough =
      let all = length-append (flat_value v) (flat_members ms) in
      ap (λ w. member k w (members_within n (after_value (flat_value v ++ flat_members ms))))
      (in_value v n (flat_members ms) (omega (arith, all)))
      ∙ ap (λ l. member k v (members_within n l)) (after_value_front v (flat_members ms))
      ∙ ap (member k v) (in_members ms n (omega (arith, all, some_value v)))

pub same_front : (v w : Value) (r s : List PlainNode) → flat_value v ++ r ≡ flat_value w ++ s
    → (v ≡ w) × (r ≡ s)
same_front v w r s e =
    let n = 2 * length (flat_value v) + 2 * length (flat_value w) in (
      sym (in_value v n r (omega arith)) ∙ ap (value_within n) e ∙ in_value w n s (omega arith),
      sym (after_value_front v r) ∙ ap after_value e ∙ after_value_front w s,
    )

-- ---- the value of a list

pub is_value : (nodes : List PlainNode) (v : Value) → nodes ≡ flat_value v → value_in nodes ≡ v
unfolding value_in
is_value nodes v e =
    let n = 2 * length nodes in
    ap (value_within n) (e ∙ sym (append-nil (flat_value v))) ∙ in_value v n [] (omega (arith, ap length e))

pub is_items : (nodes : List PlainNode) (vs : ValueItems) → nodes ≡ flat_items vs → items_in nodes ≡ vs
unfolding items_in
is_items nodes vs e =
    let n = 2 * length nodes in
    ap (items_within n) e ∙ in_items vs n (omega (arith, ap length e))

pub is_members : (nodes : List PlainNode) (ms : ValueMembers) → nodes ≡ flat_members ms
    → members_in nodes ≡ ms
unfolding members_in
is_members nodes ms e =
    let n = 2 * length nodes in
    ap (members_within n) e ∙ in_members ms n (omega (arith, ap length e))

pub of_value : (nodes : List PlainNode) (v : Value) → nodes ≡ flat_value v
    → flat_value (value_in nodes) ≡ nodes
of_value nodes v e = ap flat_value (is_value nodes v e) ∙ sym e

pub of_items : (nodes : List PlainNode) (vs : ValueItems) → nodes ≡ flat_items vs
    → flat_items (items_in nodes) ≡ nodes
of_items nodes vs e = ap flat_items (is_items nodes vs e) ∙ sym e

pub of_members : (nodes : List PlainNode) (ms : ValueMembers) → nodes ≡ flat_members ms
    → flat_members (members_in nodes) ≡ nodes
of_members nodes ms e = ap flat_members (is_members nodes ms e) ∙ sym e

-- ---- the part of a JSON value that is kept

same_count : (js : json.Items) → item_count (plain_items js) ≡ flat.element_count js
unfolding plain_value
same_count json.no_items = refl
same_count (json.item j js) = ap (λ n. n + 1) (same_count js)

mutual
  unfolding flat_value plain_value

  pub plain_listed : (j : Json) → flat_value (plain_value j) ≡ flat_list j
  plain_listed json.null = refl
  plain_listed (json.boolean b) = refl
  plain_listed (json.number text) = refl
  plain_listed (json.string s) = refl
  plain_listed (json.array js) =
      ap (λ n. flat.array n (length (flat_items (plain_items js))) ∷ flat_items (plain_items js))
      (same_count js)
      ∙ ap (λ l. flat.array (flat.element_count js) (length l) ∷ l) (plain_items_listed js)
  plain_listed (json.object ms) = ap (λ l. flat.object (length l) ∷ l) (plain_members_listed ms)

  pub plain_items_listed : (js : json.Items) → flat_items (plain_items js) ≡ items_list js
  plain_items_listed json.no_items = refl
  plain_items_listed (json.item j js) =
      ap (λ l. l ++ flat_items (plain_items js)) (plain_listed j)
      ∙ ap (λ l. flat_list j ++ l) (plain_items_listed js)

  pub plain_members_listed : (ms : json.Members) → flat_members (plain_members ms) ≡ members_list ms
  plain_members_listed json.no_members = refl
  plain_members_listed (json.member k j ms) =
      ap (λ l. flat.key k ∷ (l ++ flat_members (plain_members ms))) (plain_listed j)
      ∙ ap (λ l. flat.key k ∷ (flat_list j ++ l)) (plain_members_listed ms)
