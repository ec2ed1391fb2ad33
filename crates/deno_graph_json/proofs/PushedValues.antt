-- The values whose nodes were appended.
use Rattle.std.proofs.Common.{◌≡◌, ℕ, List, [], ◌∷◌, ◌++◌, length, map, refl, sym, ap, ◌∙◌, append_assoc}
use Rattle.std.proofs.Common.{append-nil, arith}
use Rattle.serde_json.specs.Data.{put}
use Rattle.serde_json.specs.Data as serde
use Rattle.serde_json.specs.View.{items_of}
use Rattle.deno_graph_json.specs.Data.{value_data, items_data, put_members}
use Rattle.deno_graph_json.specs.Flat as flat
use Rattle.deno_graph_json.specs.Value.{Value, ValueItems, ValueMembers, flat_value, flat_items, flat_members}
use Rattle.deno_graph_json.specs.Value.{item_count}
use Rattle.deno_graph_json.specs.Value as value

-- ---- items

abbrev pub items : List Value → ValueItems
items [] = value.no_items
items (v ∷ vs) = value.item v (items vs)

pub item_pushed : (vs : List Value) (v : Value)
    → flat_items (items (vs ++ v ∷ [])) ≡ flat_items (items vs) ++ flat_value v
unfolding flat_value
item_pushed [] v = append-nil (flat_value v)
item_pushed (w ∷ vs) v =
    ap (λ l. flat_value w ++ l) (item_pushed vs v)
    ∙ sym (append_assoc (flat_value w) (flat_items (items vs)) (flat_value v))

pub items_counted : (vs : List Value) → item_count (items vs) ≡ length vs
items_counted [] = refl
items_counted (v ∷ vs) = omega (arith, items_counted vs)

pub items_seen : (vs : List Value) → items_data (items vs) ≡ items_of (map value_data vs)
unfolding value_data
items_seen [] = refl
items_seen (v ∷ vs) = ap (serde.item (value_data v)) (items_seen vs)

-- ---- members

abbrev pub members : List (List ℕ × Value) → ValueMembers
members [] = value.no_members
members (m ∷ ms) = value.member m.0 m.1 (members ms)

pub member_pushed : (ms : List (List ℕ × Value)) (k : List ℕ) (v : Value)
    → flat_members (members (ms ++ (k, v) ∷ [])) ≡ flat_members (members ms) ++ flat.key k ∷ flat_value v
unfolding flat_value
member_pushed [] k v = ap (λ l. flat.key k ∷ l) (append-nil (flat_value v))
member_pushed (m ∷ ms) k v =
    ap (λ l. flat.key m.0 ∷ (flat_value m.1 ++ l)) (member_pushed ms k v)
    ∙ ap (λ l. flat.key m.0 ∷ l)
    (sym (append_assoc (flat_value m.1) (flat_members (members ms)) (flat.key k ∷ flat_value v)))

pub member_put : (ms : List (List ℕ × Value)) (k : List ℕ) (v : Value) (found : serde.Members)
    → put_members (members (ms ++ (k, v) ∷ [])) found ≡ put k (value_data v) (put_members (members ms) found)
unfolding value_data
member_put [] k v found = refl
member_put (m ∷ ms) k v found = member_put ms k v (put m.0 (value_data m.1) found)
