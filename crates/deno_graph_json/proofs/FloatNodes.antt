-- A value without the node of a float has no float.
use Rattle.std.proofs.Common.{◌≡◌, ℕ, Bool, true, false, ◌||◌, List, [], ◌∷◌, ◌++◌, refl, ap, ◌∙◌, true≢false}
use Rattle.std.proofs.Common.{map, drop, get_or, length, ◌<◌, ◌+◌, Float}
use Rattle.std.proofs.lemmas.List.{at_drop_more}
use Rattle.serde_json.specs.Data.{Data, put}
use Rattle.serde_json.specs.Data as serde
use Rattle.serde_json.specs.Find.{is_float}
use Rattle.serde_json.specs.Written.{has_float, items_have_float, members_have_float}
use Rattle.deno_graph_json.proofs.NoFloats.{neither, no_float-put}
use Rattle.deno_graph_json.specs.Data.{value_data, items_data, put_members, data_of}
use Rattle.deno_graph_json.specs.Flat.{PlainNode, plain}
use Rattle.deno_graph_json.specs.Flat as flat
use Rattle.deno_graph_json.specs.Value.{Value, ValueItems, ValueMembers, flat_value, flat_items, flat_members}
use Rattle.deno_graph_json.specs.Value.{value_in}
use Rattle.deno_graph_json.specs.Value as value
use Rattle.deno_graph_json.specs.View.{value_of}
use Rattle.deno_graph_json.specs.declared.flat.Element.{Element}
use Rattle.deno_graph_json.specs.declared.flat.FlatNode.{FlatNode}
use Rattle.deno_graph_json.specs.declared.flat.FlatNode.TheVariants.{Null, Whole, Negative, String, Key}
use Rattle.deno_graph_json.specs.declared.flat.FlatNode.TheVariants.{Array, Object, Bool as TheBool}
use Rattle.deno_graph_json.specs.declared.flat.FlatNode.TheVariants.{Float as TheFloat}

abbrev pub float_node : PlainNode → Bool
float_node (flat.number n) = is_float n
float_node _ = false

abbrev pub any_float : List PlainNode → Bool
any_float [] = false
any_float (n ∷ ns) = float_node n || any_float ns

or_parts : (a b : Bool) → (a || b) ≡ false → (a ≡ false) × (b ≡ false)
or_parts true b none = absurd (true≢false none)
or_parts false b none = (refl, none)

any-append : (xs ys : List PlainNode) → any_float (xs ++ ys) ≡ false
    → (any_float xs ≡ false) × (any_float ys ≡ false)
any-append [] ys none = (refl, none)
any-append (x ∷ xs) ys none =
    let both = or_parts (float_node x) (any_float (xs ++ ys)) none in
    let rest = any-append xs ys both.1 in
    (neither (float_node x) (any_float xs) both.0 rest.0, rest.1)

mutual
  unfolding flat_value value_data

  no_float : (v : Value) → any_float (flat_value v) ≡ false → has_float (value_data v) ≡ false
  no_float value.null none = refl
  no_float (value.boolean b) none = refl
  no_float (value.number n) none = (or_parts (is_float n) false none).0
  no_float (value.string s) none = refl
  no_float (value.array vs) none = no_float_items vs none
  no_float (value.object ms) none = no_float_members ms serde.no_members none refl

  no_float_items : (vs : ValueItems) → any_float (flat_items vs) ≡ false
      → items_have_float (items_data vs) ≡ false
  no_float_items value.no_items none = refl
  no_float_items (value.item v vs) none =
      let both = any-append (flat_value v) (flat_items vs) none in
      neither (has_float (value_data v)) (items_have_float (items_data vs)) (no_float v both.0)
      (no_float_items vs both.1)

  no_float_members : (ms : ValueMembers) (found : serde.Members) → any_float (flat_members ms) ≡ false
      → members_have_float found ≡ false → members_have_float (put_members ms found) ≡ false
  no_float_members value.no_members found none so_far = so_far
  no_float_members (value.member k v ms) found none so_far =
      let both = any-append (flat_value v) (flat_members ms) none in
      no_float_members ms (put k (value_data v) found) both.1
      (no_float-put k (value_data v) found (no_float v both.0) so_far)

pub element_has_none : (e : Element) → any_float (map plain e.nodes.now) ≡ false
    → has_float (data_of e) ≡ false
unfolding data_of value_of
element_has_none e none =
    no_float (value_in (map plain e.nodes.now)) (ap any_float e.of_value ∙ none)

no_float_node : (n : FlatNode) → ((x : Float) → n ≡ TheFloat x → ⊥) → float_node (plain n) ≡ false
no_float_node Null none = refl
no_float_node (TheBool b) none = refl
no_float_node (Whole n) none = refl
no_float_node (Negative z) none = refl
no_float_node (TheFloat x) none = absurd (none x refl)
no_float_node (String s) none = refl
no_float_node (Key s) none = refl
no_float_node (Array count nodes) none = refl
no_float_node (Object nodes) none = refl

-- past a node that is no float
pub next_node : (nodes : List FlatNode) (i : ℕ) → i < length nodes
    → ((x : Float) → get_or nodes i Null ≡ TheFloat x → ⊥)
    → any_float (map plain (drop i nodes)) ≡ any_float (map plain (drop (i + 1) nodes))
next_node nodes i below none =
    at_drop_more (λ ns. any_float (map plain ns)) nodes i Null below
    ∙ ap (λ b. b || any_float (map plain (drop (i + 1) nodes))) (no_float_node (get_or nodes i Null) none)
