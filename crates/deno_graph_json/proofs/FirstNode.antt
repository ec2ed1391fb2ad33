-- The value of a list of nodes, by its first node.
use Rattle.std.proofs.Common.{◌≡◌, ℕ, suc, Bool, ◌+◌, ◌*◌, ◌≤◌, length-append, List, ◌∷◌, length, map, arith}
use Rattle.std.proofs.Common.{refl, sym, ap, ◌∙◌}
use Rattle.serde_json.specs.Data.{Num}
use Rattle.deno_graph_json.specs.Data.{data_of, value_data, view_data, elements_data, members_data}
use Rattle.deno_graph_json.specs.Flat.{PlainNode, plain, IsFlatText}
use Rattle.deno_graph_json.specs.Flat as flat
use Rattle.deno_graph_json.specs.Value.{Value, null, boolean, number, string, array, object, ValueItems}
use Rattle.deno_graph_json.specs.Value.{no_items, item, ValueMembers, item_count, flat_value, flat_items}
use Rattle.deno_graph_json.specs.Value.{flat_members, value_within, value_in, items_in, members_in}
use Rattle.deno_graph_json.specs.Value.{AreOfValue, AreOfItems, AreOfMembers, plain_value}
use Rattle.deno_graph_json.specs.View.{value_of, view_value, IsValueOf}
use Rattle.deno_graph_json.specs.declared.flat.Element.{Element}
use Rattle.deno_graph_json.specs.declared.flat.FlatNode.{FlatNode}
use Rattle.deno_graph_json.specs.declared.flat.view.View.{View}
use Rattle.deno_graph_json.specs.declared.flat.view.View.TheVariants as view
use Rattle.deno_graph_json.proofs.Values.{plain_listed, is_value, is_items, is_members, of_value, of_items}
use Rattle.deno_graph_json.proofs.Values.{of_members, some_value}

module _ (ns : List PlainNode) where
  step : (n : PlainNode) → value_in (n ∷ ns) ≡ value_within (suc (2 * length ns + 1)) (n ∷ ns)
  unfolding value_in
  step n =
      let turns : 2 * length (n ∷ ns) ≡ suc (2 * length ns + 1) = omega arith in
      ap (λ turns. value_within turns (n ∷ ns)) turns

  pub null_first : value_in (flat.null ∷ ns) ≡ null
  unfolding value_within
  null_first = step flat.null

  pub boolean_first : (b : Bool) → value_in (flat.boolean b ∷ ns) ≡ boolean b
  unfolding value_within
  boolean_first b = step (flat.boolean b)

  pub number_first : (x : Num) → value_in (flat.number x ∷ ns) ≡ number x
  unfolding value_within
  number_first x = step (flat.number x)

  pub string_first : (s : List ℕ) → value_in (flat.string s ∷ ns) ≡ string s
  unfolding value_within
  string_first s = step (flat.string s)

  pub key_first : (s : List ℕ) → value_in (flat.key s ∷ ns) ≡ null
  unfolding value_within
  key_first s = step (flat.key s)

array_at : (v : Value) (count size : ℕ) (ns : List PlainNode) → flat_value v ≡ flat.array count size ∷ ns
    → (vs : ValueItems) × (v ≡ array vs) × (ns ≡ flat_items vs) × (count ≡ item_count vs)
unfolding flat_value
array_at null count size ns e = absurd (cc)
array_at (boolean b) count size ns e = absurd (cc)
array_at (number x) count size ns e = absurd (cc)
array_at (string s) count size ns e = absurd (cc)
array_at (array vs) count size ns e = (vs, refl, cc, cc)
array_at (object ms) count size ns e = absurd (cc)

object_at : (v : Value) (size : ℕ) (ns : List PlainNode) → flat_value v ≡ flat.object size ∷ ns
    → (ms : ValueMembers) × (v ≡ object ms) × (ns ≡ flat_members ms)
unfolding flat_value
object_at null size ns e = absurd (cc)
object_at (boolean b) size ns e = absurd (cc)
object_at (number x) size ns e = absurd (cc)
object_at (string s) size ns e = absurd (cc)
object_at (array vs) size ns e = absurd (cc)
object_at (object ms) size ns e = (ms, refl, cc)

few_items : (vs : ValueItems) → item_count vs ≤ length (flat_items vs)
unfolding flat_value
few_items no_items = omega arith
few_items (item v vs) =
    omega (arith, few_items vs, some_value v, length-append (flat_value v) (flat_items vs))

module _ (nodes ns : List PlainNode) (of : AreOfValue nodes) where
  module _ (count size : ℕ) (is : nodes ≡ flat.array count size ∷ ns) where
    has_items : (vs : ValueItems) × (value_in nodes ≡ array vs) × (ns ≡ flat_items vs)
        × (count ≡ item_count vs)
    has_items = array_at (value_in nodes) count size ns (of ∙ is)

    pub items_inside : AreOfItems ns
    items_inside = let has = has_items in of_items ns has.0 has.2

    pub array_first : value_in nodes ≡ array (items_in ns)
    array_first = let has = has_items in has.1 ∙ ap array (sym (is_items ns has.0 has.2))

    pub count_first : count ≡ item_count (items_in ns)
    count_first = let has = has_items in has.3 ∙ ap item_count (sym (is_items ns has.0 has.2))

    pub counted_nodes : count ≤ length ns
    counted_nodes = let has = has_items in omega (arith, has.3, few_items has.0, ap length has.2)

  module _ (size : ℕ) (is : nodes ≡ flat.object size ∷ ns) where
    has_members : (ms : ValueMembers) × (value_in nodes ≡ object ms) × (ns ≡ flat_members ms)
    has_members = object_at (value_in nodes) size ns (of ∙ is)

    pub members_inside : AreOfMembers ns
    members_inside = let has = has_members in of_members ns has.0 has.2

    pub object_first : value_in nodes ≡ object (members_in ns)
    object_first = let has = has_members in has.1 ∙ ap object (sym (is_members ns has.0 has.2))

-- ---- the view of an element

view_as_data : (v : View) → value_data (view_value v) ≡ view_data v
unfolding value_data elements_data members_data
view_as_data view.Null = refl
view_as_data (view.Bool b) = refl
view_as_data (view.Whole n) = refl
view_as_data (view.Negative z) = refl
view_as_data (view.Float x) = refl
view_as_data (view.String s) = refl
view_as_data (view.Array elements) = refl
view_as_data (view.Object members) = refl

-- the nodes of an element, by the parts that `split_first` finds
pub nodes_are : (e : Element) (node found : FlatNode) (rest : List FlatNode) → e.nodes.now ≡ node ∷ rest
    → node ≡ found → map plain e.nodes.now ≡ plain found ∷ map plain rest
nodes_are e node found rest is same = ap (map plain) (is ∙ ap (λ n. n ∷ rest) same)

pub by_nodes : (e : Element) (nodes : List PlainNode) (v : Value) → map plain e.nodes.now ≡ nodes
    → value_in nodes ≡ v → value_of e ≡ v
unfolding value_of
by_nodes e nodes v is value = ap value_in is ∙ value

pub seen : (e : Element) (v : View) → value_of e ≡ view_value v → data_of e ≡ view_data v
unfolding data_of
seen e v is = ap value_data is ∙ view_as_data v

-- ---- the whole text

module _ (text : List ℕ) (nodes : List FlatNode) (is : IsFlatText text nodes) where
  pub text_listed : AreOfValue (map plain nodes)
  text_listed = of_value (map plain nodes) (plain_value is.0) (is.2 ∙ sym (plain_listed is.0))

  pub text_value : IsValueOf text (value_in (map plain nodes))
  text_value = (is.0, is.1, is_value (map plain nodes) (plain_value is.0) (is.2 ∙ sym (plain_listed is.0)))
