-- The first value of a list of nodes, and the first item or member.
use Rattle.std.proofs.Common.{◌≡◌, ℕ, ◌+◌, ◌≤◌, List, [], ◌∷◌, ◌++◌, length, map, take, Option, Some, None}
use Rattle.std.proofs.Common.{arith, refl, sym, ap, ◌∙◌, length-append}
use Rattle.std.proofs.lemmas.List.{take_at, length-map, map-append}
use Rattle.std.specs.Borrow.{Bor}
use Rattle.deno_graph_json.specs.Flat.{PlainNode, plain}
use Rattle.deno_graph_json.specs.Flat as flat
use Rattle.deno_graph_json.specs.Value.{Value, null, boolean, number, string, array, object, ValueItems}
use Rattle.deno_graph_json.specs.Value.{no_items, item, ValueMembers, no_members, member, item_count}
use Rattle.deno_graph_json.specs.Value.{flat_value, flat_items, flat_members, plain_inside, value_in}
use Rattle.deno_graph_json.specs.Value.{items_in, members_in, AreOfValue, AreOfItems, AreOfMembers}
use Rattle.deno_graph_json.specs.Value.{value_within}
use Rattle.deno_graph_json.specs.internal.Nodes.{BeginsValue}
use Rattle.deno_graph_json.specs.View.{items_left, items_with, members_of, members_with}
use Rattle.deno_graph_json.specs.declared.flat.Element.{Element}
use Rattle.deno_graph_json.specs.declared.flat.Elements.{Elements}
use Rattle.deno_graph_json.specs.declared.flat.Members.{Members as ElementMembers}
use Rattle.deno_graph_json.specs.declared.flat.FlatNode.{FlatNode}
use Rattle.deno_graph_json.specs.declared.flat.FlatNode.TheVariants.{Null, Bool as TheBool, Whole, Negative}
use Rattle.deno_graph_json.specs.declared.flat.FlatNode.TheVariants.{Float, String, Key, Array, Object}
use Rattle.deno_graph_json.proofs.Values.{some_value, same_front, is_items, is_members, of_value, of_items}
use Rattle.deno_graph_json.proofs.Values.{of_members}

-- ---- the first value

-- a value has as many nodes as its first node counts
front_length : (v : Value) (r : List PlainNode) (n : PlainNode) (ns : List PlainNode)
    → n ∷ ns ≡ flat_value v ++ r → length (flat_value v) ≡ plain_inside n + 1
unfolding flat_value
front_length null r n ns e = let same : n ≡ flat.null = cc in omega (arith, ap plain_inside same)
front_length (boolean b) r n ns e = let same : n ≡ flat.boolean b = cc in omega (arith, ap plain_inside same)
front_length (number x) r n ns e = let same : n ≡ flat.number x = cc in omega (arith, ap plain_inside same)
front_length (string s) r n ns e = let same : n ≡ flat.string s = cc in omega (arith, ap plain_inside same)
front_length (array vs) r n ns e =
    let same : n ≡ flat.array (item_count vs) (length (flat_items vs)) = cc in omega
    (arith, ap plain_inside same)
front_length (object ms) r n ns e = let same : n ≡ flat.object (length (flat_members ms)) = cc in omega
    (arith, ap plain_inside same)

module _ (nodes : List FlatNode) (node : FlatNode) (ns : List PlainNode)
    (is : map plain nodes ≡ plain node ∷ ns) (begins : BeginsValue (map plain nodes)) where
  first : (v : Value) × (r : List PlainNode) × (map plain nodes ≡ flat_value v ++ r)
  first = begins (omega (arith, ap length is))

  counted : length (flat_value first.0) ≡ plain_inside (plain node) + 1
  counted = front_length first.0 first.1 (plain node) ns (sym is ∙ first.2)

  -- the first value ends within the nodes
  pub size_fits : plain_inside (plain node) + 1 ≤ length nodes
  size_fits =
      omega (
        arith,
        counted,
        length-map nodes plain,
        ap length first.2,
        length-append (flat_value first.0) first.1,
      )

  -- `own` are as many nodes as the first one counts
  module _ (own rest : List FlatNode) (whole : nodes ≡ own ++ rest)
      (long : length own ≡ plain_inside (plain node) + 1) where
    parts : map plain nodes ≡ map plain own ++ map plain rest
    parts = ap (map plain) whole ∙ map-append plain own rest

    front : map plain own ≡ flat_value first.0
    front =
        let size = plain_inside (plain node) + 1 in
        sym (take_at (map plain own) (map plain rest) size (length-map own plain ∙ long))
        ∙ ap (take size) (sym parts ∙ first.2) ∙ take_at (flat_value first.0) first.1 size counted

    pub own_value : AreOfValue (map plain own)
    own_value = of_value (map plain own) first.0 front

    pub split : map plain nodes ≡ flat_value (value_in (map plain own)) ++ map plain rest
    split = parts ∙ ap (λ l. l ++ map plain rest) (sym own_value)

-- ---- the first item

begins : (vs : ValueItems) (ns : List PlainNode) → flat_items vs ≡ ns → BeginsValue ns
unfolding flat_value
begins no_items ns is = λ some. absurd (omega (arith, ap length is))
begins (item v vs) ns is = λ some. (v, flat_items vs, sym is)

pub begins_item : (ns : List PlainNode) → AreOfItems ns → BeginsValue ns
begins_item ns of = begins (items_in ns) ns of

module _ (w : Value) (ns rest : List PlainNode) (is : ns ≡ flat_value w ++ rest) where
  item_passed : (vs : ValueItems) → flat_items vs ≡ ns
      → (more : ValueItems) × (vs ≡ item w more) × (rest ≡ flat_items more)
  unfolding flat_value
  item_passed no_items of = absurd
      (omega (arith, ap length (of ∙ is), length-append (flat_value w) rest, some_value w))
  item_passed (item v vs) of = let same = same_front v w (flat_items vs) rest (of ∙ is) in
      (vs, ap (λ u. item u vs) same.0, sym same.1)

  pub items_after : AreOfItems ns → AreOfItems rest
  items_after of = let one = item_passed (items_in ns) of in of_items rest one.0 one.2

  pub item_first : AreOfItems ns → items_in ns ≡ item w (items_in rest)
  item_first of =
      let one = item_passed (items_in ns) of in
      one.1 ∙ ap (item w) (sym (is_items rest one.0 one.2))

-- ---- the first member

is_name : (node : FlatNode) (k : List ℕ) → plain node ≡ flat.key k → (name : Bor (List ℕ)) × (node ≡ Key name)
is_name Null k e = absurd (cc)
is_name (TheBool b) k e = absurd (cc)
is_name (Whole n) k e = absurd (cc)
is_name (Negative z) k e = absurd (cc)
is_name (Float x) k e = absurd (cc)
is_name (String s) k e = absurd (cc)
is_name (Key s) k e = (s, refl)
is_name (Array count nodes) k e = absurd (cc)
is_name (Object nodes) k e = absurd (cc)

module _ (node : FlatNode) (ns : List PlainNode) where
  named : (ms : ValueMembers) → flat_members ms ≡ plain node ∷ ns
      → (k : List ℕ) × (plain node ≡ flat.key k)
      × (v : Value) × (r : List PlainNode) × (ns ≡ flat_value v ++ r)
  unfolding flat_value
  named no_members is = absurd (cc)
  named (member k v ms) is = (k, cc, v, flat_members ms, cc)

  -- the first node of members is a name, and a value follows
  module _ (of : AreOfMembers (plain node ∷ ns)) where
    pub first_name : (name : Bor (List ℕ)) × (node ≡ Key name)
    first_name = let is = named (members_in (plain node ∷ ns)) of in is_name node is.0 is.1

    pub begins_member : BeginsValue ns
    begins_member = λ some. let is = named (members_in (plain node ∷ ns)) of in (is.2, is.3, is.4)

    pub value_follows : ns ≡ [] → ⊥
    value_follows none =
        let is = named (members_in (plain node ∷ ns)) of in
        omega (arith, ap length (sym none ∙ is.4), length-append (flat_value is.2) is.3, some_value is.2)

module _ (name : List ℕ) (w : Value) (ns rest : List PlainNode) (is : ns ≡ flat_value w ++ rest)
    (of : AreOfMembers (flat.key name ∷ ns)) where
  passed : (ms : ValueMembers) → flat_members ms ≡ flat.key name ∷ ns
      → (more : ValueMembers) × (ms ≡ member name w more) × (rest ≡ flat_members more)
  unfolding flat_value
  passed no_members e = absurd (cc)
  passed (member k v ms) e =
      let inside : flat_value v ++ flat_members ms ≡ ns = cc in
      let same_name : k ≡ name = cc in
      let same = same_front v w (flat_members ms) rest (inside ∙ is) in
      (ms, ap (λ n. member n v ms) same_name ∙ ap (λ u. member name u ms) same.0, sym same.1)

  pub members_after : AreOfMembers rest
  members_after = let one = passed (members_in (flat.key name ∷ ns)) of in of_members rest one.0 one.2

  pub member_first : members_in (flat.key name ∷ ns) ≡ member name w (members_in rest)
  member_first =
      let one = passed (members_in (flat.key name ∷ ns)) of in
      one.1 ∙ ap (member name w) (sym (is_members rest one.0 one.2))

-- ---- nothing is left

pub no_element : (old : Elements) (r : Option Element) → r ≡ None → old.nodes.now ≡ []
    → items_left old ≡ items_with r (items_left old)
unfolding items_left items_in value_within
no_element old None is none = ap (λ ns. items_in (map plain ns)) none
no_element old (Some element) is none = absurd (cc)

pub no_entry : (old : ElementMembers) (r : Option (Bor (List ℕ) × Element)) → r ≡ None → old.nodes.now ≡ []
    → members_of old ≡ members_with r (members_of old)
unfolding members_of members_in value_within
no_entry old None is none = ap (λ ns. members_in (map plain ns)) none
no_entry old (Some found) is none = absurd (cc)
