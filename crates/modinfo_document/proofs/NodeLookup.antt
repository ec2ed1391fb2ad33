-- The values that items, nodes and a program are read from.
use Rattle.std.proofs.Common.{◌≡◌, ℕ, zero, suc, List, [], ◌∷◌, codes, false, Option, Some, None, slice_get}
use Rattle.std.proofs.Common.{refl, sym, ap, subst, ◌∙◌}
use Rattle.std.proofs.lemmas.Option.{none-some, option_and_then_some, same_Some}
use Rattle.serde_json.specs.Data.{Data, null, boolean, number, string, array, object, Items, no_items, item}
use Rattle.serde_json.specs.Data.{Members}
use Rattle.serde_json.specs.Find.{as_array, as_bool, as_object, get, get_item, get_member}
use Rattle.deno_graph_json.specs.Read.Partial.{◌>>=◌, member_at, member_or, read_or, reads_array, reads_items}
use Rattle.deno_graph_source.specs.declared.tree.node.Node.{Node, roll-Node}
use Rattle.deno_graph_source.specs.declared.tree.node.Node.TheOpen.{Node-F}
use Rattle.deno_graph_source.specs.declared.tree.node.Node.TheViews.{out-roll-Node}
use Rattle.deno_graph_source.specs.declared.tree.node.Kind.{Kind}
use Rattle.deno_graph_source.specs.declared.tree.node.Program.{Program}
use Rattle.deno_graph_base.specs.declared.text.position.SourceRange.{SourceRange}
use Rattle.deno_graph_source.specs.Node.{children_of}
use Rattle.modinfo_document.specs.Kind.{reads_kind}
use Rattle.modinfo_document.specs.Literal.{reads_source_range}
use Rattle.modinfo_document.specs.Node.{children_in, reads_node, reads_nodes, reads_program, node_with}
use Rattle.modinfo_document.proofs.Nodes.{children_read, node_read, nodes_read}

-- The item of this number, in the array that is the member of this name.
abbrev pub member_item : List ℕ → ℕ → Data → Option Data
member_item name k value =
    as_object value >>= (λ ms. get_member name ms >>= (λ found. as_array found >>= get_item k))

-- A reader with a value has a value at its first step.
pub step : {A B : Type 0} (o : Option A) (f : A → Option B) (y : B) → (o >>= f) ≡ Some y
    → (x : A) × (o ≡ Some x) × (f x ≡ Some y)
step (Some x) f y is = (x, refl, is)
step None f y is = absurd (none-some y is)

-- A member that is read is there.
pub member_read : {A : Type 0} (reads : Data → Option A) (name : List ℕ) (members : Members) (x : A)
    → member_at reads name members ≡ Some x
    → (d : Data) × (get_member name members ≡ Some d) × (reads d ≡ Some x)
unfolding member_at
member_read reads name members x is = step (get_member name members) reads x is

-- A member of an object is got by its name.
pub got : (name : List ℕ) (value : Data) (members : Members) (d : Data) → as_object value ≡ Some members
    → get_member name members ≡ Some d
    → get name value ≡ Some d
got name null members d is there = absurd (none-some members is)
got name (boolean b) members d is there = absurd (none-some members is)
got name (number n) members d is there = absurd (none-some members is)
got name (string s) members d is there = absurd (none-some members is)
got name (array held) members d is there = absurd (none-some members is)
got name (object held) members d is there = ap (get_member name) (same_Some held members is) ∙ there

-- The second is read from the first, or there is neither.
abbrev pub IsReadFrom : {A : Type 0} → (Data → Option A) → Option Data → Option A → Type 0
IsReadFrom reads None None = Unit {0}
IsReadFrom reads None (Some x) = ⊥
IsReadFrom reads (Some value) None = ⊥
IsReadFrom reads (Some value) (Some x) = reads value ≡ Some x

module _ {A : Type 0} (reads : Data → Option A) where
  pub read_from : (found : Option Data) (x : Option A) → IsReadFrom reads found x → (found >>= reads) ≡ x
  read_from None None is = refl
  read_from None (Some x) is = absurd is
  read_from (Some value) None is = absurd is
  read_from (Some value) (Some x) is = is

  -- The value with a number is read from the item with that number.
  pub items_from : (values : Items) (xs : List A) → reads_items reads values ≡ Some xs → (k : ℕ)
      → IsReadFrom reads (get_item k values) (slice_get xs k)
  unfolding reads_items
  items_from no_items xs is k = subst (λ ys. IsReadFrom reads None (slice_get ys k)) (same_Some [] xs is) tt
  items_from (item value values) xs is k =
      let first = step (reads value) (λ x. reads_items reads values >>= (λ ys. Some (x ∷ ys))) xs is in
      let rest = step (reads_items reads values) (λ ys. Some (first.0 ∷ ys)) xs first.2 in
      subst (λ ys. IsReadFrom reads (get_item k (item value values)) (slice_get ys k)) (same_Some _ _ rest.2)
      (at_number k first.0 rest.0 first.1 (items_from values rest.0 rest.1))
    where
      at_number : (k : ℕ) (x : A) (ys : List A) → reads value ≡ Some x
          → ((n : ℕ) → IsReadFrom reads (get_item n values) (slice_get ys n))
          → IsReadFrom reads (get_item k (item value values)) (slice_get (x ∷ ys) k)
      at_number zero x ys is others = is
      at_number (suc n) x ys is others = others n

-- The nodes of an array.
array_from : (value : Data) (nodes : List Node) → reads_array reads_node value ≡ Some nodes → (k : ℕ)
    → IsReadFrom reads_node (as_array value >>= get_item k) (slice_get nodes k)
unfolding reads_array
array_from value nodes is k =
    let found = step (as_array value) (reads_items reads_node) nodes is in
    subst (λ o. IsReadFrom reads_node (o >>= get_item k) (slice_get nodes k)) (sym found.1)
    (items_from reads_node found.0 nodes found.2 k)

-- The nodes of a member that may be missing.
member_from : (found : Option Data) (nodes : List Node) → read_or reads_nodes [] found ≡ Some nodes
    → (k : ℕ)
    → IsReadFrom reads_node (found >>= (λ value. as_array value >>= get_item k)) (slice_get nodes k)
member_from None nodes is k = subst (λ ns. IsReadFrom reads_node None (slice_get ns k))
    (same_Some [] nodes is) tt
member_from (Some value) nodes is k = array_from value nodes (sym (nodes_read value) ∙ is) k

-- The children of a node that is made of them.
rolled : (range : SourceRange) (kind : Kind) (children : List Node) (node : Node)
    → Some (roll-Node (record { range = range; kind = kind; children = children })) ≡ Some node
    → Some children ≡ Some (children_of node)
unfolding children_of
rolled range kind children node is =
    let made : Node-F Node = record { range = range; kind = kind; children = children } in
    ap Some (sym (ap (λ layer. layer.children) (out-roll-Node made))
    ∙ ap children_of (same_Some (roll-Node made) node is))

children_with : (members : Members) (below : Option (List Node)) (node : Node)
    → node_with members below ≡ Some node
    → below ≡ Some (children_of node)
unfolding node_with
children_with members below node is =
    option_and_then_some _ (member_at reads_source_range (codes "range") members) node is
    (λ range _ with_range. option_and_then_some _
    (reads_kind members) node with_range
    (λ kind _ with_kind. option_and_then_some _ below node with_kind
    (λ children found made. found ∙ rolled range kind children node made)))

-- The children of a node.
pub children_from : (value : Data) (node : Node) → reads_node value ≡ Some node → (k : ℕ)
    → IsReadFrom reads_node (member_item (codes "children") k value) (slice_get (children_of node) k)
children_from value node is k =
    option_and_then_some _ (as_object value) node (sym (node_read value) ∙ is)
    (λ members object with_members.
    subst (λ o. IsReadFrom reads_node
    (o >>= (λ ms. get_member (codes "children") ms >>= (λ found. as_array found >>= get_item k)))
    (slice_get (children_of node) k)) (sym object)
    (member_from (get_member (codes "children") members) (children_of node)
    (sym (children_read members) ∙ children_with members (children_in members) node with_members) k))

-- The body of a program.
pub body_from : (value : Data) (program : Program) → reads_program value ≡ Some program → (k : ℕ)
    → IsReadFrom reads_node (member_item (codes "body") k value) (slice_get program.body k)
unfolding reads_program member_at
body_from value program is k =
    option_and_then_some _ (as_object value) program is
    (λ members object with_members. option_and_then_some _
    (get_member (codes "range") members >>= reads_source_range) program with_members
    (λ range _ with_range. option_and_then_some _
    (member_or as_bool (codes "shebang") false members) program with_range
    (λ shebang _ with_shebang. option_and_then_some _
    (get_member (codes "body") members >>= reads_array reads_node) program with_shebang
    (λ body read made. option_and_then_some (reads_array reads_node) (get_member (codes "body") members) body
    read
    (λ found there is_body.
    subst (λ o. IsReadFrom reads_node
    (o >>= (λ ms. get_member (codes "body") ms >>= (λ v. as_array v >>= get_item k)))
    (slice_get program.body k)) (sym object)
    (subst (λ o. IsReadFrom reads_node (o >>= (λ v. as_array v >>= get_item k)) (slice_get program.body k))
    (sym there)
    (subst (λ p. IsReadFrom reads_node (as_array found >>= get_item k) (slice_get p.body k))
    (same_Some _ program made)
    (array_from found body is_body k))))))))
