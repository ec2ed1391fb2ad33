-- Reading nodes and the nodes below them, one child after another.
use Rattle.std.proofs.Common.{◌≡◌, ℕ, List, [], ◌∷◌, ◌++◌, Option, Some, None, refl, sym, ap, ◌∙◌}
use Rattle.std.proofs.Common.{append_assoc, append-nil, codes, Bool, bytes_eq, Result, IsErrAnd, IsSomeAnd}
use Rattle.serde_json.specs.Data.{Data, array, object, Items, no_items, item, Members, member}
use Rattle.serde_json.specs.Find.{as_object, as_str}
use Rattle.deno_graph_base.specs.declared.text.position.SourceRange.{SourceRange}
use Rattle.deno_graph_json.specs.Data.{data_of, named_data, view_data}
use Rattle.deno_graph_json.specs.Read.Partial.{◌>>=◌, member_at}
use Rattle.deno_graph_json.specs.Read.Result.{IsReadError}
use Rattle.deno_graph_json.specs.declared.error.ReadError.{ReadError}
use Rattle.deno_graph_json.specs.declared.flat.Elements.{Elements}
use Rattle.deno_graph_json.specs.declared.flat.Members.{Members as ElementMembers}
use Rattle.deno_graph_json.specs.declared.flat.view.View.{View}
use Rattle.deno_graph_json.specs.declared.flat.view.View.TheVariants as view
use Rattle.deno_graph_json.proofs.ObjectMembers.{Entry}
use Rattle.deno_graph_json.proofs.Reading.{before, step_error}
use Rattle.deno_graph_source.specs.declared.tree.node.Node.{Node}
use Rattle.modinfo_document.proofs.Results.{exits_by, some_and, some_with}
use Rattle.modinfo_estree.specs.Child.{role_of, sorted_children}
use Rattle.modinfo_estree.specs.Kind.{reads_type}
use Rattle.modinfo_estree.specs.Member.{reads_range, type_of}
use Rattle.modinfo_estree.specs.Node.{and_then, children_among, children_in, is_jsx_attribute, node_with}
use Rattle.modinfo_estree.specs.Node.{reads_node}
use Rattle.modinfo_estree.specs.Source.{EstreeSource, byte_of}
use Rattle.modinfo_estree.specs.declared.child.Child.{Child}
use Rattle.modinfo_estree.specs.declared.role.Role.{Role}
use Rattle.modinfo_estree.specs.internal.Node.{AreAppended, children_at, item_child}

module _ (source : EstreeSource) where
  -- a node is read from the members of its object
  pub node_read : (role : Role) (value : Data) → reads_node source role value
      ≡ (as_object value >>= (λ members. node_with source role members
      (children_in source (is_jsx_attribute members) members)))
  unfolding reads_node
  node_read role (object ms) = refl
  node_read role _ = refl

  -- the nodes in a member come before those in the next ones
  member_children : (is_jsx : Bool) (name : List ℕ) (value : Data) (members : Members)
      → children_in source is_jsx (member name value members)
      ≡ and_then (children_at source (role_of is_jsx name) value) (children_in source is_jsx members)
  unfolding children_in
  member_children is_jsx name (array items) ms = refl
  member_children is_jsx name _ ms = refl

  -- the value of a member is read like an item, if it is an object
  pub object_read : (role : Role) (value : Data) (members : Members) → value ≡ object members
      → children_at source role value ≡ item_child source role value
  object_read role value ms is = rw is refl

  -- any other value has no child
  pub no_child : (role : Role) (value : Data) (old : List Child) (found : View) → value ≡ view_data found
      → ((items : Elements) → found ≡ view.Array items → ⊥)
      → ((ms : ElementMembers) → found ≡ view.Object ms → ⊥)
      → IsSomeAnd (children_at source role value) (λ children. old ≡ old ++ children)
  no_child role value old view.Null is no_array no_object = rw is (sym (append-nil old))
  no_child role value old (view.Bool b) is no_array no_object = rw is (sym (append-nil old))
  no_child role value old (view.Whole n) is no_array no_object = rw is (sym (append-nil old))
  no_child role value old (view.Negative z) is no_array no_object = rw is (sym (append-nil old))
  no_child role value old (view.Float x) is no_array no_object = rw is (sym (append-nil old))
  no_child role value old (view.String s) is no_array no_object = rw is (sym (append-nil old))
  no_child role value old (view.Array items) is no_array no_object = absurd (no_array items refl)
  no_child role value old (view.Object ms) is no_array no_object = absurd (no_object ms refl)

  -- a value with a type is a child, if it can be read
  pub one_child : (role : Role) (value : Data) (type : List ℕ) (node : Node) (is_spread : Bool)
      (old new : List Child) → Some type ≡ type_of value → reads_node source role value ≡ Some node
      → is_spread ≡ bytes_eq type (codes "SpreadElement")
      → new ≡ old ++ record { role = role; is_spread = is_spread; node = node } ∷ []
      → IsSomeAnd (item_child source role value) (λ children. new ≡ old ++ children)
  one_child role value type node is_spread old new typed read spread appended =
      rw (← typed, read, ← spread) appended

  -- a value without a type is none
  pub no_type : (role : Role) (value : Data) (old new : List Child) → None ≡ type_of value → new ≡ old
      → IsSomeAnd (item_child source role value) (λ children. new ≡ old ++ children)
  no_type role value old new none same = rw (← none) (same ∙ sym (append-nil old))

  -- a value with a type that can't be read
  pub child_error : (role : Role) (value : Data) (type : List ℕ) (old new : List Child) (error : ReadError)
      (result : Result (Unit {0}) ReadError) → Some type ≡ type_of value
      → IsErrAnd result (λ other. other ≡ error) → IsReadError value (reads_node source role value) error
      → AreAppended value (item_child source role value) old new result
  child_error role value type old new error result typed is h = rw (← typed)
      (exits_by (λ children done. new ≡ old ++ children) value (reads_node source role value) _ error result
      is h)

-- ---- children so far

-- The children that were appended are the first of all, and the others are left.
pub record AreSoFar (old new : List Child) (all left : Option (List Child)) : Type 0 where
  pub done : List Child
  pub appended : new ≡ old ++ done
  pub followed : all ≡ before done left

before_nil : (o : Option (List Child)) → o ≡ before [] o
before_nil None = refl
before_nil (Some children) = refl

pub none_yet : (old new : List Child) (all left : Option (List Child)) → new ≡ old → left ≡ all
    → AreSoFar old new all left
none_yet old new all left same is = record {
  done = [];
  appended = same ∙ sym (append-nil old);
  followed = before_nil all ∙ ap (before []) (sym is);
}

before_more : (xs ys : List Child) (rest : Option (List Child))
    → before xs (and_then (Some ys) rest) ≡ before (xs ++ ys) rest
before_more xs ys None = refl
before_more xs ys (Some zs) = ap Some (sym (append_assoc xs ys zs))

module _ (old new : List Child) (all left first rest : Option (List Child))
    (so_far : AreSoFar old new all left) (next : left ≡ and_then first rest) where
  followed_now : all ≡ before so_far.done (and_then first rest)
  followed_now = so_far.followed ∙ ap (before so_far.done) next

  -- after the next ones
  pub some_more : (newer : List Child) → IsSomeAnd first (λ children. newer ≡ new ++ children)
      → AreSoFar old newer all rest
  some_more newer more = let (ys, is, same) = some_with _ first more in record {
    done = so_far.done ++ ys;
    appended = same ∙ ap (λ xs. xs ++ ys) so_far.appended ∙ append_assoc old so_far.done ys;
    followed = followed_now ∙ ap (λ o. before so_far.done (and_then o rest)) is
        ∙ before_more so_far.done ys rest;
  }

  -- if the next ones can't be read, all can't
  pub next_error : (value : Data) (error : ReadError) → IsReadError value first error
      → IsReadError value all error
  next_error value error is =
      rw followed_now (step_error value _ _ error (step_error value first _ error is))

-- none is left
pub all_done : (old new : List Child) (all left : Option (List Child)) → AreSoFar old new all left
    → left ≡ Some [] → IsSomeAnd all (λ children. new ≡ old ++ children)
all_done old new all left so_far none = some_and (λ children. new ≡ old ++ children) all so_far.done
    (so_far.followed ∙ ap (before so_far.done) none ∙ ap Some (append-nil so_far.done)) so_far.appended

-- no child was before
pub all_new : (new : List Child) (all : Option (List Child))
    → IsSomeAnd all (λ children. new ≡ [] ++ children) → all ≡ Some new
all_new new all is = let (ys, found, same) = some_with _ all is in found ∙ ap Some (sym same)

module _ (source : EstreeSource) where
  -- the first item of those that are left
  pub item_next : (role : Role) (left rest : Items) (value : Data) → left ≡ item value rest
      → children_among source role left
      ≡ and_then (item_child source role value) (children_among source role rest)
  unfolding children_among
  item_next role left rest value first = rw first refl

  pub no_item_next : (role : Role) (left : Items) → left ≡ no_items
      → children_among source role left ≡ Some []
  unfolding children_among
  no_item_next role left none = rw none refl

  -- the first member of those that are left
  pub member_next : (is_jsx : Bool) (role : Role) (left rest : List Entry) (e : Entry) → left ≡ e ∷ rest
      → role ≡ role_of is_jsx e.0 → children_in source is_jsx (named_data left)
      ≡ and_then (children_at source role (data_of e.1)) (children_in source is_jsx (named_data rest))
  member_next is_jsx role left rest e first is =
      rw (first, is) (member_children source is_jsx e.0 (data_of e.1) (named_data rest))

  pub no_member_next : (is_jsx : Bool) (left : List Entry) → left ≡ []
      → children_in source is_jsx (named_data left) ≡ Some []
  unfolding children_in
  no_member_next is_jsx left none = rw none refl

  -- the node with the children that were read
  pub type_read : (role : Role) (is_jsx : Bool) (members : Members) (type : List ℕ) (range : SourceRange)
      (children : List Child) → member_at as_str (codes "type") members ≡ Some type
      → reads_range (byte_of source) members ≡ Some range → children_in source is_jsx members ≡ Some children
      → node_with source role members (children_in source is_jsx members)
      ≡ reads_type (record { source = source; role = role; members = members; range = range })
      (sorted_children children) type
  unfolding node_with
  type_read role is_jsx ms type range children named first second = rw (named, first, second) refl
