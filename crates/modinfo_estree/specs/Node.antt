-- Reading nodes, with all nodes below.
use Rattle.std.specs.Prelude.{ℕ, List, [], ◌∷◌, ◌++◌, Bool, codes, bytes_eq, Option, Some, None}
use Rattle.serde_json.specs.Data.{Data, array, object, Items, no_items, item, Members, no_members, member}
use Rattle.serde_json.specs.Find.{as_str}
use Rattle.deno_graph_json.specs.Read.Partial.{◌>>=◌, member_at}
use Rattle.deno_graph_source.specs.declared.tree.node.Node.{Node}
use Rattle.modinfo_estree.specs.Child.{role_of, sorted_children}
use Rattle.modinfo_estree.specs.Kind.{reads_type}
use Rattle.modinfo_estree.specs.Member.{has_text, reads_range, type_of}
use Rattle.modinfo_estree.specs.Source.{EstreeSource, byte_of}
use Rattle.modinfo_estree.specs.declared.child.Child.{Child}
use Rattle.modinfo_estree.specs.declared.role.Role.{Role}

-- A node as the child of another one.
abbrev pub child_of : Role → List ℕ → Node → Child
child_of role type node = record {
  role = role;
  is_spread = bytes_eq type (codes "SpreadElement");
  node = node;
}

-- A value as a child, if it is a node: if it has a type.
abbrev pub as_child : Role → Option (List ℕ) → Option Node → Option (List Child)
as_child role None read = Some []
as_child role (Some type) read = do
  found ← read
  Some (child_of role type found ∷ [])

-- Children followed by others.
abbrev pub and_then : Option (List Child) → Option (List Child) → Option (List Child)
and_then first others = do
  xs ← first
  ys ← others
  Some (xs ++ ys)

-- Whether a node is an attribute of JSX.
abbrev pub is_jsx_attribute : Members → Bool
is_jsx_attribute = has_text (codes "type") (codes "JSXAttribute")

module _ (source : EstreeSource) where
  -- The node with these members and these nodes below it, which are in the order of their members' names.
  unfoldable pub node_with : Role → Members → Option (List Child) → Option Node
  node_with role members below = do
    type ← member_at as_str (codes "type") members
    range ← reads_range (byte_of source) members
    children ← below
    reads_type (record { source = source; role = role; members = members; range = range })
        (sorted_children children) type

  unfoldable mutual
    -- A node of a role, with all nodes below it.
    pub reads_node : Role → Data → Option Node
    reads_node role (object members) =
        node_with role members (children_in (is_jsx_attribute members) members)
    reads_node role _ = None

    -- The nodes in the members of a node, which may be an attribute of JSX: values, and items of arrays.
    pub children_in : Bool → Members → Option (List Child)
    children_in is_jsx no_members = Some []
    children_in is_jsx (member name (array items) members) =
        and_then (children_among (role_of is_jsx name) items) (children_in is_jsx members)
    children_in is_jsx (member name value members) =
        and_then (as_child (role_of is_jsx name) (type_of value) (reads_node (role_of is_jsx name) value))
        (children_in is_jsx members)

    -- The items of an array that are nodes.
    pub children_among : Role → Items → Option (List Child)
    children_among role no_items = Some []
    children_among role (item value items) =
        and_then (as_child role (type_of value) (reads_node role value)) (children_among role items)
