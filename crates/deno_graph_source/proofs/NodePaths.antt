-- The node at a path is a node of the tree, and paths that are read from their end.
use Rattle.std.proofs.Common.{◌≡◌, ℕ, List, [], ◌∷◌, ◌++◌, Option, Some, None, reverse, refl, sym, subst}
use Rattle.std.specs.List.{Contains, slice_get}
use Rattle.std.specs.Option.{IsSomeAnd}
use Rattle.std.proofs.lemmas.List.{reverse-append}
use Rattle.std.proofs.lemmas.Option.{slice_get_within, get_or_from_slice_get}
use Rattle.deno_graph_source.specs.Node.{children_of, nodes_in, nodes_of}
use Rattle.deno_graph_source.specs.NodePath.{NodePath, LeadsTo, node_at, node_below}
use Rattle.deno_graph_source.specs.declared.tree.node.Node.{Node}
use Rattle.deno_graph_source.specs.declared.tree.node.Program.{Program}
use Rattle.deno_graph_source.proofs.Lists.{Contains-flat_map}
use Rattle.deno_graph_source.proofs.Nodes.{Contains-child_node, Contains-own_node}

-- the item with an index is an element of the list
pub Contains-from_slice_get : {X : Type 0} (xs : List X) (k : ℕ) (x : X) → slice_get xs k ≡ Some x
    → Contains xs x
Contains-from_slice_get xs k x at = (k, slice_get_within xs k x at, get_or_from_slice_get xs k x x at)

-- an option whose value has a property has a value
pub some_from : {X : Type 0} (P : X → Type 0) (o : Option X) → IsSomeAnd o P → (x : X) × (o ≡ Some x) × P x
some_from P None h = absurd h
some_from P (Some x) h = (x, refl, h)

-- an option has a value with a property, if the value is given
pub some_and : {X : Type 0} (P : X → Type 0) (o : Option X) (x : X) → o ≡ Some x → P x → IsSomeAnd o P
some_and P o x is h = rw is h

-- the node below a node is one of its nodes
below_top : (o : Option Node) (path : NodePath) (below : Node) → node_below o path ≡ Some below
    → (top : Node) × (o ≡ Some top) × Contains (nodes_in top) below
below_top None path below at = cc
below_top (Some top) [] below at =
    let same : top ≡ below = cc in
    (top, refl, subst (λ n. Contains (nodes_in top) n) same (Contains-own_node top))
below_top (Some top) (k ∷ path) below at =
    let child = below_top (slice_get (children_of top) k) path below at in
    let one = Contains-from_slice_get (children_of top) k child.0 child.1 in
    (top, refl, Contains-child_node top child.0 below one child.2)

-- the node at a path is one of the program
pub Contains-node_at : (program : Program) (path : NodePath) (node : Node)
    → node_at program.body path ≡ Some node → Contains (nodes_of program) node
unfolding nodes_of
Contains-node_at program [] node at = cc
Contains-node_at program (k ∷ path) node at =
    let item = below_top (slice_get program.body k) path node at in
    let one = Contains-from_slice_get program.body k item.0 item.1 in
    Contains-flat_map nodes_in program.body item.0 node one item.2

module _ (P : Node → Type 0) (number : ℕ) (back longer : List ℕ)
    (more : longer ≡ back ++ number ∷ []) where
  turned : reverse longer ≡ number ∷ reverse back
  turned = rw (more, reverse-append) refl

  -- a path that leads from a child, with the child's index, leads from the node
  pub leads_from_child : (node child : Node) → slice_get (children_of node) number ≡ Some child
      → IsSomeAnd (node_below (Some child) (reverse back)) P
      → IsSomeAnd (node_below (Some node) (reverse longer)) P
  leads_from_child node child at h =
      rw turned (subst (λ o. IsSomeAnd (node_below o (reverse back)) P) (sym at) h)

  -- a path that leads from an item, with the item's index, leads from the body
  pub leads_from_item : (body : List Node) (item : Node) → slice_get body number ≡ Some item
      → IsSomeAnd (node_below (Some item) (reverse back)) P → LeadsTo P body (reverse longer)
  leads_from_item body item at h =
      rw turned (subst (λ o. IsSomeAnd (node_below o (reverse back)) P) (sym at) h)
