-- Paths in a syntax tree. A path is a list of indices, counted from zero: the first is that of an
-- item of the body, and each further one that of a child of the node before.
use Rattle.std.specs.Prelude.{◌≡◌, ℕ, ◌<◌, List, [], ◌∷◌, ◌++◌, Option, Some, None, slice_get, IsSomeAnd}
use Rattle.deno_graph_source.specs.declared.tree.node.Node.{Node}
use Rattle.deno_graph_source.specs.Node.{children_of}

abbrev pub NodePath : Type 0
NodePath = List ℕ

-- the node to which child indices lead from a node, if there is one
abbrev pub node_below : Option Node → NodePath → Option Node
node_below None path = None
node_below (Some node) [] = Some node
node_below (Some node) (index ∷ path) = node_below (slice_get (children_of node) index) path

-- the node to which a path leads: none if the path is empty or no node has one of its indices
abbrev pub node_at : List Node → NodePath → Option Node
node_at body [] = None
node_at body (index ∷ path) = node_below (slice_get body index) path

-- the path leads to a node with the property `P`
abbrev pub LeadsTo : (Node → Type 0) → List Node → NodePath → Type 0
LeadsTo P body path = IsSomeAnd (node_at body path) P

-- `p` is a prefix of `q`, and shorter
pub record IsStrictPrefix (p q : NodePath) : Type 0 where
  pub index : ℕ
  pub rest : NodePath
  pub joined : q ≡ p ++ (index ∷ rest)

-- after a common prefix, `p` has a smaller index than `q`
pub record PartsBelow (p q : NodePath) : Type 0 where
  pub front : NodePath
  pub low : ℕ
  pub high : ℕ
  pub after_low : NodePath
  pub after_high : NodePath
  pub first_joined : p ≡ front ++ (low ∷ after_low)
  pub second_joined : q ≡ front ++ (high ∷ after_high)
  pub smaller : low < high
