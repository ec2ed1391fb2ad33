-- The listing of a body: the paths of certain nodes in tree order.
use Rattle.std.specs.Prelude.{List, Bool, IsTrue, IsSome, Contains, AllPairs, ◌↔◌}
use Rattle.deno_graph_source.specs.declared.tree.node.Node.{Node}
use Rattle.deno_graph_source.specs.NodePath.{NodePath, node_at, LeadsTo, IsStrictPrefix, PartsBelow}

-- what a listing asks of a node, whatever nodes are around it
pub record Rules : Type 0 where
  -- no node inside it is reached
  pub is_closed : Node → Bool
  -- it belongs to the listing, if it is reached
  pub is_member : Node → Bool
  -- it comes after the nodes inside it; other nodes come before
  pub is_after_inside : Node → Bool

-- the path leads to a closed node
abbrev pub LeadsToClosed : Rules → List Node → NodePath → Type 0
LeadsToClosed rules body path = LeadsTo (λ node. IsTrue (rules.is_closed node)) body path

-- the path leads to a node, and no strict prefix of it leads to a closed node
pub record IsReachable (rules : Rules) (body : List Node) (path : NodePath) : Type 0 where
  pub to_node : IsSome (node_at body path)
  pub is_open : (prefix : NodePath) → IsStrictPrefix prefix path → ¬ LeadsToClosed rules body prefix

-- the path leads to a node that belongs to the listing
abbrev pub IsMember : Rules → List Node → NodePath → Type 0
IsMember rules body path = LeadsTo (λ node. IsTrue (rules.is_member node)) body path

-- the path leads to a node that comes after the nodes inside it
abbrev pub IsAfterInside : Rules → List Node → NodePath → Type 0
IsAfterInside rules body path = LeadsTo (λ node. IsTrue (rules.is_after_inside node)) body path

-- The tree order. p precedes q in three cases: they part at an index that is smaller in p; p is a
-- strict prefix of q, and the node at p does not come after its inside; or q is a strict prefix of p,
-- and the node at q comes after its inside.
pub data Precedes (rules : Rules) (body : List Node) (p q : NodePath) : Type 0 where
  apart : PartsBelow p q → Precedes rules body p q
  outer_first : IsStrictPrefix p q → ¬ IsAfterInside rules body p → Precedes rules body p q
  inner_first : IsStrictPrefix q p → IsAfterInside rules body q → Precedes rules body p q

-- the paths are exactly the reachable ones to nodes that belong to the listing, in tree order
pub record IsListing (rules : Rules) (body : List Node) (paths : List NodePath) : Type 0 where
  pub members : (path : NodePath)
      → Contains paths path ↔ (IsReachable rules body path × IsMember rules body path)
  pub ascending : AllPairs (Precedes rules body) paths
