-- The nodes that a walk has entered, and their count.
use Rattle.std.specs.Prelude.{◌≡◌, ◌≢◌, ℕ, ◌-◌, ◌^◌, min, List, length, Contains, AllPairs, ◌↔◌}
use Rattle.deno_graph_source.specs.declared.tree.node.Node.{Node}
use Rattle.deno_graph_dep.specs.Listing.{Rules, IsAfterInside, IsReachable}
use Rattle.deno_graph_source.specs.NodePath.{NodePath, IsStrictPrefix, PartsBelow}

-- The node at q is entered when a step returns the node at p: q parts from p at a smaller index, q is
-- p or a prefix of p, or p is a strict prefix of q and the node at p comes after its inside.
pub data IsEnteredBy (rules : Rules) (body : List Node) (p q : NodePath) : Type 0 where
  apart : PartsBelow q p → IsEnteredBy rules body p q
  itself : q ≡ p → IsEnteredBy rules body p q
  outer : IsStrictPrefix q p → IsEnteredBy rules body p q
  inner : IsStrictPrefix p q → IsAfterInside rules body p → IsEnteredBy rules body p q

-- This many paths have the property P. The count is the length of a list of them, each once, or the
-- largest u64 if that is less.
pub record IsCountOf (P : NodePath → Type 0) (count : ℕ) : Type 0 where
  pub paths : List NodePath
  pub distinct : AllPairs ◌≢◌ paths
  pub members : (path : NodePath) → Contains paths path ↔ P path
  pub length_is : count ≡ min (length paths) (2 ^ 64 - 1)

-- the reachable paths that are entered when a step returns the node at p
abbrev pub EnteredBy : Rules → List Node → NodePath → NodePath → Type 0
EnteredBy rules body p q = IsReachable rules body q × IsEnteredBy rules body p q
