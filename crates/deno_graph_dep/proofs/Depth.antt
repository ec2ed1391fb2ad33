-- The depth of a tree: a child is less deep than its parent.
use Rattle.std.proofs.Common.{◌≡◌, ℕ, zero, suc, ◌<◌, ◌≤◌, List, [], ◌∷◌, Some, slice_get, arith, ap}
use denote.Param.Weighed.{most}
use Rattle.deno_graph_source.specs.declared.tree.node.Node.{Node, out-Node, size-Node, size_is-Node}
use Rattle.deno_graph_source.specs.Node.{children_of}

-- no member of a list is deeper than the deepest
most_at : {X : Type 0} (μ : X → ℕ) (xs : List X) (k : ℕ) (x : X) → slice_get xs k ≡ Some x → μ x ≤ most μ xs
most_at μ [] k x is = cc
most_at μ (y ∷ ys) zero x is = let e : y ≡ x = cc in let m : μ y ≡ μ x = ap μ e in omega arith
most_at μ (y ∷ ys) (suc k) x is = let h : μ x ≤ most μ ys = most_at μ ys k x is in omega arith

pub child_smaller : (node child : Node) (k : ℕ) → slice_get (children_of node) k ≡ Some child
    → size-Node child < size-Node node
unfolding children_of
child_smaller node child k is =
    let m = most_at size-Node (out-Node node).children k child is in
    omega (arith, size_is-Node node, m)
