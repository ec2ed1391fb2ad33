-- The ranges of a tree.
pub use Rattle.deno_graph_source.proofs.Lists.{Contains-map}
use Rattle.std.proofs.Common.{◌≡◌, ◌∷◌, ◌++◌, ap, ◌∙◌, refl, arith}
use Rattle.std.specs.List.{flat_map, Contains}
use Rattle.std.proofs.lemmas.List.Elements.{Contains-append_left, Contains-append_right}
use Rattle.deno_graph_source.specs.Node.{kind_of, range_of, children_of, ranges_in_kind, held_ranges}
use Rattle.deno_graph_source.specs.Node.{nodes_in, node_ranges}
use Rattle.deno_graph_base.specs.declared.text.position.SourceRange.{SourceRange}
use Rattle.deno_graph_source.specs.declared.tree.node.Node.{Node}
use Rattle.deno_graph_source.proofs.Lists.{Contains-cons, Contains-flat_map, flat_map-flat_map}
use Rattle.deno_graph_source.proofs.Nodes.{nodes_in-is}

-- the ranges of a node: its own, those of its kind, and those of each child
pub node_ranges-is : (node : Node) → node_ranges node ≡ range_of node ∷ ranges_in_kind (kind_of node)
    ++ flat_map node_ranges (children_of node)
unfolding node_ranges
node_ranges-is node =
    ap (flat_map held_ranges) (nodes_in-is node)
    ∙ ap (λ below. held_ranges node ++ below) (flat_map-flat_map held_ranges nodes_in (children_of node))

-- a node's own range is among its ranges
pub Contains-own_range : (node : Node) → Contains (node_ranges node) (range_of node)
Contains-own_range node = rw node_ranges-is (0, omega arith, refl)

-- the ranges of a node's kind are among its ranges
pub Contains-kind_range : (node : Node) (range : SourceRange) → Contains (ranges_in_kind (kind_of node)) range
    → Contains (node_ranges node) range
Contains-kind_range node range h =
    rw node_ranges-is (Contains-cons _ _ range
    (Contains-append_left _ (flat_map node_ranges (children_of node)) range h))

-- the ranges of a node's children, with those below them, are among its ranges
pub Contains-child_range : (node child : Node) (range : SourceRange) → Contains (children_of node) child
    → Contains (node_ranges child) range → Contains (node_ranges node) range
Contains-child_range node child range at h =
    rw node_ranges-is (Contains-cons _ _ range
    (Contains-append_right (ranges_in_kind (kind_of node)) _ range
    (Contains-flat_map node_ranges (children_of node) child range at h)))
