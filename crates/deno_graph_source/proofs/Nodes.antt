-- The nodes of a tree.
use Rattle.std.proofs.Common.{◌≡◌, List, [], ◌∷◌, map, refl, sym, ap, ◌∙◌, subst, arith}
use Rattle.std.specs.List.{flat_map, Contains, All}
use Rattle.std.proofs.lemmas.List.Elements.{Contains-append_right, All-cons}
use Rattle.deno_graph_source.specs.Node.{children_of, nodes_in, nodes_step}
use Rattle.deno_graph_source.specs.declared.tree.node.Node.{Node}
use Rattle.deno_graph_source.specs.declared.tree.node.Node.TheOpen.{Node-F}
use Rattle.deno_graph_source.specs.declared.tree.node.Node.TheViews.{out-Node, roll-Node}
use Rattle.deno_graph_source.specs.declared.tree.node.Node.TheFolds.{fold-Node, fold-roll-Node, fold_out-Node}
use Rattle.deno_graph_source.specs.declared.tree.node.Node.TheFolds.{ind-Node}
use Rattle.deno_graph_source.proofs.Lists.{flat_map-map, Contains-flat_map}

-- the result of the fold: a node with all its nodes
abbrev paired : Node → Node × List Node
paired = fold-Node (Node × List Node) nodes_step

abbrev IsKept : Node → Type 0
IsKept node = (paired node).0 ≡ node

children_kept : (cs : List ((child : Node) × IsKept child))
    → map (λ child. child.0) (map paired (map (λ c. c.0) cs)) ≡ map (λ c. c.0) cs
children_kept [] = refl
children_kept (c ∷ cs) =
    ap (λ node. node ∷ map (λ child. child.0) (map paired (map (λ d. d.0) cs))) c.1
    ∙ ap (λ nodes. c.0 ∷ nodes) (children_kept cs)

-- the fold leaves each node unchanged
kept : (node : Node) → IsKept node
kept = ind-Node IsKept (λ x y is.
    let with_children : List Node → Node-F Node =
    λ cs. record { range = y.range; kind = y.kind; children = cs } in
    let same : paired (roll-Node (with_children (map (λ c. c.0) y.children))) ≡ _ =
    fold-roll-Node (Node × List Node) nodes_step (with_children (map (λ c. c.0) y.children)) in
    subst (λ z. IsKept (roll-Node z)) is (ap (λ p. p.0) same
    ∙ ap (λ cs. roll-Node (with_children cs)) (children_kept y.children)))

-- the nodes of a node: the node itself, and the nodes of each child
pub nodes_in-is : (node : Node) → nodes_in node ≡ node ∷ flat_map nodes_in (children_of node)
unfolding nodes_in children_of
nodes_in-is node =
    let layer = out-Node node in
    let step = fold_out-Node (Node × List Node) nodes_step node in
    let own = sym (ap (λ p. p.0) step) ∙ kept node in
    ap (λ p. p.1) step ∙ ap (λ n. n ∷ flat_map (λ child. child.1) (map paired layer.children)) own
    ∙ ap (λ below. node ∷ below) (flat_map-map (λ child. child.1) paired layer.children)

-- a node is one of its nodes
pub Contains-own_node : (node : Node) → Contains (nodes_in node) node
Contains-own_node node = rw nodes_in-is (0, omega arith, refl)

-- the nodes of a child are nodes of the node
pub Contains-child_node : (node child n : Node) → Contains (children_of node) child
    → Contains (nodes_in child) n → Contains (nodes_in node) n
Contains-child_node node child n at h =
    rw nodes_in-is (Contains-append_right (node ∷ []) _ n
    (Contains-flat_map nodes_in (children_of node) child n at h))

-- a property of a node and of the nodes of its children, for all its nodes
pub All-nodes_in : (P : Node → Type 0) (node : Node) → P node → All P (flat_map nodes_in (children_of node))
    → All P (nodes_in node)
All-nodes_in P node own below = rw nodes_in-is (All-cons P node _ own below)
