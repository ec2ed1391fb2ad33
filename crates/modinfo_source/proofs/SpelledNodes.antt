-- Nodes whose literals have the values that the text spells.
use Rattle.std.proofs.Common.{◌≡◌, sym, subst, ap, ◌∙◌, ℕ, List, [], ◌∷◌, ◌++◌, arith}
use Rattle.std.specs.List.{All, flat_map}
use Rattle.std.proofs.lemmas.Grind.{flat_map-append}
use Rattle.std.proofs.lemmas.List.{map-append}
use Rattle.std.proofs.lemmas.List.Elements.{All-append, Contains-append_left, Contains-append_right}
use Rattle.deno_graph_base.specs.declared.text.position.SourceRange.{SourceRange}
use Rattle.deno_graph_source.specs.Node.{children_of, kind_of, nodes_in, range_of}
use Rattle.deno_graph_source.specs.declared.tree.node.Kind.{Kind}
use Rattle.deno_graph_source.specs.declared.tree.node.Node.{Node}
use Rattle.deno_graph_source.proofs.Lists.{All-within}
use Rattle.deno_graph_source.proofs.Nodes.{All-nodes_in}
use Rattle.modinfo_pieces.specs.declared.piece.Piece.{Piece}
use Rattle.modinfo_source.specs.Spelled.{KindIsSpelled, NodeIsSpelled}
use Rattle.modinfo_source.specs.internal.OpenNodes.{nodes_of_open}
use Rattle.modinfo_source.specs.declared.tree.OpenNode.{OpenNode}

-- a node with a kind and with children that the text spells
pub spelled_node : (text : List ℕ) (pieces : List Piece) (node : Node) (range : SourceRange) (kind : Kind)
    (children : List Node) → range_of node ≡ range → kind_of node ≡ kind → children_of node ≡ children
    → KindIsSpelled text pieces range children kind
    → All (NodeIsSpelled text pieces) (flat_map nodes_in children)
    → All (NodeIsSpelled text pieces) (nodes_in node)
spelled_node text pieces node range kind children is_range is_kind is_children spelled below =
    let of_range = subst (λ r. KindIsSpelled text pieces r children kind) (sym is_range) spelled in
    let of_children = subst (λ cs. KindIsSpelled text pieces (range_of node) cs kind) (sym is_children)
    of_range in
    let own = subst (λ k. KindIsSpelled text pieces (range_of node) (children_of node) k) (sym is_kind)
    of_children
    in
    All-nodes_in (NodeIsSpelled text pieces) node own
    (subst (λ cs. All (NodeIsSpelled text pieces) (flat_map nodes_in cs)) (sym is_children) below)

-- a property of all elements, for those of a part
pub All-right : {X : Type 0} (P : X → Type 0) (xs ys zs : List X) → xs ++ ys ≡ zs → All P zs → All P ys
All-right P xs ys zs whole all =
    All-within P (xs ++ ys) ys (λ x. Contains-append_right xs ys x) (subst (All P) (sym whole) all)

pub All-left : {X : Type 0} (P : X → Type 0) (xs ys zs : List X) → xs ++ ys ≡ zs → All P zs → All P xs
All-left P xs ys zs whole all =
    All-within P (xs ++ ys) xs (λ x. Contains-append_left xs ys x) (subst (All P) (sym whole) all)

-- all nodes in open nodes
abbrev pub nodes_below : List OpenNode → List Node
nodes_below nodes = flat_map nodes_in (nodes_of_open nodes)

nodes_below-append : (xs ys : List OpenNode) → nodes_below (xs ++ ys) ≡ nodes_below xs ++ nodes_below ys
nodes_below-append xs ys =
    ap (flat_map nodes_in) (map-append (λ it. it.node) xs ys)
    ∙ flat_map-append nodes_in (nodes_of_open xs) (nodes_of_open ys)

parted : (xs ys zs : List OpenNode) → xs ++ ys ≡ zs → nodes_below xs ++ nodes_below ys ≡ nodes_below zs
parted xs ys zs whole = sym (nodes_below-append xs ys) ∙ ap nodes_below whole

pub spelled_right : (text : List ℕ) (pieces : List Piece) (xs ys zs : List OpenNode) → xs ++ ys ≡ zs
    → All (NodeIsSpelled text pieces) (nodes_below zs) → All (NodeIsSpelled text pieces) (nodes_below ys)
spelled_right text pieces xs ys zs whole all =
    All-right (NodeIsSpelled text pieces) (nodes_below xs) (nodes_below ys) (nodes_below zs) (parted xs ys zs
    whole) all

pub spelled_left : (text : List ℕ) (pieces : List Piece) (xs ys zs : List OpenNode) → xs ++ ys ≡ zs
    → All (NodeIsSpelled text pieces) (nodes_below zs) → All (NodeIsSpelled text pieces) (nodes_below xs)
spelled_left text pieces xs ys zs whole all =
    All-left (NodeIsSpelled text pieces) (nodes_below xs) (nodes_below ys) (nodes_below zs) (parted xs ys zs
    whole)
    all

-- one more node
pub spelled_more : (text : List ℕ) (pieces : List Piece) (xs : List OpenNode) (x : OpenNode)
    → All (NodeIsSpelled text pieces) (nodes_below xs) → All (NodeIsSpelled text pieces) (nodes_in x.node)
    → All (NodeIsSpelled text pieces) (nodes_below (xs ++ x ∷ []))
spelled_more text pieces xs x all own =
    subst (All (NodeIsSpelled text pieces)) (sym (nodes_below-append xs (x ∷ [])))
    (All-append (NodeIsSpelled text pieces) (nodes_below xs) (nodes_below (x ∷ [])) all
    (All-append (NodeIsSpelled text pieces) (nodes_in x.node) [] own (λ k d below. absurd (omega arith))))
