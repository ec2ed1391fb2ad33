-- The pieces that nodes have, collected node by node.
use Rattle.std.proofs.Common.{◌≡◌, ℕ, ◌+◌, ◌<◌, ◌≤◌, List, [], ◌∷◌, ◌++◌, append_assoc, ap, ◌∙◌, get_or}
use Rattle.std.proofs.Common.{length, map, sym, take}
use Rattle.std.specs.List.{All, Contains, flat_map}
use Rattle.std.proofs.lemmas.Grind.{flat_map-append}
use Rattle.std.proofs.lemmas.List.{append-nil, take_all, take_more}
use Rattle.std.proofs.lemmas.List.Elements.{Contains-append_left, Contains-append_right, Contains-get_or}
use Rattle.std.proofs.lemmas.List.Sorted.{All-permutation, IsPermutation-sym}
use Rattle.deno_graph_source.specs.Node.{children_of, nodes_in, nodes_of}
use Rattle.deno_graph_source.specs.declared.tree.node.Node.{Node}
use Rattle.deno_graph_source.specs.declared.tree.node.Program.{Program}
use Rattle.deno_graph_source.proofs.Lists.{All-within, Contains-flat_map}
use Rattle.deno_graph_source.proofs.Nodes.{nodes_in-is}
use Rattle.deno_graph_base.specs.declared.text.position.SourceRange.{SourceRange}
use Rattle.modinfo_pieces.specs.declared.piece.Piece.{Piece}
use Rattle.modinfo_imports.specs.Nodes.{AreClaims, claims_of, part_claim}

-- The pieces of nodes and of all nodes below them, where each node has some.
abbrev pub below : {C : Type 0} → (Node → List C) → List Node → List C
below own nodes = flat_map own (flat_map nodes_in nodes)

below-append : {C : Type 0} (own : Node → List C) (xs ys : List Node)
    → below own (xs ++ ys) ≡ below own xs ++ below own ys
below-append own xs ys =
    ap (flat_map own) (flat_map-append nodes_in xs ys)
    ∙ flat_map-append own (flat_map nodes_in xs) (flat_map nodes_in ys)

below-one : {C : Type 0} (own : Node → List C) (node : Node) → below own (node ∷ []) ≡ flat_map own (nodes_in
    node)
below-one own node = ap (flat_map own) (append-nil (nodes_in node))

-- One more node.
pub below-more : {C : Type 0} (own : Node → List C) (nodes : List Node) (i : ℕ) (node : Node)
    (old so_far new : List C) → i < length nodes → node ≡ get_or nodes i node
    → so_far ≡ old ++ below own (take i nodes) → new ≡ so_far ++ flat_map own (nodes_in node)
    → new ≡ old ++ below own (take (i + 1) nodes)
below-more own nodes i node old so_far new within is before more =
    let grows : below own (take (i + 1) nodes) ≡ below own (take i nodes) ++ flat_map own (nodes_in node) =
    ap (below own) (take_more nodes i node within ∙ ap (λ n. take i nodes ++ n ∷ []) (sym is))
    ∙ below-append own (take i nodes) (node ∷ [])
    ∙ ap (λ cs. below own (take i nodes) ++ cs) (below-one own node) in
    more ∙ ap (λ cs. cs ++ flat_map own (nodes_in node)) before
    ∙ append_assoc old (below own (take i nodes)) (flat_map own (nodes_in node))
    ∙ ap (λ cs. old ++ cs) (sym grows)

-- All nodes.
pub below-all : {C : Type 0} (own : Node → List C) (nodes items : List Node) (i : ℕ) (old new : List C)
    → items ≡ nodes → length items ≤ i → new ≡ old ++ below own (take i items) → new ≡ old ++ below own nodes
below-all own nodes items i old new same past are =
    are ∙ ap (λ ns. old ++ below own ns) (take_all i items past ∙ same)

-- What one more node has of itself.
pub each-more : {C : Type 0} (own : Node → List C) (nodes : List Node) (i : ℕ) (node : Node)
    (old so_far new : List C) → i < length nodes → node ≡ get_or nodes i node
    → so_far ≡ old ++ flat_map own (take i nodes) → new ≡ so_far ++ own node
    → new ≡ old ++ flat_map own (take (i + 1) nodes)
each-more own nodes i node old so_far new within is before more =
    let grows : flat_map own (take (i + 1) nodes) ≡ flat_map own (take i nodes) ++ own node =
    ap (flat_map own) (take_more nodes i node within ∙ ap (λ n. take i nodes ++ n ∷ []) (sym is))
    ∙ flat_map-append own (take i nodes) (node ∷ [])
    ∙ ap (λ cs. flat_map own (take i nodes) ++ cs) (append-nil (own node)) in
    more ∙ ap (λ cs. cs ++ own node) before
    ∙ append_assoc old (flat_map own (take i nodes)) (own node)
    ∙ ap (λ cs. old ++ cs) (sym grows)

-- What all nodes have of themselves.
pub each-all : {C : Type 0} (own : Node → List C) (nodes : List Node) (i : ℕ) (old new : List C)
    → length nodes ≤ i → new ≡ old ++ flat_map own (take i nodes) → new ≡ old ++ flat_map own nodes
each-all own nodes i old new past are = are ∙ ap (λ ns. old ++ flat_map own ns) (take_all i nodes past)

-- A node and those below it.
pub below-node : {C : Type 0} (own : Node → List C) (node : Node) (old with_own new : List C)
    → with_own ≡ old ++ own node → new ≡ with_own ++ below own (children_of node)
    → new ≡ old ++ flat_map own (nodes_in node)
below-node own node old with_own new is more =
    more ∙ ap (λ cs. cs ++ below own (children_of node)) is
    ∙ append_assoc old (own node) (below own (children_of node))
    ∙ ap (λ ns. old ++ flat_map own ns) (sym (nodes_in-is node))

-- Pieces that all claims of a program are, those of its nodes and the parts of its templates.
pub claimed-all : (text : List ℕ) (program : Program) (parts : List SourceRange) (claims pieces : List Piece)
    → AreClaims text program parts claims → All (Contains pieces) claims
    → All (λ node. All (Contains pieces) (claims_of text node)) (nodes_of program)
claimed-all text program parts claims pieces are all k d below =
    let own = flat_map (claims_of text) (nodes_of program) in
    All-within (Contains pieces) (map (part_claim text) parts ++ own) _
    (λ claim at. Contains-append_right (map (part_claim text) parts) own claim
    (Contains-flat_map (claims_of text) (nodes_of program) _ claim
    (Contains-get_or (nodes_of program) k d below) at))
    (All-permutation (Contains pieces) claims _ (IsPermutation-sym _ claims are) all)

pub claimed-parts : (text : List ℕ) (program : Program) (parts : List SourceRange)
    (claims pieces : List Piece) → AreClaims text program parts claims → All (Contains pieces) claims
    → All (Contains pieces) (map (part_claim text) parts)
claimed-parts text program parts claims pieces are all =
    let own = flat_map (claims_of text) (nodes_of program) in
    All-within (Contains pieces) (map (part_claim text) parts ++ own) (map (part_claim text) parts)
    (λ claim at. Contains-append_left (map (part_claim text) parts) own claim at)
    (All-permutation (Contains pieces) claims _ (IsPermutation-sym _ claims are) all)
