-- The entries of a node by plain recursion, in three pieces: before, inside and after.
use Rattle.std.proofs.Common.{◌≡◌, List, [], ◌∷◌, ◌++◌, Bool, true, false, cond, map, ap, ◌∙◌, refl}
use Rattle.std.specs.List.{flat_map}
use Rattle.deno_graph_source.specs.Node.{children_of}
use Rattle.deno_graph_source.specs.declared.tree.node.Node.{Node}
use Rattle.deno_graph_dep.specs.Listing.{Rules}
use Rattle.deno_graph_dep.specs.Recursion.{entries_at, with_own_entries}
use Rattle.deno_graph_dep.proofs.Nodes.{by_children-is}

pub entries_at-is : {A : Type 0} (rules : Rules) (own : Node → List A) (node : Node)
    → entries_at rules own node
    ≡ with_own_entries rules own node (map (entries_at rules own) (children_of node))
unfolding entries_at
entries_at-is rules own node = by_children-is (with_own_entries rules own) node

flat_map-map : {X A : Type 0} (f : X → List A) (xs : List X)
    → flat_map (λ entries. entries) (map f xs) ≡ flat_map f xs
flat_map-map f [] = refl
flat_map-map f (x ∷ xs) = ap (λ ys. f x ++ ys) (flat_map-map f xs)

flat_map-unless : {X A : Type 0} (f : X → List A) (b : Bool) (xs : List X)
    → cond b [] (flat_map (λ entries. entries) (map f xs)) ≡ flat_map f (cond b [] xs)
flat_map-unless f true xs = refl
flat_map-unless f false xs = flat_map-map f xs

-- the pieces, by the children that are visited
pub entries_at-pieces : {A : Type 0} (rules : Rules) (own : Node → List A) (node : Node)
    → entries_at rules own node ≡ cond (rules.is_after_inside node) [] (own node)
    ++ flat_map (entries_at rules own) (cond (rules.is_closed node) [] (children_of node))
    ++ cond (rules.is_after_inside node) (own node) []
entries_at-pieces rules own node =
    let after = rules.is_after_inside node in
    entries_at-is rules own node ∙
    ap (λ inside. cond after [] (own node) ++ inside ++ cond after (own node) [])
    (flat_map-unless (entries_at rules own) (rules.is_closed node) (children_of node))
