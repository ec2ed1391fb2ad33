-- The listing of a body by plain recursion on the tree.
use Rattle.std.specs.Prelude.{ℕ, suc, List, [], ◌∷◌, ◌++◌, Bool, cond, map}
use Rattle.deno_graph_source.specs.declared.tree.node.Node.{Node}
use Rattle.deno_graph_dep.specs.Listing.{Rules}
use Rattle.deno_graph_source.specs.NodePath.{NodePath}
use Rattle.deno_graph_dep.specs.Recursion.{by_children}

-- the paths below consecutive children, where f n is the index of the n-th child
abbrev pub under : (ℕ → ℕ) → List (List NodePath) → List NodePath
under f [] = []
under f (ps ∷ pss) = map (λ p. f 0 ∷ p) ps ++ under (λ n. f (suc n)) pss

-- the empty path if the test holds, as a list of one or none
abbrev pub here : Bool → List NodePath
here b = cond b ([] ∷ []) []

-- the entries before, inside and after a node
abbrev pub placed : {A : Type 0} → Rules → Node → List A → List A → List A
placed rules node own inside =
    cond (rules.is_after_inside node) [] own
    ++ cond (rules.is_closed node) [] inside
    ++ cond (rules.is_after_inside node) own []

abbrev pub path_step : Rules → Node → List (List NodePath) → List NodePath
path_step rules node below = placed rules node (here (rules.is_member node)) (under (λ n. n) below)

unfoldable pub paths_at : Rules → Node → List NodePath
paths_at rules = by_children (path_step rules)

-- the listing of a body
unfoldable pub listing_paths : Rules → List Node → List NodePath
listing_paths rules body = under (λ n. n) (map (paths_at rules) body)
