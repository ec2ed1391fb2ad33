-- The entries of a body by plain recursion are those at the paths of its listing.
use Rattle.std.proofs.Common.{◌≡◌, ℕ, suc, List, [], ◌∷◌, ◌++◌, Bool, true, false, cond, Option, Some, None}
use Rattle.std.proofs.Common.{map, sym, ap, ◌∙◌, refl}
use Rattle.std.specs.Prelude.{slice_get, is_some, option_and_then}
use Rattle.std.specs.List.{flat_map}
use Rattle.std.specs.Option.{option_to_list}
use Rattle.std.proofs.lemmas.Bool.{false≢true}
use Rattle.std.proofs.lemmas.List.{map-append}
use Rattle.deno_graph_source.specs.Node.{children_of}
use Rattle.deno_graph_source.specs.declared.tree.node.Node.{Node}
use Rattle.deno_graph_dep.specs.DependencyRules.{dependency_rules, is_dependency}
use Rattle.deno_graph_dep.specs.DependencyNodes.{AreDependencyNodes, dependency_at, dependency_nodes_below}
use Rattle.deno_graph_dep.specs.DependencyNodes.{dependency_node}
use Rattle.deno_graph_dep.specs.Listing.{Rules}
use Rattle.deno_graph_source.specs.NodePath.{NodePath, node_below, node_at}
use Rattle.deno_graph_dep.specs.Recursion.{entries_at}
use Rattle.deno_graph_dep.proofs.Entries.{entries_at-pieces}
use Rattle.deno_graph_dep.proofs.ListingPaths.{paths_at-is}
use Rattle.deno_graph_dep.specs.internal.ListingPaths.{listing_paths, paths_at, under, here}
use Rattle.deno_graph_dep.proofs.Listings.{IsListing-listing_paths, IsListing-unique}
use Rattle.deno_graph_dep.proofs.Nodes.{node_induction}

map_map-as : {A B C : Type 0} (f : A → B) (g : B → C) (h : A → C) → ((x : A) → g (f x) ≡ h x) → (xs : List A)
    → map g (map f xs) ≡ map h xs
map_map-as f g h e [] = refl
map_map-as f g h e (x ∷ xs) = let a = e x in let b = map_map-as f g h e xs in cc

-- the parts of a node's entries, mapped
parts_same : {A B C : Type 0} (f : A → C) (g : B → C) (after : Bool) (own inside : List A)
    (here' inside' : List B) → map f own ≡ map g here' → map f inside ≡ map g inside'
    → map f (cond after [] own ++ inside ++ cond after own [])
    ≡ map g (cond after [] here' ++ inside' ++ cond after here' [])
parts_same f g true own inside here' inside' e d =
    map-append f inside own ∙ (let a = map-append g inside' here' in cc)
parts_same f g false own inside here' inside' e d =
    map-append f (own ++ inside) [] ∙ (ap (λ xs. xs ++ []) (map-append f own inside) ∙
    (let a = map-append g (here' ++ inside') [] in let b = map-append g here' inside' in cc))

-- a node's own entry and the empty path
one_same : {A : Type 0} (o : Option A) (b : Bool) (at : NodePath → Option A) → b ≡ is_some o → at [] ≡ o
    → map Some (option_to_list o) ≡ map at (here b)
one_same None true at l e = absurd (false≢true (sym l))
one_same None false at l e = refl
one_same (Some x) true at l e = ap (λ o. o ∷ []) (sym e)
one_same (Some x) false at l e = absurd (false≢true l)

module _ {A : Type 0} (rules : Rules) (f : Node → Option A)
    (member : (node : Node) → rules.is_member node ≡ is_some (f node)) where
  own : Node → List A
  own node = option_to_list (f node)

  below : Node → NodePath → Option A
  below node p = option_and_then f (node_below (Some node) p)

  below_child : (node : Node) (n : ℕ) (child : Node) → slice_get (children_of node) n ≡ Some child
      → (p : NodePath) → below node (n ∷ p) ≡ below child p
  unfolding below
  below_child node n child e p = ap (λ o. option_and_then f (node_below o p)) e

  inside_same : (nodes : List Node) (index : ℕ → ℕ) (at : NodePath → Option A) →
      ((n : ℕ) (child : Node) → slice_get nodes n ≡ Some child → (p : NodePath)
      → at (index n ∷ p) ≡ below child p) →
      ((n : ℕ) (child : Node) → slice_get nodes n ≡ Some child
      → map Some (entries_at rules own child) ≡ map (below child) (paths_at rules child)) →
      map Some (flat_map (entries_at rules own) nodes) ≡ map at (under index (map (paths_at rules) nodes))
  inside_same [] index at agrees each = refl
  inside_same (x ∷ nodes) index at agrees each =
      map-append Some (entries_at rules own x) (flat_map (entries_at rules own) nodes) ∙
      (let a = each 0 x refl in
      let b = map_map-as (λ q. index 0 ∷ q) at (below x) (agrees 0 x refl) (paths_at rules x) in
      let c = inside_same nodes (λ n. index (suc n)) at (λ n child e. agrees (suc n) child e)
      (λ n child e. each (suc n) child e) in
      let d = map-append at (map (λ q. index 0 ∷ q) (paths_at rules x))
      (under (λ n. index (suc n)) (map (paths_at rules) nodes)) in
      cc)

  own_same : (node : Node) → map Some (own node) ≡ map (below node) (here (rules.is_member node))
  unfolding own below
  own_same node = one_same (f node) (rules.is_member node) (below node) (member node) refl

  -- the children that are visited, and the paths below them
  inside_unless : (b : Bool) (nodes : List Node) (at : NodePath → Option A)
      → map Some (flat_map (entries_at rules own) nodes)
      ≡ map at (under (λ n. n) (map (paths_at rules) nodes))
      → map Some (flat_map (entries_at rules own) (cond b [] nodes))
      ≡ map at (cond b [] (under (λ n. n) (map (paths_at rules) nodes)))
  inside_unless true nodes at e = refl
  inside_unless false nodes at e = e

  node_same : (node : Node) → map Some (entries_at rules own node) ≡ map (below node) (paths_at rules node)
  node_same = node_induction
      (λ node. map Some (entries_at rules own node) ≡ map (below node) (paths_at rules node)) (λ node each.
      ap (map Some) (entries_at-pieces rules own node) ∙
      (parts_same Some (below node) (rules.is_after_inside node) (own node)
      (flat_map (entries_at rules own) (cond (rules.is_closed node) [] (children_of node)))
      (here (rules.is_member node))
      (cond (rules.is_closed node) [] (under (λ n. n) (map (paths_at rules) (children_of node))))
      (own_same node)
      (inside_unless (rules.is_closed node) (children_of node) (below node)
      (inside_same (children_of node) (λ n. n) (below node) (below_child node) each)) ∙
      ap (map (below node)) (sym (paths_at-is rules node))))

  body_same : (body : List Node)
      → map Some (flat_map (entries_at rules own) body)
      ≡ map (λ p. option_and_then f (node_at body p)) (listing_paths rules body)
  unfolding listing_paths below
  body_same body = inside_same body (λ n. n) (λ p. option_and_then f (node_at body p))
      (λ n child e p. ap (λ o. option_and_then f (node_below o p)) e) (λ n child e. node_same child)

-- a node is a dependency exactly where the list of its own entries is not empty
dependency_is : (node : Node) → is_dependency node ≡ is_some (dependency_node node)
unfolding dependency_node
dependency_is node = by_test (is_dependency node)
  where
    by_test : (b : Bool) → b ≡ is_some (cond b (Some node) None)
    by_test true = refl
    by_test false = refl

-- the dependencies by plain recursion are those at the paths of the listing
pub AreDependencyNodes-dependencies_below : (body : List Node)
    → AreDependencyNodes body (dependency_nodes_below body)
unfolding own
AreDependencyNodes-dependencies_below body = record {
  paths = listing_paths dependency_rules body;
  is_listing = IsListing-listing_paths dependency_rules body;
  at_paths = body_same dependency_rules dependency_node dependency_is body;
}

some_same : {A : Type 0} (xs ys : List A) → map Some xs ≡ map Some ys → xs ≡ ys
some_same [] [] e = refl
some_same [] (y ∷ ys) e = cc
some_same (x ∷ xs) [] e = cc
some_same {A} (x ∷ xs) (y ∷ ys) e =
    let first : x ≡ y = cc in
    let rest : map Some xs ≡ map Some ys = cc in
    let tails = some_same xs ys rest in
    cc

-- a body has one list of dependency nodes
pub AreDependencyNodes-unique : (body nodes others : List Node) → AreDependencyNodes body nodes
    → AreDependencyNodes body others
    → nodes ≡ others
AreDependencyNodes-unique body nodes others a b =
    let same = IsListing-unique dependency_rules body a.paths b.paths a.is_listing b.is_listing in
    some_same nodes others (a.at_paths ∙ ap (λ ps. map (dependency_at body) ps) same ∙ sym b.at_paths)
