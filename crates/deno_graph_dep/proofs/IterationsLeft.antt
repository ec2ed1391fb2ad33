-- The iterations that the loop of a walk has left: two for each node to enter, one for each entered node.
use Rattle.std.proofs.Common.{◌≡◌, ℕ, suc, ◌+◌, ◌*◌, List, [], ◌∷◌, ◌++◌, length, map, ap, refl, arith}
use Rattle.std.proofs.lemmas.List.{length-append}
use Rattle.std.specs.Borrow.{Bor}
use Rattle.deno_graph_source.specs.declared.tree.node.Node.{Node}
use Rattle.deno_graph_dep.specs.DependencyRules.{children_to_visit, dependency_rules}
use Rattle.deno_graph_dep.specs.internal.Stack.{entry_rules, index_of, paths_to_come}
use Rattle.deno_graph_dep.specs.internal.ListingPaths.{under, paths_at}
use Rattle.deno_graph_source.specs.NodePath.{NodePath}
use Rattle.deno_graph_dep.specs.declared.stack.Frame.{Frame}
use Rattle.deno_graph_dep.specs.declared.stack.Stack.{Stack}
use Rattle.deno_graph_dep.proofs.Stacks.{paths_to_come-enter, ClosesAsVisited}

pub entries_close : ClosesAsVisited (entry_rules dependency_rules)
unfolding children_to_visit
entries_close node = refl

pub dependency_close : ClosesAsVisited dependency_rules
unfolding children_to_visit
dependency_close node = refl

-- the count of the nodes to enter: these nodes and all below them
abbrev pub to_enter : List Node → ℕ
to_enter nodes = length (paths_to_come (entry_rules dependency_rules) nodes [] nodes)

-- the iterations of the entered nodes: one to leave each node, and the iterations of its siblings
abbrev pub iterations_left_in : List Frame → ℕ
iterations_left_in [] = 0
iterations_left_in (frame ∷ frames) = iterations_left_in frames + (2 * to_enter frame.siblings.now + 1)

abbrev pub iterations_left : Stack → ℕ
iterations_left stack = iterations_left_in stack.frames.items + 2 * to_enter stack.nodes.now

pub iterations_left_in-push : (frames : List Frame) (frame : Frame)
    → iterations_left_in (frames ++ frame ∷ [])
    ≡ iterations_left_in frames + (2 * to_enter frame.siblings.now + 1)
iterations_left_in-push [] frame = refl
iterations_left_in-push (f ∷ frames) frame = let h = iterations_left_in-push frames frame in omega arith

length-map : {X Y : Type 0} (f : X → Y) (xs : List X) → length (map f xs) ≡ length xs
length-map f [] = refl
length-map f (x ∷ xs) = ap suc (length-map f xs)

length-under : (f g : ℕ → ℕ) (pss : List (List NodePath)) → length (under f pss) ≡ length (under g pss)
length-under f g [] = refl
length-under f g (ps ∷ pss) =
    let a = length-append (map (λ p. f 0 ∷ p) ps) (under (λ n. f (suc n)) pss) in
    let b = length-append (map (λ p. g 0 ∷ p) ps) (under (λ n. g (suc n)) pss) in
    let c = length-map (λ p. f 0 ∷ p) ps in
    let d = length-map (λ p. g 0 ∷ p) ps in
    let rest = length-under (λ n. f (suc n)) (λ n. g (suc n)) pss in
    omega arith

-- after a node is entered, the nodes inside it and its siblings are left to enter
pub to_enter-first : (node : Bor Node) (siblings : Bor (List Node)) →
    to_enter (node.now ∷ siblings.now) ≡ suc (to_enter (children_to_visit node.now) + to_enter siblings.now)
to_enter-first node siblings =
    let rules = entry_rules dependency_rules in
    let level = node.now ∷ siblings.now in
    let inner = children_to_visit node.now in
    let k = index_of level level in
    let below = under (λ n. n + index_of inner inner) (map (paths_at rules) inner) in
    let beside = map (paths_at rules) siblings.now in
    let enters = ap length (paths_to_come-enter rules entries_close level [] node siblings) in
    let parts = length-append (map (λ p. k ∷ p) (below ++ [])) (under (λ n. n + suc k) beside) in
    let numbered = length-map (λ p. k ∷ p) (below ++ []) in
    let alone = length-append below [] in
    let others = length-under (λ n. n + suc k) (λ n. n + index_of siblings.now siblings.now) beside in
    omega arith
