-- The paths still to come on the stack of a walk, when a node is entered and when one is left.
use Rattle.std.proofs.Common.{◌≡◌, ℕ, suc, ◌+◌, List, [], ◌∷◌, ◌++◌, length, map, Bool, true, false, not}
use Rattle.std.proofs.Common.{◌&&◌, cond, Some, None, slice_get, sym, ap, ◌∙◌, refl, arith, append_assoc}
use Rattle.std.proofs.lemmas.List.{map-append, length-append}
use Rattle.std.specs.Borrow.{Bor}
use Rattle.deno_graph_source.specs.Node.{kind_of, children_of}
use Rattle.deno_graph_source.specs.declared.tree.node.Node.{Node}
use Rattle.deno_graph_dep.specs.DependencyRules.{children_to_visit, is_closed}
use Rattle.deno_graph_dep.specs.internal.ListingPaths.{under, here, paths_at}
use Rattle.deno_graph_dep.specs.Listing.{Rules}
use Rattle.deno_graph_source.specs.NodePath.{NodePath, node_below, node_at}
use Rattle.deno_graph_dep.specs.internal.Stack.{frame_of, comes_before, comes_after, once, index_of}
use Rattle.deno_graph_dep.specs.internal.Stack.{frame_index, next_path, paths_to_come, AreLastOf, AreNested}
use Rattle.deno_graph_dep.specs.declared.stack.Frame.{Frame}
use Rattle.deno_graph_dep.proofs.ListingPaths.{paths_at-is}

pub under-same : (f g : ℕ → ℕ) → ((n : ℕ) → f n ≡ g n) → (pss : List (List NodePath))
    → under f pss ≡ under g pss
under-same f g e [] = refl
under-same f g e (ps ∷ pss) =
    ap (λ k. map (λ p. k ∷ p) ps ++ under (λ n. f (suc n)) pss) (e 0) ∙
    ap (λ rest. map (λ p. g 0 ∷ p) ps ++ rest)
    (under-same (λ n. f (suc n)) (λ n. g (suc n)) (λ n. e (suc n)) pss)

map-once : (n : ℕ) (b : Bool) (p : NodePath) → map (λ q. n ∷ q) (once b p) ≡ once b (n ∷ p)
map-once n true p = refl
map-once n false p = refl

-- the paths of a node in three pieces, by whether it comes before its inside or after it
pieces_by : (f : Node → List NodePath) (after closed member : Bool) (nodes : List Node) →
    cond after [] (here member) ++ cond closed [] (under (λ n. n) (map f nodes))
    ++ cond after (here member) []
    ≡ once (not after && member) [] ++ under (λ n. n) (map f (cond closed [] nodes))
    ++ once (after && member) []
pieces_by f true true member nodes = refl
pieces_by f true false member nodes = refl
pieces_by f false true member nodes = refl
pieces_by f false false member nodes = refl

-- a node that the rules close has no children to visit
abbrev pub ClosesAsVisited : Rules → Type 0
ClosesAsVisited rules = (node : Node)
    → cond (rules.is_closed node) [] (children_of node) ≡ children_to_visit node

paths_at-pieces : (rules : Rules) → ClosesAsVisited rules → (node : Node) →
    paths_at rules node
    ≡ once (comes_before rules node) [] ++ under (λ n. n) (map (paths_at rules) (children_to_visit node))
    ++ once (comes_after rules node) []
paths_at-pieces rules closes node =
    let own = once (comes_before rules node) [] in
    let after = once (comes_after rules node) [] in
    paths_at-is rules node ∙
    pieces_by (paths_at rules) (rules.is_after_inside node) (rules.is_closed node) (rules.is_member node)
    (children_of node) ∙
    ap (λ nodes. own ++ under (λ n. n) (map (paths_at rules) nodes) ++ after) (closes node)

-- the first of the paths below a node
first_out : (n : ℕ) (xs ys own rest : List NodePath) →
    map (λ p. n ∷ p) (xs ++ ys ++ own) ++ rest ≡ map (λ p. n ∷ p) xs ++ (map (λ p. n ∷ p) (ys ++ own) ++ rest)
first_out n xs ys own rest =
    ap (λ zs. map (λ p. n ∷ p) zs ++ rest) (append_assoc xs ys own) ∙
    ap (λ zs. zs ++ rest) (map-append (λ p. n ∷ p) xs (ys ++ own)) ∙
    append_assoc (map (λ p. n ∷ p) xs) (map (λ p. n ∷ p) (ys ++ own)) rest

once_out : (n : ℕ) (b : Bool) (p : NodePath) (ys own rest : List NodePath) →
    map (λ q. n ∷ q) (once b p ++ ys ++ own) ++ rest ≡ once b (n ∷ p)
    ++ (map (λ q. n ∷ q) (ys ++ own) ++ rest)
once_out n b p ys own rest =
    first_out n (once b p) ys own rest ∙
    ap (λ zs. zs ++ (map (λ q. n ∷ q) (ys ++ own) ++ rest)) (map-once n b p)

-- when a node is entered, it comes first if it comes before its inside, and then its inside
pub paths_to_come-enter : (rules : Rules) → ClosesAsVisited rules
    → (level : List Node) (frames : List Frame) (node : Bor Node) (siblings : Bor (List Node)) →
    paths_to_come rules level frames (node.now ∷ siblings.now)
    ≡ once (comes_before rules node.now) (next_path level frames (node.now ∷ siblings.now))
    ++ paths_to_come rules level (frames ++ frame_of node siblings ∷ []) (children_to_visit node.now)
paths_to_come-enter rules closes level [] node siblings =
    let k = index_of level (node.now ∷ siblings.now) in
    let inner = children_to_visit node.now in
    let own = once (comes_after rules node.now) [] in
    let before = once (comes_before rules node.now) [] in
    let below = map (paths_at rules) inner in
    let beside = map (paths_at rules) siblings.now in
    ap (λ j. map (λ p. j ∷ p) (paths_at rules node.now) ++ under (λ n. suc n + k) beside) (first_number k) ∙
    ap (λ ps. map (λ p. k ∷ p) ps ++ under (λ n. suc n + k) beside) (paths_at-pieces rules closes node.now) ∙
    once_out k (comes_before rules node.now) [] (under (λ n. n) below) own (under (λ n. suc n + k) beside)
    ∙
    ap (λ ps. once (comes_before rules node.now) (k ∷ [])
    ++ (map (λ p. k ∷ p) (ps ++ own) ++ under (λ n. suc n + k) beside))
    (under-same (λ n. n) (λ n. n + index_of inner inner) (λ n. none_before inner n) below) ∙
    ap (λ ps. once (comes_before rules node.now) (k ∷ [])
    ++ (map (λ p. k ∷ p) (under (λ n. n + index_of inner inner) below ++ own) ++ ps))
    (under-same (λ n. suc n + k) (λ n. n + suc k) (λ n. omega arith) beside)
  where
    first_number : (k : ℕ) → 0 + k ≡ k
    first_number k = omega arith

    none_before : (inner : List Node) (n : ℕ) → n ≡ n + index_of inner inner
    none_before inner n = omega arith
paths_to_come-enter rules closes level (frame ∷ frames) node siblings =
    let inner = children_to_visit frame.node.now in
    let own = once (comes_after rules frame.node.now) [] in
    let i = frame_index level frame in
    let beside = under (λ n. n + suc i) (map (paths_at rules) frame.siblings.now) in
    ap (λ ps. map (λ p. i ∷ p) (ps ++ own) ++ beside)
    (paths_to_come-enter rules closes inner frames node siblings) ∙
    once_out i (comes_before rules node.now) (next_path inner frames (node.now ∷ siblings.now))
    (paths_to_come rules inner (frames ++ frame_of node siblings ∷ [])
    (children_to_visit node.now)) own beside

-- the siblings of a node begin at the next index
pub next_index : (level : List Node) (node : Node) (siblings : List Node) → AreLastOf level (node ∷ siblings)
    → suc (index_of level (node ∷ siblings)) ≡ index_of level siblings
next_index level node siblings last =
    let all = ap length last.1 in
    let parts = length-append last.0 (node ∷ siblings) in
    omega arith

-- when a node is left, it comes first if it comes after its inside, and then its siblings
pub paths_to_come-leave : (rules : Rules) (level : List Node) (frames : List Frame) (node : Bor Node)
    (siblings : Bor (List Node)) →
    AreNested level (frames ++ frame_of node siblings ∷ []) [] →
    paths_to_come rules level (frames ++ frame_of node siblings ∷ []) []
    ≡ once (comes_after rules node.now) (next_path level frames (node.now ∷ siblings.now))
    ++ paths_to_come rules level frames siblings.now
paths_to_come-leave rules level [] node siblings nested =
    let k = index_of level (node.now ∷ siblings.now) in
    let beside = map (paths_at rules) siblings.now in
    ap (λ ps. ps ++ under (λ n. n + suc k) beside) (map-once k (comes_after rules node.now) []) ∙
    ap (λ j. once (comes_after rules node.now) (k ∷ []) ++ under (λ n. n + j) beside)
    (next_index level node.now siblings.now nested.0)
paths_to_come-leave rules level (frame ∷ frames) node siblings nested =
    let inner = children_to_visit frame.node.now in
    let own = once (comes_after rules frame.node.now) [] in
    let i = frame_index level frame in
    let beside = under (λ n. n + suc i) (map (paths_at rules) frame.siblings.now) in
    ap (λ ps. map (λ p. i ∷ p) (ps ++ own) ++ beside)
    (paths_to_come-leave rules inner frames node siblings nested.1) ∙
    once_out i (comes_after rules node.now) (next_path inner frames (node.now ∷ siblings.now))
    (paths_to_come rules inner frames siblings.now) own beside

-- the nodes on the stack stay in their levels
pub AreNested-enter : (level : List Node) (frames : List Frame) (node : Bor Node)
    (siblings : Bor (List Node)) →
    AreNested level frames (node.now ∷ siblings.now)
    → AreNested level (frames ++ frame_of node siblings ∷ []) (children_to_visit node.now)
AreNested-enter level [] node siblings nested = (nested, ([], refl))
AreNested-enter level (frame ∷ frames) node siblings nested =
    (nested.0, AreNested-enter (children_to_visit frame.node.now) frames node siblings nested.1)

pub AreNested-leave : (level : List Node) (frames : List Frame) (node : Bor Node) (siblings : Bor (List Node))
    (nodes : List Node) →
    AreNested level (frames ++ frame_of node siblings ∷ []) nodes → AreNested level frames siblings.now
AreNested-leave level [] node siblings nodes nested =
    (nested.0.0 ++ node.now ∷ [], nested.0.1 ∙ sym (append_assoc nested.0.0 (node.now ∷ []) siblings.now))
AreNested-leave level (frame ∷ frames) node siblings nodes nested =
    (nested.0, AreNested-leave (children_to_visit frame.node.now) frames node siblings nodes nested.1)

pub AreNested-left : (level : List Node) (frames : List Frame) (node : Bor Node) (siblings : Bor (List Node))
    (nodes : List Node) →
    AreNested level (frames ++ frame_of node siblings ∷ []) nodes
    → AreNested level frames (node.now ∷ siblings.now)
AreNested-left level [] node siblings nodes nested = nested.0
AreNested-left level (frame ∷ frames) node siblings nodes nested =
    (nested.0, AreNested-left (children_to_visit frame.node.now) frames node siblings nodes nested.1)

-- the first of the last nodes of a level
first_of_last : (level : List Node) (node : Node) (siblings : List Node) → AreLastOf level (node ∷ siblings)
    → slice_get level (index_of level (node ∷ siblings)) ≡ Some node
first_of_last level node siblings last =
    let all = ap length last.1 in
    let parts = length-append last.0 (node ∷ siblings) in
    let begins : index_of level (node ∷ siblings) ≡ length last.0 = omega arith in
    ap (λ k. slice_get level k) begins ∙ ap (λ ns. slice_get ns (length last.0)) last.1 ∙ at last.0
  where
    at : (before : List Node) → slice_get (before ++ node ∷ siblings) (length before) ≡ Some node
    at [] = refl
    at (x ∷ before) = at before

below_inside : (outer : Node) (path : NodePath) (node : Node)
    → node_at (children_to_visit outer) path ≡ Some node
    → node_below (Some outer) path ≡ Some node
unfolding children_to_visit
below_inside outer [] node is = cc
below_inside outer (k ∷ path) node is = by_test (is_closed (kind_of outer)) is
  where
    nowhere : (path : NodePath) → node_below None path ≡ Some node
        → node_below (slice_get (children_of outer) k) path ≡ Some node
    nowhere [] e = cc
    nowhere (j ∷ rest) e = cc

    by_test : (closed : Bool) → node_below (slice_get (cond closed [] (children_of outer)) k) path ≡ Some node
        → node_below (slice_get (children_of outer) k) path ≡ Some node
    by_test true e = nowhere path e
    by_test false e = e

-- the path of the node to enter next leads to it
pub node_at-next_path : (level : List Node) (frames : List Frame) (node : Node) (siblings : List Node) →
    AreNested level frames (node ∷ siblings)
    → node_at level (next_path level frames (node ∷ siblings)) ≡ Some node
node_at-next_path level [] node siblings nested =
    ap (λ o. node_below o []) (first_of_last level node siblings nested)
node_at-next_path level (frame ∷ frames) node siblings nested =
    let inner = children_to_visit frame.node.now in
    ap (λ o. node_below o (next_path inner frames (node ∷ siblings)))
    (first_of_last level frame.node.now frame.siblings.now nested.0) ∙
    below_inside frame.node.now (next_path inner frames (node ∷ siblings)) node
    (node_at-next_path inner frames node siblings nested.1)
