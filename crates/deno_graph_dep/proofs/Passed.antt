-- The paths that a walk has passed, by the path that it enters next.
use Rattle.std.proofs.Common.{◌≡◌, ℕ, suc, ◌+◌, ◌<◌, List, [], ◌∷◌, ◌++◌, map, ◌⊎◌, inl, inr, ⊎_elim, sym, ap}
use Rattle.std.proofs.Common.{refl, subst, arith}
use Rattle.std.proofs.lemmas.Bool.{cases_order}
use Rattle.std.specs.Borrow.{Bor}
use Rattle.deno_graph_source.specs.declared.tree.node.Node.{Node}
use Rattle.deno_graph_dep.specs.DependencyRules.{children_to_visit}
use Rattle.deno_graph_dep.specs.internal.Stack.{entry_rules, frame_of, index_of, frame_index, next_path}
use Rattle.deno_graph_dep.specs.internal.Stack.{paths_to_come, AreNested, IsPassed}
use Rattle.deno_graph_dep.specs.internal.ListingPaths.{under, paths_at}
use Rattle.deno_graph_dep.specs.Listing.{Rules}
use Rattle.deno_graph_source.specs.NodePath.{NodePath}
use Rattle.deno_graph_dep.specs.declared.stack.Frame.{Frame}
use Rattle.deno_graph_dep.proofs.Ascending.{Member, Member-append, Member-map}
use Rattle.deno_graph_dep.proofs.ListingPaths.{Member-under}
use Rattle.deno_graph_dep.proofs.NodePaths.{Below, Apart, Below-from_IsStrictPrefix}
use Rattle.deno_graph_dep.proofs.NodePaths.{IsStrictPrefix-from_Below, Apart-from_PartsBelow}
use Rattle.deno_graph_dep.proofs.NodePaths.{PartsBelow-from_Apart}
use Rattle.deno_graph_dep.proofs.Stacks.{next_index}

-- passed paths by recursion on both paths
abbrev pub Past : NodePath → NodePath → Type 0
Past next q = Apart q next ⊎ Below q next

pub Past-from_IsPassed : (next q : NodePath) → IsPassed next q → Past next q
Past-from_IsPassed next q p =
    ⊎_elim (λ a. inl (Apart-from_PartsBelow q next a)) (λ b. inr (Below-from_IsStrictPrefix q next b)) p

pub IsPassed-from_Past : (next q : NodePath) → Past next q → IsPassed next q
IsPassed-from_Past next q p =
    ⊎_elim (λ a. inl (PartsBelow-from_Apart q next a)) (λ b. inr (IsStrictPrefix-from_Below q next b)) p

-- one index further on
unnumbered : (m n : ℕ) (next q : NodePath) → m ≡ n → Past next q → Past (n ∷ next) (m ∷ q)
unnumbered m n next q e p = ⊎_elim (λ a. inl (inr (e, a))) (λ b. inr (e, b)) p

-- the first index is smaller, or it is the same and the rest is past
past_cases : (m n : ℕ) (next q : NodePath) → Past (n ∷ next) (m ∷ q) → (m < n) ⊎ ((m ≡ n) × Past next q)
past_cases m n next q p =
    ⊎_elim
    (λ (a : (m < n) ⊎ ((m ≡ n) × Apart q next)). ⊎_elim (λ (l : m < n). inl l)
    (λ (r : (m ≡ n) × Apart q next). inr (r.0, inl r.1)) a)
    (λ (b : (m ≡ n) × Below q next). inr (b.0, inr b.1)) p

no_past_end : (q : NodePath) → Past [] q → ⊥
no_past_end [] p = ⊎_elim (λ a. a) (λ b. b) p
no_past_end (m ∷ q) p = ⊎_elim (λ a. a) (λ b. b) p

-- a path that does not part from the node's path at a greater index
abbrev pub Around : NodePath → NodePath → Type 0
Around p q = Apart q p ⊎ ((q ≡ p) ⊎ (Below q p ⊎ Below p q))

-- such a path that does not go on from the node's path either
abbrev pub UpTo : NodePath → NodePath → Type 0
UpTo p q = Apart q p ⊎ ((q ≡ p) ⊎ Below q p)

up_to_number : (m n : ℕ) (p q : NodePath) → m ≡ n → UpTo p q → UpTo (n ∷ p) (m ∷ q)
up_to_number m n p q e (inl a) = inl (inr (e, a))
up_to_number m n p q e (inr (inl s)) = inr (inl cc)
up_to_number m n p q e (inr (inr b)) = inr (inr (e, b))

around_number : (m n : ℕ) (p q : NodePath) → m ≡ n → Around p q → Around (n ∷ p) (m ∷ q)
around_number m n p q e (inl a) = inl (inr (e, a))
around_number m n p q e (inr (inl s)) = inr (inl cc)
around_number m n p q e (inr (inr (inl b))) = inr (inr (inl (e, b)))
around_number m n p q e (inr (inr (inr b))) = inr (inr (inr (sym e, b)))

-- the paths passed at the first child of a node
pub UpTo-from_Past : (p q : NodePath) → Past (p ++ 0 ∷ []) q → UpTo p q
UpTo-from_Past [] [] past = inr (inl refl)
UpTo-from_Past [] (m ∷ q) past =
    ⊎_elim (λ (l : m < 0). absurd (omega arith)) (λ (r : (m ≡ 0) × Past [] q). absurd (no_past_end q r.1))
    (past_cases m 0 [] q past)
UpTo-from_Past (n ∷ p) [] past = inr (inr tt)
UpTo-from_Past (n ∷ p) (m ∷ q) past =
    ⊎_elim (λ (l : m < n). inl (inl l))
    (λ (r : (m ≡ n) × Past (p ++ 0 ∷ []) q). up_to_number m n p q r.0 (UpTo-from_Past p q r.1))
    (past_cases m n (p ++ 0 ∷ []) q past)

pub Past-from_UpTo : (p q : NodePath) → UpTo p q → Past (p ++ 0 ∷ []) q
Past-from_UpTo [] [] up = inr tt
Past-from_UpTo [] (m ∷ q) (inl a) = absurd a
Past-from_UpTo [] (m ∷ q) (inr (inl s)) = cc
Past-from_UpTo [] (m ∷ q) (inr (inr b)) = absurd b
Past-from_UpTo (n ∷ p) [] up = inr tt
Past-from_UpTo (n ∷ p) (m ∷ q) (inl (inl l)) = inl (inl l)
Past-from_UpTo (n ∷ p) (m ∷ q) (inl (inr a)) =
    unnumbered m n (p ++ 0 ∷ []) q a.0 (Past-from_UpTo p q (inl a.1))
Past-from_UpTo (n ∷ p) (m ∷ q) (inr (inl s)) =
    let e : m ≡ n = cc in let r : q ≡ p = cc in
    unnumbered m n (p ++ 0 ∷ []) q e (Past-from_UpTo p q (inr (inl r)))
Past-from_UpTo (n ∷ p) (m ∷ q) (inr (inr b)) =
    unnumbered m n (p ++ 0 ∷ []) q b.0 (Past-from_UpTo p q (inr (inr b.1)))

-- the paths passed at any child of a node
Around-inside : (j : ℕ) (p q : NodePath) → Past (p ++ j ∷ []) q → Around p q
Around-inside j [] [] past = inr (inl refl)
Around-inside j [] (m ∷ q) past = inr (inr (inr tt))
Around-inside j (n ∷ p) [] past = inr (inr (inl tt))
Around-inside j (n ∷ p) (m ∷ q) past =
    ⊎_elim (λ (l : m < n). inl (inl l))
    (λ (r : (m ≡ n) × Past (p ++ j ∷ []) q). around_number m n p q r.0 (Around-inside j p q r.1))
    (past_cases m n (p ++ j ∷ []) q past)

less_or_same : (m k : ℕ) → m < suc k → (m < k) ⊎ (m ≡ k)
less_or_same m k l = ⊎_elim (λ (e : m ≡ k). inr e)
    (λ b. inl (⊎_elim (λ (a : m < k). a) (λ (c : k < m). absurd (omega arith)) b)) (cases_order m k)

-- the paths passed at the next sibling of a node
pub Around-from_Past : (front : NodePath) (k : ℕ) (q : NodePath) → Past (front ++ suc k ∷ []) q
    → Around (front ++ k ∷ []) q
Around-from_Past [] k [] past = inr (inr (inl tt))
Around-from_Past [] k (m ∷ q) past =
    ⊎_elim (λ (l : m < suc k). reached (less_or_same m k l) q)
    (λ (r : (m ≡ suc k) × Past [] q). absurd (no_past_end q r.1)) (past_cases m (suc k) [] q past)
  where
    reached : (m < k) ⊎ (m ≡ k) → (q : NodePath) → Around (k ∷ []) (m ∷ q)
    reached (inl l) q = inl (inl l)
    reached (inr e) [] = inr (inl (ap (λ n. n ∷ []) e))
    reached (inr e) (x ∷ q) = inr (inr (inr (sym e, tt)))
Around-from_Past (n ∷ front) k [] past = inr (inr (inl tt))
Around-from_Past (n ∷ front) k (m ∷ q) past =
    ⊎_elim (λ (l : m < n). inl (inl l))
    (λ (r : (m ≡ n) × Past (front ++ suc k ∷ []) q). around_number m n (front ++ k ∷ []) q r.0
    (Around-from_Past front k q r.1))
    (past_cases m n (front ++ suc k ∷ []) q past)

pub Past-from_Around : (front : NodePath) (k : ℕ) (q : NodePath) → Around (front ++ k ∷ []) q
    → Past (front ++ suc k ∷ []) q
Past-from_Around [] k [] around = inr tt
Past-from_Around [] k (m ∷ q) (inl (inl l)) = inl (inl (omega arith))
Past-from_Around [] k (m ∷ q) (inl (inr a)) = inl (inl (omega arith))
Past-from_Around [] k (m ∷ q) (inr (inl s)) = let e : m ≡ k = cc in inl (inl (omega arith))
Past-from_Around [] k (m ∷ q) (inr (inr (inl b))) = inl (inl (omega arith))
Past-from_Around [] k (m ∷ q) (inr (inr (inr b))) = inl (inl (omega arith))
Past-from_Around (n ∷ front) k [] around = inr tt
Past-from_Around (n ∷ front) k (m ∷ q) (inl (inl l)) = inl (inl l)
Past-from_Around (n ∷ front) k (m ∷ q) (inl (inr a)) =
    unnumbered m n (front ++ suc k ∷ []) q a.0 (Past-from_Around front k q (inl a.1))
Past-from_Around (n ∷ front) k (m ∷ q) (inr (inl s)) =
    let e : m ≡ n = cc in let r : q ≡ front ++ k ∷ [] = cc in
    unnumbered m n (front ++ suc k ∷ []) q e (Past-from_Around front k q (inr (inl r)))
Past-from_Around (n ∷ front) k (m ∷ q) (inr (inr (inl b))) =
    unnumbered m n (front ++ suc k ∷ []) q b.0 (Past-from_Around front k q (inr (inr (inl b.1))))
Past-from_Around (n ∷ front) k (m ∷ q) (inr (inr (inr b))) =
    unnumbered m n (front ++ suc k ∷ []) q (sym b.0) (Past-from_Around front k q (inr (inr (inr b.1))))

-- a passed path stays passed when a node is entered or left
pub Past-enter : (p q : NodePath) → Past p q → Past (p ++ 0 ∷ []) q
Past-enter p q past = Past-from_UpTo p q (⊎_elim (λ a. inl a) (λ b. inr (inr b)) past)

pub Past-leave : (front : NodePath) (k j : ℕ) (q : NodePath) → Past ((front ++ k ∷ []) ++ j ∷ []) q
    → Past (front ++ suc k ∷ []) q
Past-leave front k j q past = Past-from_Around front k q (Around-inside j (front ++ k ∷ []) q past)

-- the next path, inside an entered node and after a node that is left
pub next_path-inside : (level : List Node) (frames : List Frame) (node : Bor Node)
    (siblings : Bor (List Node)) (nodes : List Node) →
    next_path level (frames ++ frame_of node siblings ∷ []) nodes
    ≡ next_path level frames (node.now ∷ siblings.now) ++ index_of (children_to_visit node.now) nodes ∷ []
next_path-inside level [] node siblings nodes = refl
next_path-inside level (frame ∷ frames) node siblings nodes =
    ap (λ p. frame_index level frame ∷ p)
    (next_path-inside (children_to_visit frame.node.now) frames node siblings nodes)

-- the path of a node and that of its next sibling
pub record AreNext (p next : NodePath) : Type 0 where
  pub front : NodePath
  pub index : ℕ
  pub first : p ≡ front ++ index ∷ []
  pub second : next ≡ front ++ suc index ∷ []

pub next_path-sibling : (level : List Node) (frames : List Frame) (node : Node) (siblings : List Node)
    → AreNested level frames (node ∷ siblings)
    → AreNext (next_path level frames (node ∷ siblings)) (next_path level frames siblings)
next_path-sibling level [] node siblings nested = record {
  front = [];
  index = index_of level (node ∷ siblings);
  first = refl;
  second = ap (λ k. k ∷ []) (sym (next_index level node siblings nested));
}
next_path-sibling level (frame ∷ frames) node siblings nested =
    let below = next_path-sibling (children_to_visit frame.node.now) frames node siblings nested.1 in
    let i = frame_index level frame in
    record {
      front = i ∷ below.front;
      index = below.index;
      first = ap (λ p. i ∷ p) below.first;
      second = ap (λ p. i ∷ p) below.second;
    }

-- a path still to come is not passed
pub to_come-not_past : (rules : Rules) (level : List Node) (frames : List Frame) (nodes : List Node)
    (q : NodePath) →
    Member (paths_to_come (entry_rules rules) level frames nodes) q → Past (next_path level frames nodes) q
    → ⊥
to_come-not_past rules level [] nodes q member =
    let k = index_of level nodes in
    let u = Member-under (λ n. n + k) (map (paths_at (entry_rules rules)) nodes) q member in
    let P : NodePath → Type 0 = λ p. Past (k ∷ []) p → ⊥ in
    subst P u.is (λ past.
    ⊎_elim (λ (l : u.at + k < k). omega arith)
    (λ (r : (u.at + k ≡ k) × Past [] u.rest). no_past_end u.rest r.1)
    (past_cases (u.at + k) k [] u.rest past))
to_come-not_past rules level (frame ∷ frames) nodes q member =
    let i = frame_index level frame in
    let inner = children_to_visit frame.node.now in
    let next = next_path inner frames nodes in
    let below = paths_to_come (entry_rules rules) inner frames nodes in
    let beside = map (paths_at (entry_rules rules)) frame.siblings.now in
    let P : NodePath → Type 0 = λ p. Past (i ∷ next) p → ⊥ in
    ⊎_elim
    (λ (m : Member (map (λ p. i ∷ p) (below ++ [])) q).
    let r = Member-map (λ p. i ∷ p) (below ++ []) q m in
    let there = ⊎_elim (λ (h : Member below r.0). h) (λ h. absurd h) (Member-append below [] r.0 r.1) in
    subst P r.2 (λ past.
    ⊎_elim (λ (l : i < i). omega arith)
    (λ (s : (i ≡ i) × Past next r.0). to_come-not_past rules inner frames nodes r.0 there s.1)
    (past_cases i i next r.0 past)))
    (λ (m : Member (under (λ n. n + suc i) beside) q).
    let u = Member-under (λ n. n + suc i) beside q m in
    subst P u.is (λ past.
    ⊎_elim (λ (l : u.at + suc i < i). omega arith)
    (λ (s : (u.at + suc i ≡ i) × Past next u.rest). omega (arith, s.0))
    (past_cases (u.at + suc i) i next u.rest past)))
    (Member-append (map (λ p. i ∷ p) (below ++ [])) (under (λ n. n + suc i) beside) q member)
