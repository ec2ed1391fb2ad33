-- The count of a stack: the passed paths, which are those of the nodes entered when a step returns.
use Rattle.std.proofs.Common.{◌≡◌, ◌≢◌, ℕ, suc, ◌+◌, ◌-◌, ◌^◌, min, List, [], ◌∷◌, ◌++◌, length, Bool, true}
use Rattle.std.proofs.Common.{false, not, ◌&&◌, Option, Some, None, inl, inr, ⊎_elim, sym, ap, ◌∙◌, refl}
use Rattle.std.proofs.Common.{subst, arith, append_assoc, Contains}
use Rattle.std.specs.Prelude.{◌↔◌, IsSome, IsSomeAnd, IsTrue, AllPairs}
use Rattle.std.proofs.lemmas.Bool.{false≢true}
use Rattle.std.proofs.lemmas.List.{append-nil, length-append}
use Rattle.std.specs.Borrow.{Bor}
use Rattle.deno_graph_source.specs.declared.tree.node.Node.{Node}
use Rattle.deno_graph_dep.specs.DependencyRules.{children_to_visit, dependency_rules}
use Rattle.deno_graph_dep.specs.Entered as by
use Rattle.deno_graph_dep.specs.Entered.{IsEnteredBy, EnteredBy, IsCountOf}
use Rattle.deno_graph_dep.specs.internal.Stack.{entry_rules, frame_of, comes_before, comes_after, index_of}
use Rattle.deno_graph_dep.specs.internal.Stack.{next_path, paths_to_come, next_of, AreNested, to_come}
use Rattle.deno_graph_dep.specs.internal.Stack.{IsPassed, IsStackOf}
use Rattle.deno_graph_dep.specs.internal.ListingPaths.{listing_paths}
use Rattle.deno_graph_dep.specs.Listing.{Rules, IsReachable, IsMember, IsAfterInside, Precedes}
use Rattle.deno_graph_source.specs.NodePath.{NodePath, node_at}
use Rattle.deno_graph_dep.specs.declared.stack.Stack.{Stack}
use Rattle.deno_graph_dep.proofs.Ascending.{Member, Ascending, Member-append, Member-left}
use Rattle.deno_graph_dep.proofs.Ascending.{Contains-from_Member, Member-from_Contains}
use Rattle.deno_graph_dep.proofs.Ascending.{AllPairs-from_Ascending, Ascending-from_AllPairs}
use Rattle.deno_graph_dep.proofs.Ascending.{Ascending-weaker}
use Rattle.deno_graph_dep.proofs.Listings.{IsListing-listing_paths, Precedes-asymmetric}
use Rattle.deno_graph_dep.proofs.NodePaths.{Below-from_IsStrictPrefix, IsStrictPrefix-from_Below}
use Rattle.deno_graph_dep.proofs.NodePaths.{Apart-from_PartsBelow, PartsBelow-from_Apart}
use Rattle.deno_graph_dep.proofs.Passed.{Around, Past, UpTo, Past-from_IsPassed, IsPassed-from_Past}
use Rattle.deno_graph_dep.proofs.Passed.{Past-enter, Past-leave, Past-from_UpTo, UpTo-from_Past}
use Rattle.deno_graph_dep.proofs.Passed.{Past-from_Around, Around-from_Past, next_path-inside}
use Rattle.deno_graph_dep.proofs.Passed.{next_path-sibling, AreNext, to_come-not_past}
use Rattle.deno_graph_dep.proofs.IterationsLeft.{entries_close}
use Rattle.deno_graph_dep.proofs.Steps.{Enters, Left, path_of, to_come-enter, to_come-leave, nested-left}
use Rattle.deno_graph_dep.proofs.Steps.{nested-enter, nested-leave}

next-first : (body : List Node) (old new : Stack) (node : Bor Node) (siblings : Bor (List Node))
    → Enters old new node siblings
    → next_of body old ≡ path_of body old.frames.items node siblings
next-first body old new node siblings step = ap (λ ns. next_path body old.frames.items ns) step.first

next-enter : (body : List Node) (old new : Stack) (node : Bor Node) (siblings : Bor (List Node))
    → Enters old new node siblings
    → next_of body new ≡ path_of body old.frames.items node siblings ++ 0 ∷ []
next-enter body old new node siblings step =
    let inner = children_to_visit node.now in
    let begin : index_of inner inner ≡ 0 = omega arith in
    ap (λ fs. next_path body fs new.nodes.now) step.frames ∙
    ap (λ ns. next_path body (old.frames.items ++ frame_of node siblings ∷ []) ns) step.nodes ∙
    next_path-inside body old.frames.items node siblings inner ∙
    ap (λ k. path_of body old.frames.items node siblings ++ k ∷ []) begin

next-last : (body : List Node) (old new : Stack) (node : Bor Node) (siblings : Bor (List Node))
    → Left old new node siblings
    → next_of body old ≡ path_of body new.frames.items node siblings
    ++ index_of (children_to_visit node.now) [] ∷ []
next-last body old new node siblings step =
    ap (λ fs. next_path body fs old.nodes.now) step.frames ∙
    ap (λ ns. next_path body (new.frames.items ++ frame_of node siblings ∷ []) ns) step.none ∙
    next_path-inside body new.frames.items node siblings []

next-leave : (body : List Node) (old new : Stack) (node : Bor Node) (siblings : Bor (List Node))
    → Left old new node siblings
    → AreNested body old.frames.items old.nodes.now
    → AreNext (path_of body new.frames.items node siblings) (next_of body new)
next-leave body old new node siblings step nested =
    let next = next_path-sibling body new.frames.items node.now siblings.now
    (nested-left body old new node siblings step nested) in
    let P : List Node → Type 0 =
    λ ns. AreNext (path_of body new.frames.items node siblings) (next_path body new.frames.items ns) in
    subst P (sym step.nodes) next

one_more : (old length_then length_now : ℕ) → old ≡ min length_then (2 ^ 64 - 1)
    → length_now ≡ suc length_then
    → min (old + 1) (2 ^ 64 - 1) ≡ min length_now (2 ^ 64 - 1)
one_more old length_then length_now e f = omega arith

pub IsStackOf-enter : (body : List Node) (old new : Stack) (node : Bor Node) (siblings : Bor (List Node))
    → Enters old new node siblings
    → IsStackOf body old → IsStackOf body new
IsStackOf-enter body old new node siblings step s =
    let path = path_of body old.frames.items node siblings in
    let entries = entry_rules dependency_rules in
    record {
      nested = nested-enter body old new node siblings step s.nested;
      passed = s.passed ++ path ∷ [];
      follow = s.follow ∙ ap (λ ps. s.passed ++ ps)
          (to_come-enter entries entries_close body old new node siblings step)
          ∙ sym (append_assoc s.passed (path ∷ []) (to_come entries body new));
      all_passed = λ q m.
          let there = Member-append s.passed (path ∷ []) q
          (Member-from_Contains (s.passed ++ path ∷ []) q m) in
          let P : NodePath → Type 0 = λ next. Past next q in
          let past : Past (path ++ 0 ∷ []) q =
          ⊎_elim
          (λ (h : Member s.passed q). Past-enter path q
          (subst P (next-first body old new node siblings step)
          (Past-from_IsPassed (next_of body old) q (s.all_passed q (Contains-from_Member s.passed q h)))))
          (λ (h : Member (path ∷ []) q). ⊎_elim (λ (e : path ≡ q). Past-from_UpTo path q (inr (inl (sym e))))
          (λ h. absurd h) h)
          there in
          IsPassed-from_Past (next_of body new) q
          (subst P (sym (next-enter body old new node siblings step)) past);
      counted = step.entered ∙ one_more old.entered (length s.passed)
          (length (s.passed ++ path ∷ [])) s.counted
          (let l = length-append s.passed (path ∷ []) in omega arith);
    }

pub IsStackOf-leave : (body : List Node) (old new : Stack) (node : Bor Node) (siblings : Bor (List Node))
    → Left old new node siblings
    → IsStackOf body old → IsStackOf body new
IsStackOf-leave body old new node siblings step s =
    let path = path_of body new.frames.items node siblings in
    let entries = entry_rules dependency_rules in
    let next = next-leave body old new node siblings step s.nested in
    let j = index_of (children_to_visit node.now) [] in
    record {
      nested = nested-leave body old new node siblings step s.nested;
      passed = s.passed;
      follow = s.follow ∙ ap (λ ps. s.passed ++ ps)
          (to_come-leave entries body old new node siblings step s.nested);
      all_passed = λ q m.
          let P : NodePath → Type 0 = λ n. Past n q in
          let inside = subst P (next-last body old new node siblings step)
          (Past-from_IsPassed (next_of body old) q (s.all_passed q m)) in
          let Q : NodePath → Type 0 = λ n. Past (n ++ j ∷ []) q in
          IsPassed-from_Past (next_of body new) q
          (subst P (sym next.second) (Past-leave next.front next.index j q (subst Q next.first inside)));
      counted = step.entered ∙ s.counted;
    }

-- the paths that were entered are the reachable ones that are passed
reachable_entry : (rules : Rules) (body : List Node) (q : NodePath) → IsReachable rules body q
    → IsReachable (entry_rules rules) body q × IsMember (entry_rules rules) body q
reachable_entry rules body q r =
    (record { to_node = r.to_node; is_open = r.is_open }, member (node_at body q) r.to_node)
  where
    member : (o : Option Node) → IsSome o → IsSomeAnd o (λ node. IsTrue true)
    member (Some node) some = refl
    member None some = absurd (false≢true some)

pub passed_are : (body : List Node) (stack : Stack) (s : IsStackOf body stack) (q : NodePath)
    → Contains s.passed q ↔ (IsReachable dependency_rules body q × IsPassed (next_of body stack) q)
passed_are body stack s q =
    let entries = entry_rules dependency_rules in
    let all = listing_paths entries body in
    let listing = IsListing-listing_paths entries body in
    let P : List NodePath → Type 0 = λ ps. Member ps q in (
      λ c.
          let there : Member all q =
          subst P (sym s.follow) (Member-left s.passed (to_come entries body stack) q
          (Member-from_Contains s.passed q c)) in
          let reached = ((listing.members q).0 (Contains-from_Member all q there)).0 in
          (record { to_node = reached.to_node; is_open = reached.is_open }, s.all_passed q c),
      λ h.
          let there : Member all q =
          Member-from_Contains all q
          ((listing.members q).1 (reachable_entry dependency_rules body q h.0)) in
          ⊎_elim
          (λ (m : Member s.passed q). Contains-from_Member s.passed q m)
          (λ (m : Member (to_come entries body stack) q).
          absurd (to_come-not_past dependency_rules body stack.frames.items stack.nodes.now q m
          (Past-from_IsPassed (next_of body stack) q h.1)))
          (Member-append s.passed (to_come entries body stack) q (subst P s.follow there)),
    )

Ascending-front : {X : Type 0} (R : X → X → Type 0) (xs ys : List X) → Ascending R (xs ++ ys) → Ascending R xs
Ascending-front R [] ys a = tt
Ascending-front R (x ∷ xs) ys a = (λ y m. a.0 y (Member-left xs ys y m), Ascending-front R xs ys a.1)

passed_distinct : (body : List Node) (stack : Stack) (s : IsStackOf body stack) → AllPairs ◌≢◌ s.passed
passed_distinct body stack s =
    let entries = entry_rules dependency_rules in
    let all = listing_paths entries body in
    let R = Precedes entries body in
    let P : List NodePath → Type 0 = λ ps. Ascending R ps in
    let ascending = subst P s.follow
    (Ascending-from_AllPairs R all (IsListing-listing_paths entries body).ascending) in
    AllPairs-from_Ascending ◌≢◌ s.passed
    (Ascending-weaker R ◌≢◌ (λ x y r e. let Q : NodePath → Type 0 = λ z. R x z in
    let own = subst Q (sym e) r in Precedes-asymmetric entries body x x own own)
    s.passed (Ascending-front R s.passed (to_come entries body stack) ascending))

-- the count of the reachable paths that are passed
pub count_of : (P : NodePath → Type 0) (body : List Node) (stack : Stack) → IsStackOf body stack
    → ((q : NodePath) → IsReachable dependency_rules body q → IsPassed (next_of body stack) q ↔ P q)
    → IsCountOf (λ q. IsReachable dependency_rules body q × P q) stack.entered
count_of P body stack s same = record {
  paths = s.passed;
  distinct = passed_distinct body stack s;
  members = λ q. (
    λ c. let h = (passed_are body stack s q).0 c in (h.0, (same q h.0).0 h.1),
    λ h. (passed_are body stack s q).1 (h.0, (same q h.0).1 h.1),
  );
  length_is = s.counted;
}

not_after : (after member : Bool) → (not after && member) ≡ true → after ≡ false
not_after true member e = absurd (false≢true e)
not_after false member e = refl

after_of : (after member : Bool) → (after && member) ≡ true → after ≡ true
after_of true member e = refl
after_of false member e = absurd (false≢true e)

-- a node comes before its inside or after it, not both
no_inner : (body : List Node) (path : NodePath) (node : Node) → node_at body path ≡ Some node
    → comes_before dependency_rules node ≡ true
    → IsAfterInside dependency_rules body path → ⊥
no_inner body path node at before h =
    let P : Option Node → Type 0 = λ o. IsSomeAnd o (λ n. IsTrue (dependency_rules.is_after_inside n)) in
    false≢true (sym (not_after (dependency_rules.is_after_inside node)
    (dependency_rules.is_member node) before) ∙ subst P at h)

is_inner : (body : List Node) (path : NodePath) (node : Node) → node_at body path ≡ Some node
    → comes_after dependency_rules node ≡ true
    → IsAfterInside dependency_rules body path
is_inner body path node at after =
    let P : Option Node → Type 0 = λ o. IsSomeAnd o (λ n. IsTrue (dependency_rules.is_after_inside n)) in
    subst P (sym at) (after_of (dependency_rules.is_after_inside node)
    (dependency_rules.is_member node) after)

entered_before : (body : List Node) (path q : NodePath) → UpTo path q
    → IsEnteredBy dependency_rules body path q
entered_before body path q (inl a) = by.apart (PartsBelow-from_Apart q path a)
entered_before body path q (inr (inl e)) = by.itself e
entered_before body path q (inr (inr b)) = by.outer (IsStrictPrefix-from_Below q path b)

up_to_entered : (body : List Node) (path q : NodePath) → (IsAfterInside dependency_rules body path → ⊥)
    → IsEnteredBy dependency_rules body path q → UpTo path q
up_to_entered body path q never (by.apart a) = inl (Apart-from_PartsBelow q path a)
up_to_entered body path q never (by.itself e) = inr (inl e)
up_to_entered body path q never (by.outer g) = inr (inr (Below-from_IsStrictPrefix q path g))
up_to_entered body path q never (by.inner g h) = absurd (never h)

entered_after : (body : List Node) (path q : NodePath) → IsAfterInside dependency_rules body path
    → Around path q → IsEnteredBy dependency_rules body path q
entered_after body path q h (inl a) = by.apart (PartsBelow-from_Apart q path a)
entered_after body path q h (inr (inl e)) = by.itself e
entered_after body path q h (inr (inr (inl b))) = by.outer (IsStrictPrefix-from_Below q path b)
entered_after body path q h (inr (inr (inr b))) = by.inner (IsStrictPrefix-from_Below path q b) h

around_entered : (body : List Node) (path q : NodePath) → IsEnteredBy dependency_rules body path q
    → Around path q
around_entered body path q (by.apart a) = inl (Apart-from_PartsBelow q path a)
around_entered body path q (by.itself e) = inr (inl e)
around_entered body path q (by.outer g) = inr (inr (inl (Below-from_IsStrictPrefix q path g)))
around_entered body path q (by.inner g h) = inr (inr (inr (Below-from_IsStrictPrefix path q g)))

-- the count when a step returns a node before its inside
pub count-enter : (body : List Node) (old new : Stack) (node : Bor Node) (siblings : Bor (List Node))
    → Enters old new node siblings
    → IsStackOf body new → node_at body (path_of body old.frames.items node siblings) ≡ Some node.now
    → comes_before dependency_rules node.now ≡ true
    → IsCountOf (EnteredBy dependency_rules body (path_of body old.frames.items node siblings)) new.entered
count-enter body old new node siblings step s at before =
    let path = path_of body old.frames.items node siblings in
    let next = next-enter body old new node siblings step in
    count_of (IsEnteredBy dependency_rules body path) body new s (λ q r.
    let P : NodePath → Type 0 = λ n. Past n q in (
      λ passed. entered_before body path q
          (UpTo-from_Past path q (subst P next (Past-from_IsPassed (next_of body new) q passed))),
      λ entered. IsPassed-from_Past (next_of body new) q
          (subst P (sym next) (Past-from_UpTo path q
          (up_to_entered body path q (no_inner body path node.now at before) entered))),
    ))

-- the count when a step returns a node after its inside
pub count-leave : (body : List Node) (old new : Stack) (node : Bor Node) (siblings : Bor (List Node))
    → Left old new node siblings
    → IsStackOf body old → IsStackOf body new
    → node_at body (path_of body new.frames.items node siblings) ≡ Some node.now
    → comes_after dependency_rules node.now ≡ true
    → IsCountOf (EnteredBy dependency_rules body (path_of body new.frames.items node siblings)) new.entered
count-leave body old new node siblings step before s at after =
    let path = path_of body new.frames.items node siblings in
    let next = next-leave body old new node siblings step before.nested in
    let here = next.front ++ next.index ∷ [] in
    count_of (IsEnteredBy dependency_rules body path) body new s (λ q r.
    let P : NodePath → Type 0 = λ n. Past n q in
    let Q : NodePath → Type 0 = λ p. Around p q in (
      λ passed. entered_after body path q (is_inner body path node.now at after)
          (subst Q (sym next.first)
          (Around-from_Past next.front next.index q
          (subst P next.second (Past-from_IsPassed (next_of body new) q passed)))),
      λ entered. IsPassed-from_Past (next_of body new) q
          (subst P (sym next.second)
          (Past-from_Around next.front next.index q
          (subst Q next.first (around_entered body path q entered)))),
    ))

-- at the end all reachable paths are counted
pub count-end : (body : List Node) (stack : Stack) → IsStackOf body stack → stack.frames.items ≡ []
    → stack.nodes.now ≡ []
    → IsCountOf (IsReachable dependency_rules body) stack.entered
count-end body stack s frames nodes =
    let entries = entry_rules dependency_rules in
    let all = listing_paths entries body in
    let listing = IsListing-listing_paths entries body in
    let none : to_come entries body stack ≡ [] =
    ap (λ fs. paths_to_come entries body fs stack.nodes.now) frames
    ∙ ap (λ ns. paths_to_come entries body [] ns) nodes in
    let whole : all ≡ s.passed = s.follow ∙ ap (λ ps. s.passed ++ ps) none ∙ append-nil s.passed in
    record {
      paths = s.passed;
      distinct = passed_distinct body stack s;
      members = λ q.
          let R : List NodePath → Type 0 = λ ps. Contains ps q in (
            λ c. let h = (passed_are body stack s q).0 c in h.0,
            λ h. subst R whole ((listing.members q).1 (reachable_entry dependency_rules body q h)),
          );
      length_is = s.counted;
    }
