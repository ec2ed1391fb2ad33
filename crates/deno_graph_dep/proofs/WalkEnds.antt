-- A walk stays at its end, and ends.
use Rattle.std.proofs.Common.{◌≡◌, ◌≢◌, ℕ, ◌+◌, ◌-◌, ◌^◌, ◌≤◌, min, List, [], ◌∷◌, ◌++◌, length, Option, Some}
use Rattle.std.proofs.Common.{None, inl, inr, ⊎_elim, sym, ap, ◌∙◌, refl, subst, arith, cond, zero-le}
use Rattle.std.proofs.lemmas.List.{length-append}
use Rattle.std.proofs.lemmas.List.Sums.{sum_by-cons}
use Rattle.std.specs.Borrow.{Bor}
use Rattle.std.specs.List.{count_by}
use Rattle.std.specs.Option.{is_some}
use Rattle.deno_graph_source.specs.declared.tree.node.Node.{Node}
use Rattle.deno_graph_source.specs.declared.tree.node.Program.{Program}
use Rattle.deno_graph_source.specs.NodePath.{NodePath}
use Rattle.deno_graph_dep.specs.DependencyRules.{dependency_rules}
use Rattle.deno_graph_dep.specs.Entered.{IsCountOf}
use Rattle.deno_graph_dep.specs.Listing.{IsReachable}
use Rattle.deno_graph_dep.specs.Walk.{AreWalkSteps, IsWalkStep, WalkState}
use Rattle.deno_graph_dep.proofs.Ascending.{Member, Ascending, Member-append, Member-left, Member-right}
use Rattle.deno_graph_dep.proofs.Ascending.{Member-from_Contains, Contains-from_Member}
use Rattle.deno_graph_dep.proofs.Ascending.{Ascending-from_AllPairs}

-- two counts of one property are equal

cut_at : {X : Type 0} (ys : List X) (x : X) → Member ys x
    → (front : List X) × (back : List X) × (ys ≡ front ++ x ∷ back)
cut_at [] x m = absurd m
cut_at (y ∷ ys) x (inl e) = ([], ys, ap (λ z. z ∷ ys) e)
cut_at (y ∷ ys) x (inr m) = let cut = cut_at ys x m in (y ∷ cut.0, cut.1, ap (λ t. y ∷ t) cut.2)

other_member : {X : Type 0} (front back : List X) (x y : X) → x ≢ y → Member (front ++ x ∷ back) y
    → Member (front ++ back) y
other_member front back x y apart m =
    ⊎_elim (λ before. Member-left front back y before)
    (λ rest. ⊎_elim (λ same. absurd (apart same)) (λ after. Member-right front back y after) rest)
    (Member-append front (x ∷ back) y m)

no_longer : {X : Type 0} (xs ys : List X) → Ascending ◌≢◌ xs → ((x : X) → Member xs x → Member ys x)
    → length xs ≤ length ys
no_longer [] ys apart within = zero-le
no_longer {X} (x ∷ xs) ys apart within =
    let cut = cut_at ys x (within x (inl refl)) in
    let rest = no_longer xs (cut.0 ++ cut.1) apart.1 (λ y m. other_member cut.0 cut.1 x y (apart.0 y m)
    (subst (λ (zs : List X). Member zs y) cut.2 (within y (inr m)))) in
    omega (
      arith,
      rest,
      ap length cut.2,
      length-append cut.0 (x ∷ cut.1),
      length-append cut.0 cut.1,
    )

one_count : (P : NodePath → Type 0) (count other : ℕ) → IsCountOf P count → IsCountOf P other → count ≡ other
one_count P count other is also =
    let there = no_longer is.paths also.paths (Ascending-from_AllPairs ◌≢◌ is.paths is.distinct)
    (λ path m. Member-from_Contains also.paths path ((also.members path).1
    ((is.members path).0 (Contains-from_Member is.paths path m)))) in
    let back = no_longer also.paths is.paths (Ascending-from_AllPairs ◌≢◌ also.paths also.distinct)
    (λ path m. Member-from_Contains is.paths path ((is.members path).1
    ((also.members path).0 (Contains-from_Member also.paths path m)))) in
    let same : length is.paths ≡ length also.paths = omega (arith, there, back) in
    is.length_is ∙ ap (λ n. min n (2 ^ 64 - 1)) same ∙ sym also.length_is

-- after the end no path is still to come
pub stays : (old end new : WalkState) (found : Option (Bor Node)) → end.program ≡ old.program
    → new.program ≡ end.program → IsWalkStep old end None → IsWalkStep end new found
    → (found ≡ None) × (new ≡ end)
stays old end new None same again none step =
    let reached : IsCountOf (IsReachable dependency_rules end.program.body) end.entered =
    subst (λ (p : Program). IsCountOf (IsReachable dependency_rules p.body) end.entered) (sym same)
    none.entered in
    let entered = one_count (IsReachable dependency_rules end.program.body) new.entered end.entered
    step.entered reached in
    let to_come = step.after ∙ sym none.after in
    (refl, λ i. record { program = again i; to_come = to_come i; entered = entered i })
stays old end new (Some node) same again none step =
    let both : [] ≡ step.path ∷ new.to_come = sym none.after ∙ step.first in
    absurd (cc)

-- the count of nodes that a step returns: one or none
abbrev count : Option (Bor Node) → ℕ
count found = cond (is_some found) 1 0

-- the nodes returned and the paths still to come are as many as the paths before
pub taken : (old new : WalkState) (found : List (Option (Bor Node))) → AreWalkSteps old found new
    → count_by is_some found + length new.to_come ≡ length old.to_come
taken old new [] are = omega (arith, ap (λ (w : WalkState). length w.to_come) are)
taken old new (None ∷ more) (next, same, step, rest) =
    omega (
      arith,
      taken next new more rest,
      sum_by-cons count None more,
      ap length step.before,
      ap length step.after,
    )
taken old new (Some node ∷ more) (next, same, step, rest) =
    omega (arith, taken next new more rest, sum_by-cons count (Some node) more, ap length step.first)
