-- Comments in ascending order of their starts: if comments overlap, so do two neighbours.
use Rattle.std.proofs.Common.{◌≡◌, ◌≢◌, true, not, ◌&&◌, eqb, add-zero, ℕ, zero, suc, ◌+◌, ◌-◌, ◌<◌, ◌≤◌}
use Rattle.std.proofs.Common.{List, [], ◌∷◌, map, length, drop, get_or, refl, sym, ap, ◌∙◌, subst, inl, inr}
use Rattle.std.proofs.Common.{⊎_elim, ◌⊎◌, arith}
use Rattle.std.specs.List.{AllAdjacentBelow, Contains, All}
use Rattle.std.specs.List.Sorted.{IsNonDecreasingBy}
use Rattle.std.proofs.lemmas.List.{get_or_default, get_or-map, length-map, length-take}
use Rattle.std.proofs.lemmas.List.Elements.{All-contains, All-get_or}
use Rattle.std.proofs.lemmas.Bool.{cases_lt}
use Rattle.std.proofs.lemmas.Bool.Decides.{Decides-eqb}
use Rattle.deno_graph_source.specs.internal.Check.{AreNeighbours, Passes, RunsInto}
use Rattle.deno_graph_source.specs.FaultPlace.{Overlap}
use Rattle.deno_graph_source.specs.Source.{IsSpelled, SharesByte, spelling}
use Rattle.deno_graph_base.specs.declared.text.position.SourceRange.{SourceRange}
use Rattle.deno_graph_source.specs.declared.tree.comments.CommentKind.{CommentKind}
use Rattle.deno_graph_source.specs.declared.tree.comments.CommentKind.TheVariants.{Line, Block}
use Rattle.deno_graph_source.specs.declared.tree.comments.DependencyComment.{DependencyComment}
use Rattle.deno_graph_source.proofs.Spelling.{spelled_unique}

-- a property of neighbours in a list of references, for the values of the references
pub AllAdjacentBelow-map : {R X : Type 0} (f : R → X) (P : X → X → Type 0) (rs : List R)
    → ((k : ℕ) → k + 1 < length rs → (d : R) → P (f (get_or rs k d)) (f (get_or rs (k + 1) d)))
    → AllAdjacentBelow P (map f rs) (length (map f rs))
AllAdjacentBelow-map f P [] h = λ k d below. absurd (omega arith)
AllAdjacentBelow-map f P (r ∷ rs) h = λ k d below.
    let inside : k + 1 < length (r ∷ rs) = omega (arith, length-map (r ∷ rs) f) in
    rw (get_or-map f (r ∷ rs) k r d (omega arith), get_or-map f (r ∷ rs) (k + 1) r d inside) (h k inside r)

two_bytes : (kind : CommentKind) (text : List ℕ) → 2 ≤ length (spelling kind text)
two_bytes Line text = omega arith
two_bytes Block text = omega arith

le_or_ge : (m n : ℕ) → (m ≤ n) ⊎ (n ≤ m)
le_or_ge m n = ⊎_elim (λ below. inl (omega arith)) inr (cases_lt m n)

-- a comment that the text has isn't empty
some_bytes : (text : List ℕ) (c : DependencyComment) → IsSpelled text c → c.range.start < c.range.end
some_bytes text c is =
    let two : 2 ≤ length (spelling c.kind c.text) = two_bytes c.kind c.text in
    omega (
      arith,
      ap length is.slice,
      length-take (c.range.end - c.range.start) (drop c.range.start text),
      two,
    )

-- keys that don't descend in a list of references, for the values of the references
pub IsNonDecreasingBy-map : {R X : Type 0} (f : R → X) (n : X → ℕ) (rs : List R)
    → IsNonDecreasingBy (λ r. n (f r)) rs → IsNonDecreasingBy n (map f rs)
IsNonDecreasingBy-map f n [] h = λ i j d up below. absurd (omega arith)
IsNonDecreasingBy-map f n (r ∷ rs) h = λ i j d up below.
    let inside : j < length (r ∷ rs) = omega (arith, length-map (r ∷ rs) f) in
    rw (get_or-map f (r ∷ rs) i r d (omega arith), get_or-map f (r ∷ rs) j r d inside) (h i j r up inside)

-- two neighbours of which the later runs into the earlier, for the values of references
pub runs_into_at : {R : Type 0} (f : R → DependencyComment) (rs : List R) (k i : ℕ) (r s : R) → i ≡ k + 1
    → i < length rs → RunsInto (f (get_or rs k r)) (f (get_or rs i s)) → (d : DependencyComment)
    → RunsInto (get_or (map f rs) k d) (get_or (map f rs) (k + 1) d)
runs_into_at f rs k i r s next below h d =
    let after : k + 1 < length rs = omega arith in
    rw (get_or-map f rs k r d (omega arith), get_or-map f rs (k + 1) s d after, ← next) h

-- ranges for which `==` is false are unequal
pub differs : (a b : SourceRange) → true ≡ not (eqb b.start a.start && eqb b.end a.end) → a ≢ b
differs a b test same =
    let starts = (Decides-eqb b.start a.start).1 (ap (λ r. r.start) (sym same)) in
    let ends = (Decides-eqb b.end a.end).1 (ap (λ r. r.end) (sym same)) in
    cc (test, starts, ends)

module _ (xs : List DependencyComment) (rising : IsNonDecreasingBy (λ c. c.range.start) xs)
    (passes : AllAdjacentBelow Passes xs (length xs)) (d : DependencyComment) where
  -- a later comment passes each earlier comment
  passes_far : (i m : ℕ) → i + m < length xs → Passes (get_or xs i d) (get_or xs (i + m) d)
  passes_far i zero below = rw add-zero (inl refl)
  passes_far i (suc m) below =
      let far = passes_far i m (omega arith) in
      let next = passes (i + m) d (omega arith) in
      let up = rising (i + m) (i + m + 1) d (omega arith) (omega arith) in
      let at : (i + m) + 1 ≡ i + suc m = omega arith in
      subst (λ n. Passes (get_or xs i d) (get_or xs n d)) at (⊎_elim
      (λ same. ⊎_elim (λ again. inl (same ∙ again)) (λ past. inr (omega (arith, past, ap (λ r. r.end) same)))
      next)
      (λ past. inr (omega (arith, past, up))) far)

  -- a comment that shares a byte with an earlier comment has its range
  shared_is_same : (i j : ℕ) → i ≤ j → j < length xs → SharesByte (get_or xs i d).range (get_or xs j d).range
      → (get_or xs i d).range ≡ (get_or xs j d).range
  shared_is_same i j up below shared =
      let at : i + (j - i) ≡ j = omega arith in
      let far = subst (λ n. Passes (get_or xs i d) (get_or xs n d)) at (passes_far i (j - i) (omega arith)) in
      ⊎_elim (λ same. same) (λ past. absurd (omega (arith, past, shared.1, shared.2, shared.3, shared.4))) far

-- comments that share a byte are equal, if the text has the comments, their starts ascend, and each
-- comment passes the one before it
pub apart_from_neighbours : (text : List ℕ) (xs : List DependencyComment) → All (IsSpelled text) xs
    → IsNonDecreasingBy (λ c. c.range.start) xs → AllAdjacentBelow Passes xs (length xs)
    → (a b : DependencyComment) → Contains xs a → Contains xs b → SharesByte a.range b.range → a ≡ b
apart_from_neighbours text xs spelled rising passes a b at bt shared =
    let here : get_or xs at.0 a ≡ a = at.2 in
    let there : get_or xs bt.0 a ≡ b = get_or_default xs bt.0 a b bt.1 ∙ bt.2 in
    let spelled_a = All-contains (IsSpelled text) xs a spelled at in
    let spelled_b = All-contains (IsSpelled text) xs b spelled bt in
    spelled_unique text a b spelled_a spelled_b (⊎_elim
    (λ up. ap (λ c. c.range) (sym here)
    ∙ shared_is_same xs rising passes a at.0 bt.0 up bt.1 (rw (here, there) shared) ∙ ap (λ c. c.range) there)
    (λ down. ap (λ c. c.range) (sym here)
    ∙ sym (shared_is_same xs rising passes a bt.0 at.0 down at.1
    (rw (here, there) (shared.0, shared.3, shared.4, shared.1, shared.2))) ∙ ap (λ c. c.range) there)
    (le_or_ge at.0 bt.0))

-- two neighbours overlap if the later runs into the earlier
pub overlap_of_neighbours : (text : List ℕ) (xs : List DependencyComment) → All (IsSpelled text) xs
    → IsNonDecreasingBy (λ c. c.range.start) xs → (a b : DependencyComment) → AreNeighbours xs a b
    → Contains xs a × Contains xs b × Overlap a b
overlap_of_neighbours text xs spelled rising a b are =
    let k = are.at in
    let up : a.range.start ≤ b.range.start =
    rw (are.first a, are.second a) at (rising k (k + 1) a (omega arith) are.within) in
    let written = rw are.second at (All-get_or (IsSpelled text) xs (k + 1) a are.within spelled) in
    let some = some_bytes text b written in (
      (k, omega (arith, are.within), are.first a),
      (k + 1, are.within, are.second b),
      (λ same. are.into.0 (ap (λ c. c.range) same), (b.range.start, up, are.into.1, omega arith, some)),
    )
