-- A list that ascends, with one more element inserted.
use Rattle.std.proofs.Common.{◌≡◌, ℕ, zero, suc, ◌+◌, ◌-◌, ◌<◌, ◌≤◌, ◌⊎◌, inl, inr, Bool, true, false, nat_lt}
use Rattle.std.proofs.Common.{◌≢◌, List, [], ◌∷◌, ◌++◌, length, take, drop, get_or, map, refl, sym, ap, ◌∙◌}
use Rattle.std.proofs.Common.{subst, arith}
use Rattle.std.proofs.lemmas.Bool.{cases_lt, ltb-true, ltb-false, lt-ltb}
use Rattle.std.proofs.lemmas.List.{map-append, take-map, drop-map, get_or-map, length-map}
use Rattle.std.proofs.lemmas.List.Edits.{length-insert, get_or-insert_below, get_or-insert_at}
use Rattle.std.proofs.lemmas.List.Edits.{get_or-insert_above}
use Rattle.std.proofs.lemmas.List.Elements.{Contains-get_or}
use Rattle.std.proofs.lemmas.List.Sorted.{Contains-permutation, IsPermutation-insert, IsPermutation-sym}
use Rattle.std.specs.List.{AllPairs, Contains, insert}
use Rattle.std.specs.List.Sorted.{IsPartitionedBy, IsPartitionPoint}
use Rattle.deno_graph_jsdoc.specs.JsDocImport.{Import, import_of}
use Rattle.deno_graph_jsdoc.specs.internal.Pass.{GainsImport}
use Rattle.deno_graph_jsdoc.specs.declared.import.JsDocImport.{JsDocImport}

module _ {X : Type 0} (R : X → X → Type 0) (xs : List X) (at : ℕ) (y : X) (fits : at ≤ length xs)
    (pairs : AllPairs R xs) (below : (k : ℕ) (d : X) → k < at → R (get_or xs k d) y)
    (above : (k : ℕ) (d : X) → at ≤ k → k < length xs → R y (get_or xs k d)) where
  -- the elements of the new list, before and after the inserted element
  before_at : (k : ℕ) (d : X) → k < at → get_or (insert xs at y) k d ≡ get_or xs k d
  before_at k d less = get_or-insert_below xs at y d k less fits

  after_at : (k : ℕ) (d : X) → at < k → get_or (insert xs at y) k d ≡ get_or xs (k - 1) d
  after_at k d more =
      let again : k - 1 + 1 ≡ k = omega arith in
      ap (λ n. get_or (insert xs at y) n d) (sym again)
      ∙ get_or-insert_above xs at y d (k - 1) (omega arith) fits

  at_at : (k : ℕ) (d : X) → k ≡ at → get_or (insert xs at y) k d ≡ y
  at_at k d is = ap (λ n. get_or (insert xs at y) n d) is ∙ get_or-insert_at xs at y d fits

  pub AllPairs-insert : AllPairs R (insert xs at y)
  AllPairs-insert i j d order inside = by_cases (cases_lt i at) (cases_lt at j)
    where
      size : length (insert xs at y) ≡ length xs + 1
      size = length-insert xs at y fits

      by_cases : (i < at) ⊎ (at ≤ i) → (at < j) ⊎ (j ≤ at)
          → R (get_or (insert xs at y) i d) (get_or (insert xs at y) j d)
      by_cases (inl first) (inl second) =
          subst (λ a. R a (get_or (insert xs at y) j d)) (sym (before_at i d first))
          (subst (R (get_or xs i d)) (sym (after_at j d second))
          (pairs i (j - 1) d (omega arith) (omega (arith, size))))
      by_cases (inl first) (inr second) =
          subst (λ a. R a (get_or (insert xs at y) j d)) (sym (before_at i d first)) (by_last (cases_lt j at))
        where
          by_last : (j < at) ⊎ (at ≤ j) → R (get_or xs i d) (get_or (insert xs at y) j d)
          by_last (inl less) =
              subst (R (get_or xs i d)) (sym (before_at j d less)) (pairs i j d order (omega arith))
          by_last (inr same) = subst (R (get_or xs i d)) (sym (at_at j d (omega arith))) (below i d first)
      by_cases (inr first) (inl second) =
          subst (R (get_or (insert xs at y) i d)) (sym (after_at j d second)) (by_first (cases_lt at i))
        where
          by_first : (at < i) ⊎ (i ≤ at) → R (get_or (insert xs at y) i d) (get_or xs (j - 1) d)
          by_first (inl more) = subst (λ a. R a (get_or xs (j - 1) d)) (sym (after_at i d more))
              (pairs (i - 1) (j - 1) d (omega arith) (omega (arith, size)))
          by_first (inr same) = subst (λ a. R a (get_or xs (j - 1) d)) (sym (at_at i d (omega arith)))
              (above (j - 1) d (omega arith) (omega (arith, size)))
      by_cases (inr first) (inr second) = absurd (omega arith)

pub map-insert : {X Y : Type 0} (f : X → Y) (xs : List X) (at : ℕ) (y : X)
    → map f (insert xs at y) ≡ insert (map f xs) at (f y)
map-insert f xs at y =
    map-append f (take at xs) (y ∷ drop at xs)
    ∙ (λ k. sym (take-map f at xs) k ++ f y ∷ sym (drop-map f at xs) k)

abbrev Ascends : Import → Import → Type 0
Ascends import later = import.start < later.start

-- the list with an inserted import gains this import
pub GainsImport-insert : (old : List Import) (import : Import) (at : ℕ)
    → at ≤ length old → AllPairs Ascends old
    → ((k : ℕ) (d : Import) → k < at → (get_or old k d).start < import.start)
    → ((k : ℕ) (d : Import) → at ≤ k → k < length old → import.start < (get_or old k d).start)
    → GainsImport old import (insert old at import)
GainsImport-insert old import at fits pairs below above = record {
  ascending = AllPairs-insert Ascends old at import fits pairs below above;
  only = λ other has. by_head other (Contains-permutation (insert old at import) (import ∷ old) other
      (IsPermutation-sym (import ∷ old) (insert old at import) (IsPermutation-insert old at import)) has);
  kept = λ other has. Contains-permutation (import ∷ old) (insert old at import) other
      (IsPermutation-insert old at import) (after_head other has);
  there = (
    import,
    Contains-permutation (import ∷ old) (insert old at import) import
        (IsPermutation-insert old at import) (0, omega arith, refl),
    refl,
  );
}
  where
    by_head : (other : Import) → Contains (import ∷ old) other → Contains old other ⊎ (import ≡ other)
    by_head other (k, inside, is) = by_case k inside is
      where
        by_case : (k : ℕ) → k < length (import ∷ old) → get_or (import ∷ old) k other ≡ other
            → Contains old other ⊎ (import ≡ other)
        by_case zero inside is = inr is
        by_case (suc k) inside is = inl (k, omega arith, is)

    after_head : (other : Import) → Contains old other → Contains (import ∷ old) other
    after_head other (k, inside, is) = (suc k, omega arith, is)

-- a list that has an import with the same start gains nothing
pub GainsImport-same : (old : List Import) (import : Import) → AllPairs Ascends old → (k : ℕ) → k < length old
    → ((d : Import) → (get_or old k d).start ≡ import.start)
    → GainsImport old import old
GainsImport-same old import pairs k inside same = record {
  ascending = pairs;
  only = λ other has. inl has;
  kept = λ other has. has;
  there = (get_or old k import, Contains-get_or old k import inside, same import);
}

-- an import of the program, inserted at the index that a search returns
abbrev pub is_before : ℕ → JsDocImport → Bool
is_before start other = nat_lt other.specifier_range.start start

module _ (items : List JsDocImport) (pairs : AllPairs Ascends (map import_of items)) where
  start_at : (k : ℕ) (d : JsDocImport) → k < length items
      → (get_or (map import_of items) k (import_of d)).start ≡ (get_or items k d).specifier_range.start
  start_at k d inside = ap (λ (i : Import). i.start) (get_or-map import_of items k d (import_of d) inside)

  in_order : (i j : ℕ) (d : JsDocImport) → i < j → j < length items
      → (get_or items i d).specifier_range.start < (get_or items j d).specifier_range.start
  in_order i j d order inside =
      let less = pairs i j (import_of d) order (omega (arith, length-map items import_of)) in
      omega (arith, less, start_at i d (omega arith), start_at j d inside)

  pub is_partitioned : (start : ℕ) → IsPartitionedBy (is_before start) items
  is_partitioned start i j d order inside below = by_order (cases_lt i j)
    where
      by_order : (i < j) ⊎ (j ≤ i) → is_before start (get_or items i d) ≡ true
      by_order (inl less) = lt-ltb _ _ (omega (arith, in_order i j d less inside, ltb-true _ _ below))
      by_order (inr more) =
          let same : i ≡ j = omega arith in
          ap (λ k. is_before start (get_or items k d)) same ∙ below

  module _ (import : JsDocImport) (at : ℕ) (fits : at ≤ length items)
      (point : IsPartitionPoint (λ other. is_before import.specifier_range.start other ≡ true)
      (λ other. is_before import.specifier_range.start other ≡ false) items at) where
    pub GainsImport-at : ((d : JsDocImport) → at < length items
        → (get_or items at d).specifier_range.start ≢ import.specifier_range.start)
        → GainsImport (map import_of items) (import_of import) (map import_of (insert items at import))
    GainsImport-at other =
        subst (GainsImport (map import_of items) (import_of import))
        (sym (map-insert import_of items at import))
        (GainsImport-insert (map import_of items)
        (import_of import) at (omega (arith, length-map items import_of)) pairs below above)
      where
        below : (k : ℕ) (d : Import)
            → k < at → (get_or (map import_of items) k d).start < import.specifier_range.start
        below k d less =
            let start = ap (λ (i : Import). i.start) (get_or-map import_of items k import d (omega arith)) in
            omega (arith, start, ltb-true _ _ (point.0 k import (omega arith) less))

        above : (k : ℕ) (d : Import) → at ≤ k → k < length (map import_of items)
            → import.specifier_range.start < (get_or (map import_of items) k d).start
        above k d more inside = by_case (cases_lt at k)
          where
            within : k < length items
            within = omega (arith, length-map items import_of)

            start : (get_or (map import_of items) k d).start ≡ (get_or items k import).specifier_range.start
            start = ap (λ (i : Import). i.start) (get_or-map import_of items k import d within)

            by_case : (at < k) ⊎ (k ≤ at)
                → import.specifier_range.start < (get_or (map import_of items) k d).start
            by_case (inl further) =
                omega (
                  arith,
                  start,
                  in_order at k import further within,
                  ltb-false _ _ (point.1 at import (omega arith) (omega (arith, within))),
                )
            by_case (inr same) =
                let here : k ≡ at = omega arith in
                let least = ltb-false _ _ (point.1 k import more within) in
                let not_same : (get_or items k import).specifier_range.start ≢ import.specifier_range.start =
                subst (λ n. (get_or items n import).specifier_range.start ≢ import.specifier_range.start)
                (sym here) (other import (omega (arith, within, here))) in
                omega (arith, start, least, not_same)

  pub GainsImport-there : (import : JsDocImport) (at : ℕ) → at < length items
      → ((d : JsDocImport) → (get_or items at d).specifier_range.start ≡ import.specifier_range.start)
      → GainsImport (map import_of items) (import_of import) (map import_of items)
  GainsImport-there import at inside same =
      GainsImport-same (map import_of items)
      (import_of import) pairs at (omega (arith, length-map items import_of))
      (λ d. ap (λ (i : Import). i.start) (get_or-map import_of items at import d inside) ∙ same import)

-- lists that ascend and have the same elements are equal
pub tail_pairs : (x : Import) (xs : List Import) → AllPairs Ascends (x ∷ xs) → AllPairs Ascends xs
tail_pairs x xs pairs i j d order inside = pairs (suc i) (suc j) d (omega arith) (omega arith)

head_below : (x : Import) (xs : List Import) → AllPairs Ascends (x ∷ xs) → (z : Import)
    → Contains xs z → x.start < z.start
head_below x xs pairs z (k, inside, is) =
    subst (λ (y : Import). x.start < y.start) is (pairs 0 (suc k) z (omega arith) (omega arith))

head_or_tail : (x : Import) (xs : List Import) (z : Import) → Contains (x ∷ xs) z → (x ≡ z) ⊎ Contains xs z
head_or_tail x xs z (zero, inside, is) = inl is
head_or_tail x xs z (suc k, inside, is) = inr (k, omega arith, is)

at_head : (x : Import) (xs : List Import) → Contains (x ∷ xs) x
at_head x xs = (0, omega arith, refl)

in_tail : (x : Import) (xs : List Import) (z : Import) → Contains xs z → Contains (x ∷ xs) z
in_tail x xs z (k, inside, is) = (suc k, omega arith, is)

pub same_ascending : (xs ys : List Import) → AllPairs Ascends xs → AllPairs Ascends ys
    → ((z : Import) → Contains xs z → Contains ys z)
    → ((z : Import) → Contains ys z → Contains xs z) → xs ≡ ys
same_ascending [] [] up rise to from = refl
same_ascending [] (y ∷ ys) up rise to from = absurd (omega (arith, (from y (at_head y ys)).1))
same_ascending (x ∷ xs) [] up rise to from = absurd (omega (arith, (to x (at_head x xs)).1))
same_ascending (x ∷ xs) (y ∷ ys) up rise to from =
    λ i. heads i ∷ same_ascending xs ys (tail_pairs x xs up) (tail_pairs y ys rise) to_tail from_tail i
  where
    heads : x ≡ y
    heads = by_cases (head_or_tail y ys x (to x (at_head x xs)))
        (head_or_tail x xs y (from y (at_head y ys)))
      where
        by_cases : (y ≡ x) ⊎ Contains ys x → (x ≡ y) ⊎ Contains xs y → x ≡ y
        by_cases (inl same) other = sym same
        by_cases (inr later) (inl same) = same
        by_cases (inr later) (inr after) =
            absurd (omega (arith, head_below y ys rise x later, head_below x xs up y after))

    to_tail : (z : Import) → Contains xs z → Contains ys z
    to_tail z has = by_case (head_or_tail y ys z (to z (in_tail x xs z has)))
      where
        by_case : (y ≡ z) ⊎ Contains ys z → Contains ys z
        by_case (inr there) = there
        by_case (inl same) =
            absurd (omega (arith, head_below x xs up z has, ap (λ (i : Import). i.start) (heads ∙ same)))

    from_tail : (z : Import) → Contains ys z → Contains xs z
    from_tail z has = by_case (head_or_tail x xs z (from z (in_tail y ys z has)))
      where
        by_case : (x ≡ z) ⊎ Contains xs z → Contains xs z
        by_case (inr there) = there
        by_case (inl same) = absurd
            (omega (arith, head_below y ys rise z has, ap (λ (i : Import). i.start) (sym heads ∙ same)))
