-- A stable sort by starts is the list in order of starts that the specs define.
use Rattle.std.proofs.Common.{◌≡◌, ℕ, zero, suc, ◌<◌, ◌≤◌, Bool, true, false, cond, List, [], ◌∷◌, length}
use Rattle.std.proofs.Common.{get_or, filter, nat_cmp, nat_le, is_lt, refl, sym, ap, subst, ◌∙◌, arith, inl}
use Rattle.std.proofs.Common.{inr, suc-le-suc, zero-le}
use Rattle.std.proofs.lemmas.Bool.{cond-true, cond-false, cases_Bool}
use Rattle.std.proofs.lemmas.Bool.Decides.{nat_tests}
use Rattle.std.specs.List.Sorted.{ties, IsNonDecreasingBy, IsStableByKey}
use Rattle.modinfo_estree.specs.Order.{insert_by_start, sorted_by_start}

-- Whether two starts are the same, as a sort tests it.
abbrev is_tie : ℕ → ℕ → Bool
is_tie = ties (λ x y. is_lt (nat_cmp x y))

ties_at : (m n : ℕ) → (is_tie m n ≡ true → m ≡ n) × (m ≡ n → is_tie m n ≡ true)
ties_at m n = (λ h. grind (arith, nat_tests), λ h. grind (arith, nat_tests))

le_at : (m n : ℕ) → (nat_le m n ≡ true → m ≤ n) × (nat_le m n ≡ false → n < m)
le_at m n = (λ h. grind (arith, nat_tests), λ h. grind (arith, nat_tests))

module _ {A : Type 0} (start_of : A → ℕ) where
  -- Whether two items start at the same byte, as a sort tests it.
  abbrev is_tied : A → A → Bool
  is_tied = ties (λ x y. is_lt (nat_cmp (start_of x) (start_of y)))

  is_tied-true : (x y : A) → is_tied x y ≡ true → start_of x ≡ start_of y
  is_tied-true x y = (ties_at (start_of x) (start_of y)).0

  is_tied_from : (x y : A) → start_of x ≡ start_of y → is_tied x y ≡ true
  is_tied_from x y = (ties_at (start_of x) (start_of y)).1

  filter-kept : (p : A → Bool) (y : A) (ys : List A) → p y ≡ true
      → filter p (y ∷ ys) ≡ y ∷ filter p ys
  filter-kept p y ys h = cond-true _ _ _ h

  filter-dropped : (p : A → Bool) (y : A) (ys : List A) → p y ≡ false
      → filter p (y ∷ ys) ≡ filter p ys
  filter-dropped p y ys h = cond-false _ _ _ h

  insert-here : (c d : A) (ds : List A) → nat_le (start_of c) (start_of d) ≡ true
      → insert_by_start start_of c (d ∷ ds) ≡ c ∷ d ∷ ds
  unfolding insert_by_start
  insert-here c d ds h = cond-true _ _ _ h

  insert-later : (c d : A) (ds : List A) → nat_le (start_of c) (start_of d) ≡ false
      → insert_by_start start_of c (d ∷ ds) ≡ d ∷ insert_by_start start_of c ds
  unfolding insert_by_start
  insert-later c d ds h = cond-false _ _ _ h

  insert-nil : (c : A) → insert_by_start start_of c [] ≡ c ∷ []
  unfolding insert_by_start
  insert-nil c = refl

  sorted-cons : (c : A) (cs : List A)
      → sorted_by_start start_of (c ∷ cs) ≡ insert_by_start start_of c (sorted_by_start start_of cs)
  unfolding sorted_by_start
  sorted-cons c cs = refl

  sorted-nil : sorted_by_start start_of [] ≡ []
  unfolding sorted_by_start
  sorted-nil = refl

  -- An item more goes before those that tie with it.
  filter-insert : (x c : A) (ds : List A)
      → filter (is_tied x) (insert_by_start start_of c ds) ≡ filter (is_tied x) (c ∷ ds)
  filter-insert x c [] = ap (filter (is_tied x)) (insert-nil c)
  filter-insert x c (d ∷ ds) =
      let p = is_tied x in
      elim (cases_Bool (nat_le (start_of c) (start_of d))) [
        | inl here ↦ ap (filter p) (insert-here c d ds here)
        | inr later ↦
            let below = (le_at (start_of c) (start_of d)).1 later in
            ap (filter p) (insert-later c d ds later)
            ∙ elim (cases_Bool (p d)) [
              | inr without ↦
                  filter-dropped p d (insert_by_start start_of c ds) without ∙ filter-insert x c ds
                  ∙ ap (λ l. cond (p c) (c ∷ l) l) (sym (filter-dropped p d ds without))
              | inl with ↦
                  elim (cases_Bool (p c)) [
                    | inl both ↦ absurd (omega (arith, is_tied-true x c both, is_tied-true x d with))
                    | inr only ↦
                        filter-kept p d (insert_by_start start_of c ds) with
                        ∙ ap (λ l. d ∷ l) (filter-insert x c ds ∙ filter-dropped p c ds only)
                        ∙ sym (filter-dropped p c (d ∷ ds) only ∙ filter-kept p d ds with)
                  ]
            ]
      ]

  filter-sorted : (x : A) (cs : List A)
      → filter (is_tied x) (sorted_by_start start_of cs) ≡ filter (is_tied x) cs
  filter-sorted x [] = ap (filter (is_tied x)) sorted-nil
  filter-sorted x (c ∷ cs) =
      ap (filter (is_tied x)) (sorted-cons c cs) ∙ filter-insert x c (sorted_by_start start_of cs)
      ∙ ap (λ l. cond (is_tied x c) (c ∷ l) l) (filter-sorted x cs)

  -- No item starts before an offset.
  abbrev AreAtLeast : ℕ → List A → Type 0
  AreAtLeast n [] = Unit {0}
  AreAtLeast n (y ∷ ys) = (n ≤ start_of y) × AreAtLeast n ys

  -- No item starts before an item in front of it.
  abbrev Rises : List A → Type 0
  Rises [] = Unit {0}
  Rises (y ∷ ys) = AreAtLeast (start_of y) ys × Rises ys

  AreAtLeast-le : (n m : ℕ) (ys : List A) → n ≤ m → AreAtLeast m ys → AreAtLeast n ys
  AreAtLeast-le n m [] le h = tt
  AreAtLeast-le n m (y ∷ ys) le h = let first = h.0 in (omega arith, AreAtLeast-le n m ys le h.1)

  AreAtLeast-at : (n : ℕ) (ys : List A) (d : A) → ((j : ℕ) → j < length ys
      → n ≤ start_of (get_or ys j d)) → AreAtLeast n ys
  AreAtLeast-at n [] d h = tt
  AreAtLeast-at n (y ∷ ys) d h =
      (h zero (suc-le-suc zero-le), AreAtLeast-at n ys d (λ j lt. h (suc j) (suc-le-suc lt)))

  rises_from_sort : (ys : List A) → IsNonDecreasingBy start_of ys → Rises ys
  rises_from_sort [] h = tt
  rises_from_sort (y ∷ ys) h = (
    AreAtLeast-at (start_of y) ys y (λ j lt. h zero (suc j) y zero-le (suc-le-suc lt)),
    rises_from_sort ys (λ i j d le lt. h (suc i) (suc j) d (suc-le-suc le) (suc-le-suc lt)),
  )

  AreAtLeast-insert : (n : ℕ) (c : A) (ds : List A) → n ≤ start_of c → AreAtLeast n ds
      → AreAtLeast n (insert_by_start start_of c ds)
  AreAtLeast-insert n c [] le h = subst (AreAtLeast n) (sym (insert-nil c)) (le, tt)
  AreAtLeast-insert n c (d ∷ ds) le h =
      elim (cases_Bool (nat_le (start_of c) (start_of d))) [
        | inl here ↦ subst (AreAtLeast n) (sym (insert-here c d ds here)) (le, h)
        | inr later ↦
            subst (AreAtLeast n) (sym (insert-later c d ds later)) (h.0, AreAtLeast-insert n c ds le h.1)
      ]

  rises-insert : (c : A) (ds : List A) → Rises ds → Rises (insert_by_start start_of c ds)
  rises-insert c [] h = subst Rises (sym (insert-nil c)) (tt, tt)
  rises-insert c (d ∷ ds) h =
      elim (cases_Bool (nat_le (start_of c) (start_of d))) [
        | inl here ↦
            let le = (le_at (start_of c) (start_of d)).0 here in
            subst Rises (sym (insert-here c d ds here))
            ((le, AreAtLeast-le (start_of c) (start_of d) ds le h.0), h)
        | inr later ↦
            let lt = (le_at (start_of c) (start_of d)).1 later in
            subst Rises (sym (insert-later c d ds later))
            (AreAtLeast-insert (start_of d) c ds (omega arith) h.0, rises-insert c ds h.1)
      ]

  rises-sorted : (cs : List A) → Rises (sorted_by_start start_of cs)
  rises-sorted [] = subst Rises (sym sorted-nil) tt
  rises-sorted (c ∷ cs) =
      subst Rises (sym (sorted-cons c cs)) (rises-insert c (sorted_by_start start_of cs) (rises-sorted cs))

  -- An item that ties with x is among them.
  AreAtLeast-found : (n : ℕ) (x : A) (ys : List A) (w : A) (ws : List A) → AreAtLeast n ys
      → filter (is_tied x) ys ≡ w ∷ ws → n ≤ start_of x
  AreAtLeast-found n x [] w ws h e = cc
  AreAtLeast-found n x (y ∷ ys) w ws h e =
      elim (cases_Bool (is_tied x y)) [
        | inl with ↦ omega (arith, h.0, is_tied-true x y with)
        | inr without ↦ AreAtLeast-found n x ys w ws h.1 (sym (filter-dropped (is_tied x) y ys without) ∙ e)
      ]

  -- Lists in order of starts are equal if they have the items of each start in one order.
  same_from_ties : (ys zs : List A) → Rises ys → Rises zs → ((x : A)
      → filter (is_tied x) ys ≡ filter (is_tied x) zs) → ys ≡ zs
  same_from_ties [] [] left right same = refl
  same_from_ties [] (z ∷ zs) left right same =
      let clash = same z ∙ filter-kept (is_tied z) z zs (is_tied_from z z refl) in cc
  same_from_ties (y ∷ ys) [] left right same =
      let clash = sym (same y) ∙ filter-kept (is_tied y) y ys (is_tied_from y y refl) in cc
  same_from_ties (y ∷ ys) (z ∷ zs) left right same =
      let at_y = filter-kept (is_tied y) y ys (is_tied_from y y refl) in
      let at_z = filter-kept (is_tied z) z zs (is_tied_from z z refl) in
      let up = AreAtLeast-found (start_of z) y (z ∷ zs) y _ (omega arith, right.0) (sym (same y) ∙ at_y) in
      let down = AreAtLeast-found (start_of y) z (y ∷ ys) z _ (omega arith, left.0) (same z ∙ at_z) in
      let heads = sym at_y ∙ same y ∙ filter-kept (is_tied y) z zs (is_tied_from y z (omega arith)) in
      let head : y ≡ z = cc in
      let tails : (x : A) → filter (is_tied x) ys ≡ filter (is_tied x) zs =
      λ x. elim (cases_Bool (is_tied x y)) [
        | inl with ↦
            let both = sym (filter-kept (is_tied x) y ys with) ∙ same x
            ∙ filter-kept (is_tied x) z zs (ap (is_tied x) (sym head) ∙ with) in
            cc
        | inr without ↦
            sym (filter-dropped (is_tied x) y ys without) ∙ same x
            ∙ filter-dropped (is_tied x) z zs (ap (is_tied x) (sym head) ∙ without)
      ] in
      ap (λ w. w ∷ ys) head ∙ ap (λ l. z ∷ l) (same_from_ties ys zs left.1 right.1 tails)

  -- What a stable sort by starts ensures.
  pub sorted_from_sort : (xs ys : List A) → IsNonDecreasingBy start_of ys
      → IsStableByKey start_of nat_cmp xs ys → ys ≡ sorted_by_start start_of xs
  sorted_from_sort xs ys sorted stable =
      same_from_ties ys (sorted_by_start start_of xs) (rises_from_sort ys sorted) (rises-sorted xs)
      (λ x. stable x ∙ sym (filter-sorted x xs))
