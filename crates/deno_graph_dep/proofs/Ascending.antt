-- Ascending lists: membership and order by recursion, and a list is determined by its members.
use Rattle.std.proofs.Common.{◌≡◌, ℕ, zero, suc, ◌<◌, List, [], ◌∷◌, ◌++◌, length, get_or, map, ◌⊎◌, inl, inr}
use Rattle.std.proofs.Common.{⊎_elim, sym, ap, ◌∙◌, refl, subst, arith}
use Rattle.std.specs.Prelude.{Contains, AllPairs, All}
use Rattle.std.proofs.lemmas.List.Kept.{AllPairs-cons}
use Rattle.std.proofs.lemmas.List.Elements.{All-nil, All-cons}

-- x is in the list
abbrev pub Member : {X : Type 0} → List X → X → Type 0
Member [] x = ⊥
Member (y ∷ ys) x = (y ≡ x) ⊎ Member ys x

-- each member is in the relation R to each later one
abbrev pub Ascending : {X : Type 0} → (X → X → Type 0) → List X → Type 0
Ascending R [] = Unit {0}
Ascending R (x ∷ xs) = ((y : _) → Member xs y → R x y) × Ascending R xs

pub Member-append : {X : Type 0} (xs ys : List X) (x : X) → Member (xs ++ ys) x → Member xs x ⊎ Member ys x
Member-append [] ys x m = inr m
Member-append (z ∷ xs) ys x (inl e) = inl (inl e)
Member-append (z ∷ xs) ys x (inr m) = ⊎_elim (λ h. inl (inr h)) (λ h. inr h) (Member-append xs ys x m)

pub Member-left : {X : Type 0} (xs ys : List X) (x : X) → Member xs x → Member (xs ++ ys) x
Member-left [] ys x m = absurd m
Member-left (z ∷ xs) ys x (inl e) = inl e
Member-left (z ∷ xs) ys x (inr m) = inr (Member-left xs ys x m)

pub Member-right : {X : Type 0} (xs ys : List X) (x : X) → Member ys x → Member (xs ++ ys) x
Member-right [] ys x m = m
Member-right (z ∷ xs) ys x m = inr (Member-right xs ys x m)

pub Member-map : {X Y : Type 0} (f : X → Y) (xs : List X) (y : Y) → Member (map f xs) y
    → (x : X) × Member xs x × (f x ≡ y)
Member-map f [] y m = absurd m
Member-map f (x ∷ xs) y (inl e) = (x, inl refl, e)
Member-map f (x ∷ xs) y (inr m) = let r = Member-map f xs y m in (r.0, inr r.1, r.2)

pub Member-mapped : {X Y : Type 0} (f : X → Y) (xs : List X) (x : X) → Member xs x → Member (map f xs) (f x)
Member-mapped f [] x m = absurd m
Member-mapped f (z ∷ xs) x (inl e) = inl (ap f e)
Member-mapped f (z ∷ xs) x (inr m) = inr (Member-mapped f xs x m)

-- membership by recursion is that of the contracts
pub Contains-from_Member : {X : Type 0} (xs : List X) (x : X) → Member xs x → Contains xs x
Contains-from_Member [] x m = absurd m
Contains-from_Member (y ∷ ys) x (inl e) = (0, omega arith, e)
Contains-from_Member (y ∷ ys) x (inr m) = let c = Contains-from_Member ys x m in (suc c.0, omega arith, c.2)

pub Member-from_Contains : {X : Type 0} (xs : List X) (x : X) → Contains xs x → Member xs x
Member-from_Contains xs x c = at xs c.0 x c.1 c.2
  where
    at : {X : Type 0} (xs : List X) (k : ℕ) (x : X) → k < length xs → get_or xs k x ≡ x → Member xs x
    at [] k x h e = absurd (omega arith)
    at (y ∷ ys) zero x h e = inl e
    at (y ∷ ys) (suc k) x h e = inr (at ys k x (omega arith) e)

-- order by recursion is that of the contracts
pub AllPairs-from_Ascending : {X : Type 0} (R : X → X → Type 0) (xs : List X) → Ascending R xs → AllPairs R xs
AllPairs-from_Ascending R [] a = λ i j d h k. absurd (omega arith)
AllPairs-from_Ascending R (x ∷ xs) a = AllPairs-cons R x xs (all xs (a.0)) (AllPairs-from_Ascending R xs a.1)
  where
    all : (ys : List _) → ((y : _) → Member ys y → R x y) → All (R x) ys
    all [] h = All-nil (R x)
    all (y ∷ ys) h = All-cons (R x) y ys (h y (inl refl)) (all ys (λ z m. h z (inr m)))

pub Ascending-from_AllPairs : {X : Type 0} (R : X → X → Type 0) (xs : List X) → AllPairs R xs → Ascending R xs
Ascending-from_AllPairs R [] a = tt
Ascending-from_AllPairs {X} R (x ∷ xs) a = (
  λ y m. let c = Contains-from_Member xs y m in let P : X → Type 0 = λ z. R x z in
      subst P c.2 (a 0 (suc c.0) y (omega arith) (omega arith)),
  Ascending-from_AllPairs R xs (λ i j d h k. a (suc i) (suc j) d (omega arith) (omega arith)),
)

pub Ascending-append : {X : Type 0} (R : X → X → Type 0) (xs ys : List X) → Ascending R xs → Ascending R ys
    → ((x y : X) → Member xs x → Member ys y → R x y) → Ascending R (xs ++ ys)
Ascending-append R [] ys a b h = b
Ascending-append R (x ∷ xs) ys a b h = (
  λ y m. ⊎_elim (a.0 y) (h x y (inl refl)) (Member-append xs ys y m),
  Ascending-append R xs ys a.1 b (λ z y m n. h z y (inr m) n),
)

pub Ascending-map : {X Y : Type 0} (R : X → X → Type 0) (S : Y → Y → Type 0) (f : X → Y)
    → ((x y : X) → R x y → S (f x) (f y)) → (xs : List X) → Ascending R xs → Ascending S (map f xs)
Ascending-map R S f h [] a = tt
Ascending-map {X} {Y} R S f h (x ∷ xs) a = (
  λ y m. let r = Member-map f xs y m in let P : Y → Type 0 = λ z. S (f x) z in
      subst P r.2 (h x r.0 (a.0 r.0 r.1)),
  Ascending-map R S f h xs a.1,
)

pub Ascending-weaker : {X : Type 0} (R S : X → X → Type 0) → ((x y : X) → R x y → S x y) → (xs : List X)
    → Ascending R xs → Ascending S xs
Ascending-weaker R S h [] a = tt
Ascending-weaker R S h (x ∷ xs) a = (λ y m. h x y (a.0 y m), Ascending-weaker R S h xs a.1)

-- two ascending lists with the same members are equal, where no two are in R both ways
pub Ascending-unique : {X : Type 0} (R : X → X → Type 0) → ((x y : X) → R x y → R y x → ⊥) → (xs ys : List X)
    → Ascending R xs → Ascending R ys → ((x : X) → Member xs x → Member ys x)
    → ((x : X) → Member ys x → Member xs x) → xs ≡ ys
Ascending-unique R asym [] [] a b f g = refl
Ascending-unique R asym [] (y ∷ ys) a b f g = absurd (g y (inl refl))
Ascending-unique R asym (x ∷ xs) [] a b f g = absurd (f x (inl refl))
Ascending-unique {X} R asym (x ∷ xs) (y ∷ ys) a b f g =
    let same : x ≡ y = ⊎_elim (λ (e : y ≡ x). sym e)
    (λ (m : Member ys x). ⊎_elim (λ (e : x ≡ y). e)
    (λ (n : Member xs y). absurd (asym x y (a.0 y n) (b.0 x m))) (g y (inl refl))) (f x (inl refl)) in
    let P : X → Type 0 = λ z. (w : X) → Member ys w → R z w in
    let after_x : (w : X) → Member ys w → R x w = subst P (sym same) b.0 in
    let tails : xs ≡ ys = Ascending-unique R asym xs ys a.1 b.1
    (λ z m. ⊎_elim (λ (e : y ≡ z). let Q : X → Type 0 = λ w. R x w in
    let r : R x x = subst Q (sym (same ∙ e)) (a.0 z m) in absurd (asym x x r r)) (λ n. n) (f z (inr m)))
    (λ z m. ⊎_elim (λ (e : x ≡ z). let Q : X → Type 0 = λ w. R x w in
    let r : R x x = subst Q (sym e) (after_x z m) in absurd (asym x x r r)) (λ n. n) (g z (inr m))) in
    cc
