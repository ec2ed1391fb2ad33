-- Concatenated lists, their elements, and the items of a loop.
use Rattle.std.proofs.Common.{◌≡◌, ℕ, zero, suc, ◌+◌, ◌<◌, ◌≤◌, List, [], ◌∷◌, ◌++◌, map, length, take}
use Rattle.std.proofs.Common.{get_or, refl, sym, ap, ◌∙◌, subst, arith}
use Rattle.std.specs.List.{flat_map, Contains, All}
use Rattle.std.proofs.lemmas.List.{take_more, take_all, append-nil}
use Rattle.std.proofs.lemmas.List.Concat.{flat_map-append}
use Rattle.std.proofs.lemmas.List.Elements.{Contains-append_left, Contains-append_right, Contains-get_or}
use Rattle.std.proofs.lemmas.List.Elements.{All-append, All-contains}

pub flat_map-map : {X Y Z : Type 0} (f : Y → List Z) (g : X → Y) (xs : List X)
    → flat_map f (map g xs) ≡ flat_map (λ x. f (g x)) xs
flat_map-map f g [] = refl
flat_map-map f g (x ∷ xs) = ap (λ ys. f (g x) ++ ys) (flat_map-map f g xs)

pub flat_map-flat_map : {X Y Z : Type 0} (f : Y → List Z) (g : X → List Y) (xs : List X)
    → flat_map f (flat_map g xs) ≡ flat_map (λ x. flat_map f (g x)) xs
flat_map-flat_map f g [] = refl
flat_map-flat_map f g (x ∷ xs) =
    flat_map-append f (g x) (flat_map g xs) ∙ ap (λ ys. flat_map f (g x) ++ ys) (flat_map-flat_map f g xs)

pub Contains-cons : {X : Type 0} (y : X) (xs : List X) (x : X) → Contains xs x → Contains (y ∷ xs) x
Contains-cons y xs x h = Contains-append_right (y ∷ []) xs x h

-- an element of one of several lists is an element of their concatenation
pub Contains-flat_map : {X Y : Type 0} (f : X → List Y) (xs : List X) (x : X) (y : Y) → Contains xs x
    → Contains (f x) y → Contains (flat_map f xs) y
Contains-flat_map f [] x y at h = absurd (omega arith)
Contains-flat_map f (z ∷ xs) x y (zero, below, is) h =
    Contains-append_left (f z) (flat_map f xs) y (subst (λ w. Contains (f w) y) (sym is) h)
Contains-flat_map f (z ∷ xs) x y (suc k, below, is) h =
    Contains-append_right (f z) (flat_map f xs) y (Contains-flat_map f xs x y (k, omega arith, is) h)

-- the image of an element is an element of the image of a list
pub Contains-map : {X Y : Type 0} (f : X → Y) (xs : List X) (x : X) → Contains xs x
    → Contains (map f xs) (f x)
Contains-map f [] x at = absurd (omega arith)
Contains-map f (z ∷ xs) x (zero, below, is) = (0, omega arith, ap f is)
Contains-map f (z ∷ xs) x (suc k, below, is) =
    Contains-cons (f z) (map f xs) (f x) (Contains-map f xs x (k, omega arith, is))

-- the element of a list of one element is an element of each list with that element
pub Contains-only : {X : Type 0} (xs : List X) (y x : X) → Contains xs y → Contains (y ∷ []) x → Contains xs x
Contains-only xs y x at (zero, below, is) = subst (λ z. Contains xs z) is at
Contains-only xs y x at (suc k, below, is) = absurd (omega arith)

-- the item of a loop is an element of the list of the loop
pub Contains-item : {X : Type 0} (xs items : List X) (i : ℕ) (x : X) → items ≡ xs → i < length items
    → x ≡ get_or items i x → Contains xs x
Contains-item xs items i x same below is = subst (λ ys. Contains ys x) same (i, below, sym is)

-- a property of all elements of a list, for a list with no other elements
pub All-within : {X : Type 0} (P : X → Type 0) (xs ys : List X) → ((x : X) → Contains ys x → Contains xs x)
    → All P xs → All P ys
All-within P xs ys within all k d below = All-contains P xs _ all (within _ (Contains-get_or ys k d below))

-- a property of the elements of several lists, for their concatenation
pub All-flat_map : {X Y : Type 0} (P : Y → Type 0) (f : X → List Y) (xs : List X)
    → ((x : X) → Contains xs x → All P (f x)) → All P (flat_map f xs)
All-flat_map P f [] all = λ k d below. absurd (omega arith)
All-flat_map P f (x ∷ xs) all =
    All-append P (f x) (flat_map f xs) (all x (0, omega arith, refl))
    (All-flat_map P f xs (λ y at. all y (Contains-cons x xs y at)))

-- a property of the elements so far in a loop over lists, with those of the next list
pub All-flat_map_more : {X Y : Type 0} (P : Y → Type 0) (f : X → List Y) (xs : List X) (i : ℕ) (x : X)
    → i < length xs → x ≡ get_or xs i x → All P (flat_map f (take i xs)) → All P (f x)
    → All P (flat_map f (take (i + 1) xs))
All-flat_map_more P f xs i x below is so_far here =
    rw (take_more xs i x below, ← is, flat_map-append f (take i xs) (x ∷ []), append-nil (f x))
    (All-append P (flat_map f (take i xs)) (f x) so_far here)

-- a property of the elements at the end of a loop over lists
pub All-flat_map_all : {X Y : Type 0} (P : Y → Type 0) (f : X → List Y) (xs items : List X) (i : ℕ)
    → items ≡ xs → length items ≤ i → All P (flat_map f (take i items)) → All P (flat_map f xs)
All-flat_map_all P f xs items i same past all = rw (← same) (rw (take_all i items past) at all)
