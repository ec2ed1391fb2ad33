-- The relations between two paths, by recursion on both.
use Rattle.std.proofs.Common.{◌≡◌, ℕ, ◌<◌, [], ◌∷◌, ◌++◌, Bool, true, false, ◌⊎◌, inl, inr, ⊎_elim, sym, ap}
use Rattle.std.proofs.Common.{◌∙◌, refl, subst, arith}
use Rattle.std.proofs.lemmas.Bool.{cases_order, false≢true}
use Rattle.deno_graph_source.specs.NodePath.{NodePath, IsStrictPrefix, PartsBelow}

-- q goes on from p
abbrev pub Below : NodePath → NodePath → Type 0
Below [] [] = ⊥
Below [] (n ∷ q) = Unit {0}
Below (m ∷ p) [] = ⊥
Below (m ∷ p) (n ∷ q) = (m ≡ n) × Below p q

-- p and q part at an index that is smaller in p
abbrev pub Apart : NodePath → NodePath → Type 0
Apart [] q = ⊥
Apart (m ∷ p) [] = ⊥
Apart (m ∷ p) (n ∷ q) = (m < n) ⊎ ((m ≡ n) × Apart p q)

pub Below-from_IsStrictPrefix : (p q : NodePath) → IsStrictPrefix p q → Below p q
Below-from_IsStrictPrefix p q g = let P : NodePath → Type 0 = λ r. Below p r in
    subst P (sym g.joined) (on p g.index g.rest)
  where
    on : (p : NodePath) (n : ℕ) (rest : NodePath) → Below p (p ++ (n ∷ rest))
    on [] n rest = tt
    on (m ∷ p) n rest = (refl, on p n rest)

pub IsStrictPrefix-from_Below : (p q : NodePath) → Below p q → IsStrictPrefix p q
IsStrictPrefix-from_Below [] [] b = absurd b
IsStrictPrefix-from_Below [] (n ∷ q) b = record { index = n; rest = q; joined = refl }
IsStrictPrefix-from_Below (m ∷ p) [] b = absurd b
IsStrictPrefix-from_Below (m ∷ p) (n ∷ q) b =
    let g = IsStrictPrefix-from_Below p q b.1 in
    let e = g.joined in
    record { index = g.index; rest = g.rest; joined = ap (λ x. x ∷ q) (sym b.0) ∙ ap (λ r. m ∷ r) e }

pub Apart-from_PartsBelow : (p q : NodePath) → PartsBelow p q → Apart p q
Apart-from_PartsBelow p q h =
    let P : NodePath → Type 0 = λ r. Apart r q in
    let Q : NodePath → Type 0 = λ r. Apart (h.front ++ (h.low ∷ h.after_low)) r in
    subst P (sym h.first_joined)
    (subst Q (sym h.second_joined) (part h.front h.low h.high h.after_low h.after_high h.smaller))
  where
    part : (front : NodePath) (m n : ℕ) (p q : NodePath) → m < n → Apart (front ++ (m ∷ p)) (front ++ (n ∷ q))
    part [] m n p q l = inl l
    part (k ∷ front) m n p q l = inr (refl, part front m n p q l)

pub PartsBelow-from_Apart : (p q : NodePath) → Apart p q → PartsBelow p q
PartsBelow-from_Apart [] q a = absurd a
PartsBelow-from_Apart (m ∷ p) [] a = absurd a
PartsBelow-from_Apart (m ∷ p) (n ∷ q) (inl l) =
    record {
      front = [];
      low = m;
      high = n;
      after_low = p;
      after_high = q;
      first_joined = refl;
      second_joined = refl;
      smaller = l;
    }
PartsBelow-from_Apart (m ∷ p) (n ∷ q) (inr a) =
    let h = PartsBelow-from_Apart p q a.1 in
    record {
      front = m ∷ h.front;
      low = h.low;
      high = h.high;
      after_low = h.after_low;
      after_high = h.after_high;
      first_joined = ap (λ r. m ∷ r) h.first_joined;
      second_joined =
          ap (λ x. x ∷ q) (sym a.0) ∙ ap (λ r. m ∷ r) h.second_joined;
      smaller = h.smaller;
    }

Below-asymmetric : (p q : NodePath) → Below p q → Below q p → ⊥
Below-asymmetric [] [] a b = a
Below-asymmetric [] (n ∷ q) a b = b
Below-asymmetric (m ∷ p) [] a b = a
Below-asymmetric (m ∷ p) (n ∷ q) a b = Below-asymmetric p q a.1 b.1

Apart-asymmetric : (p q : NodePath) → Apart p q → Apart q p → ⊥
Apart-asymmetric [] q a b = a
Apart-asymmetric (m ∷ p) [] a b = a
Apart-asymmetric (m ∷ p) (n ∷ q) (inl a) (inl b) = omega arith
Apart-asymmetric (m ∷ p) (n ∷ q) (inl a) (inr b) = omega (arith, b.0)
Apart-asymmetric (m ∷ p) (n ∷ q) (inr a) (inl b) = omega (arith, a.0)
Apart-asymmetric (m ∷ p) (n ∷ q) (inr a) (inr b) = Apart-asymmetric p q a.1 b.1

Apart-not_below : (p q : NodePath) → Apart p q → Below p q → ⊥
Apart-not_below [] q a b = a
Apart-not_below (m ∷ p) [] a b = a
Apart-not_below (m ∷ p) (n ∷ q) (inl a) b = omega (arith, b.0)
Apart-not_below (m ∷ p) (n ∷ q) (inr a) b = Apart-not_below p q a.1 b.1

Apart-not_above : (p q : NodePath) → Apart p q → Below q p → ⊥
Apart-not_above [] q a b = a
Apart-not_above (m ∷ p) [] a b = a
Apart-not_above (m ∷ p) (n ∷ q) (inl a) b = omega (arith, b.0)
Apart-not_above (m ∷ p) (n ∷ q) (inr a) b = Apart-not_above p q a.1 b.1

-- the ways in which two paths may be related
data Compared (p q : NodePath) : Type 0 where
  same : p ≡ q → Compared p q
  low : Apart p q → Compared p q
  high : Apart q p → Compared p q
  above : Below p q → Compared p q
  under : Below q p → Compared p q

at_same : (m n : ℕ) (p q : NodePath) → m ≡ n → Compared p q → Compared (m ∷ p) (n ∷ q)
at_same m n p q e (same s) = let t : m ∷ p ≡ n ∷ q = cc in same t
at_same m n p q e (low a) = low (inr (e, a))
at_same m n p q e (high a) = high (inr (sym e, a))
at_same m n p q e (above b) = above (e, b)
at_same m n p q e (under b) = under (sym e, b)

compared_more : (m n : ℕ) (p q : NodePath) → Compared p q → (m ≡ n) ⊎ ((m < n) ⊎ (n < m))
    → Compared (m ∷ p) (n ∷ q)
compared_more m n p q c (inl e) = at_same m n p q e c
compared_more m n p q c (inr (inl l)) = low (inl l)
compared_more m n p q c (inr (inr l)) = high (inl l)

compared : (p q : NodePath) → Compared p q
compared [] [] = same refl
compared [] (n ∷ q) = above tt
compared (m ∷ p) [] = under tt
compared (m ∷ p) (n ∷ q) = compared_more m n p q (compared p q) (cases_order m n)

-- The order of paths, where `after` tests whether a path comes after those that go on from it.
pub data Before (after : NodePath → Bool) (p q : NodePath) : Type 0 where
  apart : Apart p q → Before after p q
  outer : Below p q → after p ≡ false → Before after p q
  inner : Below q p → after q ≡ true → Before after p q

-- the order is asymmetric
pub Before-asymmetric : (after : NodePath → Bool) (p q : NodePath) → Before after p q → Before after q p → ⊥
Before-asymmetric after p q (apart a) (apart b) = Apart-asymmetric p q a b
Before-asymmetric after p q (apart a) (outer b f) = Apart-not_above p q a b
Before-asymmetric after p q (apart a) (inner b t) = Apart-not_below p q a b
Before-asymmetric after p q (outer a f) (apart b) = Apart-not_above q p b a
Before-asymmetric after p q (outer a f) (outer b g) = Below-asymmetric p q a b
Before-asymmetric after p q (outer a f) (inner b t) = cc
Before-asymmetric after p q (inner a t) (apart b) = Apart-not_below q p b a
Before-asymmetric after p q (inner a t) (outer b f) = cc
Before-asymmetric after p q (inner a t) (inner b u) = Below-asymmetric p q b a

-- the order is total
pub Before-total : (after : NodePath → Bool) (p q : NodePath)
    → (p ≡ q) ⊎ (Before after p q ⊎ Before after q p)
Before-total after p q = way (compared p q)
  where
    by_front : (b : Bool) → after p ≡ b → Below p q → Before after p q ⊎ Before after q p
    by_front false e b = inl (outer b e)
    by_front true e b = inr (inner b e)

    by_rest : (b : Bool) → after q ≡ b → Below q p → Before after p q ⊎ Before after q p
    by_rest false e b = inr (outer b e)
    by_rest true e b = inl (inner b e)

    way : Compared p q → (p ≡ q) ⊎ (Before after p q ⊎ Before after q p)
    way (same e) = inl e
    way (low a) = inr (inl (apart a))
    way (high a) = inr (inr (apart a))
    way (above b) = inr (by_front (after p) refl b)
    way (under b) = inr (by_rest (after q) refl b)

Below-transitive : (p q r : NodePath) → Below p q → Below q r → Below p r
Below-transitive [] [] r a b = absurd a
Below-transitive [] (n ∷ q) [] a b = absurd b
Below-transitive [] (n ∷ q) (k ∷ r) a b = tt
Below-transitive (m ∷ p) [] r a b = absurd a
Below-transitive (m ∷ p) (n ∷ q) [] a b = absurd b
Below-transitive (m ∷ p) (n ∷ q) (k ∷ r) a b = (a.0 ∙ b.0, Below-transitive p q r a.1 b.1)

Apart-transitive : (p q r : NodePath) → Apart p q → Apart q r → Apart p r
Apart-transitive [] q r a b = absurd a
Apart-transitive (m ∷ p) [] r a b = absurd a
Apart-transitive (m ∷ p) (n ∷ q) [] a b = absurd b
Apart-transitive (m ∷ p) (n ∷ q) (k ∷ r) (inl a) (inl b) = inl (omega arith)
Apart-transitive (m ∷ p) (n ∷ q) (k ∷ r) (inl a) (inr b) = inl (omega (arith, b.0))
Apart-transitive (m ∷ p) (n ∷ q) (k ∷ r) (inr a) (inl b) = inl (omega (arith, a.0))
Apart-transitive (m ∷ p) (n ∷ q) (k ∷ r) (inr a) (inr b) = inr (a.0 ∙ b.0, Apart-transitive p q r a.1 b.1)

-- a path that is apart from another is apart from all that go on from the other
Apart-below : (p q r : NodePath) → Apart p q → Below q r → Apart p r
Apart-below [] q r a b = absurd a
Apart-below (m ∷ p) [] r a b = absurd a
Apart-below (m ∷ p) (n ∷ q) [] a b = absurd b
Apart-below (m ∷ p) (n ∷ q) (k ∷ r) (inl a) b = inl (omega (arith, b.0))
Apart-below (m ∷ p) (n ∷ q) (k ∷ r) (inr a) b = inr (a.0 ∙ b.0, Apart-below p q r a.1 b.1)

Below-apart : (p q r : NodePath) → Below q p → Apart q r → Apart p r
Below-apart p [] r b a = absurd a
Below-apart [] (n ∷ q) r b a = absurd b
Below-apart (m ∷ p) (n ∷ q) [] b a = absurd a
Below-apart (m ∷ p) (n ∷ q) (k ∷ r) b (inl a) = inl (omega (arith, b.0))
Below-apart (m ∷ p) (n ∷ q) (k ∷ r) b (inr a) = inr (sym b.0 ∙ a.0, Below-apart p q r b.1 a.1)

-- a front of the second of two paths that are apart
Apart-front : (p q r : NodePath) → Apart p q → Below r q → Apart p r ⊎ Below r p
Apart-front [] q r a b = absurd a
Apart-front (m ∷ p) [] r a b = absurd a
Apart-front (m ∷ p) (n ∷ q) [] a b = inr tt
Apart-front (m ∷ p) (n ∷ q) (k ∷ r) (inl a) b = inl (inl (omega (arith, b.0)))
Apart-front (m ∷ p) (n ∷ q) (k ∷ r) (inr a) b =
    let e : m ≡ k = a.0 ∙ sym b.0 in
    ⊎_elim (λ h. inl (inr (e, h))) (λ h. inr (sym e, h)) (Apart-front p q r a.1 b.1)

-- a front of the first of two paths that are apart
Front-apart : (p q r : NodePath) → Below p q → Apart q r → Apart p r ⊎ Below p r
Front-apart p [] r b a = absurd a
Front-apart p (n ∷ q) [] b a = absurd a
Front-apart [] (n ∷ q) (k ∷ r) b a = inr tt
Front-apart (m ∷ p) (n ∷ q) (k ∷ r) b (inl a) = inl (inl (omega (arith, b.0)))
Front-apart (m ∷ p) (n ∷ q) (k ∷ r) b (inr a) =
    let e : m ≡ k = b.0 ∙ a.0 in
    ⊎_elim (λ h. inl (inr (e, h))) (λ h. inr (e, h)) (Front-apart p q r b.1 a.1)

-- of two fronts of one path, one goes on from the other
Fronts : (p q r : NodePath) → Below p q → Below r q → (p ≡ r) ⊎ (Below p r ⊎ Below r p)
Fronts [] q [] a b = inl refl
Fronts [] q (k ∷ r) a b = inr (inl tt)
Fronts (m ∷ p) q [] a b = inr (inr tt)
Fronts (m ∷ p) [] (k ∷ r) a b = absurd a
Fronts (m ∷ p) (n ∷ q) (k ∷ r) a b =
    let e : m ≡ k = a.0 ∙ sym b.0 in
    ⊎_elim (λ (s : p ≡ r). let t : m ∷ p ≡ k ∷ r = cc in inl t)
    (λ w. inr (⊎_elim (λ h. inl (e, h)) (λ h. inr (sym e, h)) w))
    (Fronts p q r a.1 b.1)

-- the order is transitive
pub Before-transitive : (after : NodePath → Bool) (p q r : NodePath) → Before after p q → Before after q r
    → Before after p r
Before-transitive after p q r (apart a) (apart b) = apart (Apart-transitive p q r a b)
Before-transitive after p q r (apart a) (outer b f) = apart (Apart-below p q r a b)
Before-transitive after p q r (apart a) (inner b t) =
    ⊎_elim (λ h. apart h) (λ h. inner h t) (Apart-front p q r a b)
Before-transitive after p q r (outer a f) (apart b) =
    ⊎_elim (λ h. apart h) (λ h. outer h f) (Front-apart p q r a b)
Before-transitive after p q r (outer a f) (outer b g) = outer (Below-transitive p q r a b) f
Before-transitive after p q r (outer a f) (inner b t) =
    ⊎_elim (λ (e : p ≡ r). let same : after p ≡ after r = ap after e in
    absurd (false≢true (sym f ∙ (same ∙ t))))
    (λ w. ⊎_elim (λ h. outer h f) (λ h. inner h t) w)
    (Fronts p q r a b)
Before-transitive after p q r (inner a t) (apart b) = apart (Below-apart p q r a b)
Before-transitive after p q r (inner a t) (outer b f) = absurd (false≢true (sym f ∙ t))
Before-transitive after p q r (inner a t) (inner b u) = inner (Below-transitive r q p b a) u

-- two paths below one index are ordered as without it
pub Before-cons : (after : NodePath → Bool) (n : ℕ) (p q : NodePath) → Before (λ r. after (n ∷ r)) p q
    → Before after (n ∷ p) (n ∷ q)
Before-cons after n p q (apart a) = apart (inr (refl, a))
Before-cons after n p q (outer b f) = outer (refl, b) f
Before-cons after n p q (inner b t) = inner (refl, b) t

-- two functions that agree have the same order
pub Before-same : (after again : NodePath → Bool) → ((p : NodePath) → after p ≡ again p) → (p q : NodePath)
    → Before after p q → Before again p q
Before-same after again e p q (apart a) = apart a
Before-same after again e p q (outer b f) = outer b (sym (e p) ∙ f)
Before-same after again e p q (inner b t) = inner b (sym (e q) ∙ t)
