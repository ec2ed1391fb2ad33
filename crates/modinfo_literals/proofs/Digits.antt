-- The digits that a text begins with.
use Rattle.std.proofs.Common.{◌≡◌, ℕ, ◌+◌, ◌*◌, ◌<◌, ◌≤◌, ◌⊎◌, true, false, List, [], ◌∷◌, ◌++◌, length, drop}
use Rattle.std.proofs.Common.{zero, suc, refl, sym, ap, ◌∙◌, inl, inr, ⊎_elim, arith, min, ◌-◌, append_assoc}
use Rattle.std.proofs.Common.{length-append}
use Rattle.std.proofs.Math.Nat.{mul-le-mul_left, min-eq_left, min-eq_right}
use Rattle.std.proofs.lemmas.List.Sums.{fold-append}
use Rattle.modinfo_literals.specs.internal.Read.{IsFirstDigit}
use Rattle.std.specs.Char.{digit_value, is_digit}
use Rattle.std.proofs.lemmas.Bool.{cases_Bool, cases_lt}
use Rattle.modinfo_literals.specs.Escape.{AreDigits, begins_with, number}
use Rattle.modinfo_literals.specs.internal.Step.{digits_of}

-- what was read so far: digits, the number that they stand for, and the rest of the text
pub record IsSoFar (base most : ℕ) (text : List ℕ) (value count : ℕ) (rest : List ℕ) : Type 0 where
  pub done : List ℕ
  pub digits : digits_of base most text ≡ done ++ digits_of base (most - count) rest
  pub within : count ≤ most
  pub value_is : value ≡ min (number base done) 0x11_0000
  pub count_is : count ≡ length done
  pub rest_is : text ≡ done ++ rest

module _ (base : ℕ) where
  pub digits_of-first : (most c : ℕ) (text : List ℕ) → is_digit c base ≡ true
      → digits_of base (suc most) (c ∷ text) ≡ c ∷ digits_of base most text
  digits_of-first most c text is = rw is refl

  -- the digits are digits, at the start of the text, as many as there are up to the limit
  pub AreDigits-digits_of : (most : ℕ) (text : List ℕ) → AreDigits base (digits_of base most text)
  AreDigits-digits_of zero text = tt
  AreDigits-digits_of (suc most) [] = tt
  AreDigits-digits_of (suc most) (c ∷ text) =
      ⊎_elim (λ t. rw t (t, AreDigits-digits_of most text)) (λ f. rw f tt) (cases_Bool (is_digit c base))

  pub digits_of-drop : (most : ℕ) (text : List ℕ)
      → text ≡ digits_of base most text ++ drop (length (digits_of base most text)) text
  digits_of-drop zero text = refl
  digits_of-drop (suc most) [] = refl
  digits_of-drop (suc most) (c ∷ text) =
      ⊎_elim (λ t. rw t (ap (λ rest. c ∷ rest) (digits_of-drop most text))) (λ f. rw f refl)
      (cases_Bool (is_digit c base))

  pub length-digits_of : (most : ℕ) (text : List ℕ) → length (digits_of base most text) ≤ most
  length-digits_of zero text = omega arith
  length-digits_of (suc most) [] = omega arith
  length-digits_of (suc most) (c ∷ text) =
      ⊎_elim (λ t. rw t (omega (arith, length-digits_of most text))) (λ f. rw f (omega arith))
      (cases_Bool (is_digit c base))

  pub digits_of-end : (most : ℕ) (text : List ℕ)
      → (length (digits_of base most text) ≡ most)
      ⊎ (begins_with (λ c. is_digit c base) (drop (length (digits_of base most text)) text) ≡ false)
  digits_of-end zero text = inl refl
  digits_of-end (suc most) [] = inr refl
  digits_of-end (suc most) (c ∷ text) =
      ⊎_elim (λ t. rw t (⊎_elim (λ e. inl (ap suc e)) (λ e. inr e) (digits_of-end most text)))
      (λ f. rw f (inr f)) (cases_Bool (is_digit c base))

  -- digits before a text that begins with no digit, or as many digits as the limit
  pub digits_of-append : (most : ℕ) (digits after : List ℕ) → AreDigits base digits → length digits ≤ most
      → (length digits ≡ most) ⊎ (begins_with (λ c. is_digit c base) after ≡ false)
      → digits_of base most (digits ++ after) ≡ digits
  digits_of-append zero [] after are le end = refl
  digits_of-append zero (d ∷ digits) after are le end = absurd (omega arith)
  digits_of-append (suc most) [] [] are le end = refl
  digits_of-append (suc most) [] (c ∷ after) are le end =
      ⊎_elim (λ e. absurd (omega arith)) (λ e. rw e refl) end
  digits_of-append (suc most) (d ∷ digits) after are le end =
      rw are.0 (ap (λ ds. d ∷ ds) (digits_of-append most digits after are.1 (omega arith)
      (⊎_elim (λ e. inl (omega arith)) (λ e. inr e) end)))

pub drop-append : (front back : List ℕ) → drop (length front) (front ++ back) ≡ back
drop-append [] back = refl
drop-append (c ∷ front) back = drop-append front back

-- numbers up to a limit
times_more : (n base : ℕ) → 1 ≤ base → n ≤ n * base
times_more n base h = omega (arith, mul-le-mul_left n h)

min_step : (n base d limit : ℕ) → 1 ≤ base → min (min n limit * base + d) limit ≡ min (n * base + d) limit
min_step n base d limit h =
    ⊎_elim
    (λ (le : n ≤ limit). ap (λ m. min (m * base + d) limit) (min-eq_left le))
    (λ (lt : limit < n).
    let large : limit ≤ n = omega arith in
    let at_limit = min-eq_right (omega (arith, times_more limit base h)) in
    let above = min-eq_right (omega (arith, times_more n base h)) in
    ap (λ m. min (m * base + d) limit) (min-eq_right large) ∙ at_limit ∙ sym above)
    (⊎_elim (λ lt. inr lt) (λ le. inl le) (cases_lt limit n))

-- one more digit is read
pub IsSoFar-more : (base most : ℕ) (text : List ℕ) (value count : ℕ) (rest : List ℕ) → 1 ≤ base
    → 0 < most - count → IsSoFar base most text value count rest → (digit : ℕ) (after : List ℕ)
    → IsFirstDigit base (most - count) rest digit after → (new : ℕ)
    → new ≡ min (value * base + digit) 0x11_0000
    → IsSoFar base most text new (count + 1) after
IsSoFar-more base most text value count rest h more so_far digit after first new is =
    let d = first.digit in
    let left : most - count ≡ suc (most - (count + 1)) = omega arith in
    let next : digits_of base (most - count) rest ≡ d ∷ digits_of base (most - (count + 1)) after =
    (λ i. digits_of base (left i) (first.whole i))
    ∙ digits_of-first base (most - (count + 1)) d after first.is_digit_of in
    record {
      done = so_far.done ++ d ∷ [];
      digits = so_far.digits ∙ ap (λ l. so_far.done ++ l) next
          ∙ sym (append_assoc so_far.done (d ∷ []) _);
      within = omega (arith, so_far.within);
      value_is = is
          ∙ (λ i. min (so_far.value_is i * base + first.value_is i) 0x11_0000)
          ∙ min_step (number base so_far.done) base (digit_value d) 0x11_0000 h
          ∙ ap (λ n. min n 0x11_0000) (sym (fold-append _ 0 so_far.done (d ∷ [])));
      count_is = ap (λ n. n + 1) so_far.count_is ∙ sym (length-append so_far.done (d ∷ []));
      rest_is = so_far.rest_is ∙ ap (λ l. so_far.done ++ l) first.whole
          ∙ sym (append_assoc so_far.done (d ∷ []) after);
    }
