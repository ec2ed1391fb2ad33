-- Where `rsplit_once` splits a text.
use Rattle.std.proofs.Common.{◌≡◌, ◌≢◌, ℕ, ◌+◌, ◌-◌, ◌<◌, not, ◌==◌, List, [], length, length-drop, get_or}
use Rattle.std.proofs.Common.{take, drop, Some, None, sym, ap, ◌∙◌, subst, arith}
use Rattle.std.specs.Prelude.{Option, MatchOption, unwrap_or}
use Rattle.std.specs.Borrow.{Bor}
use Rattle.std.specs.List.{before_last, after_last, suffix_len}
use Rattle.std.specs.Str.Pattern.{RFindsChar, SplitsAroundMatch}
use Rattle.std.proofs.lemmas.Bool.{ne_eqb, eq-eqb}
use Rattle.std.proofs.lemmas.List.{get_or-drop}
use Rattle.std.proofs.lemmas.List.Sums.{suffix_len_is}
use Rattle.std.proofs.lemmas.Str.{len_utf8_ascii}
use Rattle.std.proofs.lemmas.Str.Pattern.{NoCharPasses-char}

module _ (c : ℕ) (ascii : c < 128) (bs : List ℕ) where
  -- the parts around the separator at i, if none follows it
  parts_at : (i : ℕ) → i < length bs → get_or bs i 0 ≡ c
      → ((k : ℕ) → i < k → k < length bs → get_or bs k 0 ≢ c)
      → (before_last (λ b. b == c) bs ≡ take i bs) × (after_last (λ b. b == c) bs ≡ drop (i + 1) bs)
  parts_at i inside here after =
      let last : i + 1 - 1 ≡ i = omega arith in
      let count : suffix_len (λ b. not (b == c)) bs ≡ length bs - (i + 1) =
      suffix_len_is (λ b. not (b == c)) bs (i + 1) 0 (omega arith)
      (λ k behind below. ap not (ne_eqb _ c (after k (omega arith) below)))
      (λ _. ap (λ n. not (get_or bs n 0 == c)) last ∙ ap not (eq-eqb _ c here)) in
      let before : length bs - suffix_len (λ b. not (b == c)) bs - 1 ≡ i = omega arith in
      let rest : length bs - suffix_len (λ b. not (b == c)) bs ≡ i + 1 = omega arith in
      (ap (λ n. take n bs) before, ap (λ n. drop n bs) rest)

  -- the parts without a separator
  whole : ((k : ℕ) → k < length bs → get_or bs k 0 ≢ c)
      → (before_last (λ b. b == c) bs ≡ []) × (after_last (λ b. b == c) bs ≡ bs)
  whole none =
      let count : suffix_len (λ b. not (b == c)) bs ≡ length bs - 0 =
      suffix_len_is (λ b. not (b == c)) bs 0 0 (omega arith)
      (λ k _ below. ap not (ne_eqb _ c (none k below))) (λ above. absurd (omega arith)) in
      let before : length bs - suffix_len (λ b. not (b == c)) bs - 1 ≡ 0 = omega arith in
      let rest : length bs - suffix_len (λ b. not (b == c)) bs ≡ 0 = omega arith in
      (ap (λ n. take n bs) before, ap (λ n. drop n bs) rest)

  -- what `rsplit_once` gives, or else an empty text and the whole
  pub split_at_last : (found : Option (Bor (List ℕ) × Bor (List ℕ)))
      (none result : Bor (List ℕ) × Bor (List ℕ))
      → MatchOption found (RFindsChar c bs None) (λ x. SplitsAroundMatch (RFindsChar c) bs x.0.now x.1.now)
      → none.0.now ≡ [] → none.1.now ≡ bs → result ≡ unwrap_or found none
      → (result.0.now ≡ before_last (λ b. b == c) bs) × (result.1.now ≡ after_last (λ b. b == c) bs)
  split_at_last None none result missing empty all is =
      let parts = whole (λ k below. NoCharPasses-char c bs k missing ascii below) in
      (ap (λ x. x.0.now) is ∙ empty ∙ sym parts.0, ap (λ x. x.1.now) is ∙ all ∙ sym parts.1)
  split_at_last (Some x) none result (i, j, found, front, back, _, front_length, back_length) empty all is =
      let next : j ≡ i + 1 = found.1.ends ∙ ap (λ n. i + n) (len_utf8_ascii c ascii) in
      let inside : i < length bs = omega arith in
      let after : (k : ℕ) → i < k → k < length bs → get_or bs k 0 ≢ c =
      λ k behind below.
      let at : j + (k - j) ≡ k = omega arith in
      subst (λ b. b ≢ c) (get_or-drop j bs (k - j) 0 ∙ ap (λ n. get_or bs n 0) at)
      (NoCharPasses-char c (drop j bs) (k - j) found.0 ascii (omega (arith, length-drop j bs))) in
      let parts = parts_at i inside (found.1.byte ascii) after in (
        ap (λ x. x.0.now) is ∙ front ∙ sym parts.0,
        ap (λ x. x.1.now) is ∙ back ∙ ap (λ n. drop n bs) next ∙ sym parts.1,
      )
