-- The characters that fold to the same character as an ASCII character.
use Rattle.std.proofs.Common.{◌≡◌, ◌↔◌, ℕ, ◌<◌, ◌≤◌, Bool, true, false, ◌||◌, ◌==◌, List, [], ◌∷◌}
use Rattle.std.proofs.Common.{slice_index_or, refl, sym, ◌∙◌, arith, inl, inr, nat_lt, nat_le, eqb-true}
use Rattle.std.proofs.Common.{eq-eqb}
use Rattle.std.proofs.lemmas.Bool.{both_ways, cases_Bool, cases_lt, le-ltb, leb-true, ne_eqb, or_from}
use Rattle.std.proofs.lemmas.Bool.Decides.{nat_tests}
use Rattle.std.proofs.lemmas.Str.Ascii.{lowercase_ascii}
use Rattle.std.specs.Bool.{IsTrue}
use Rattle.std.specs.Char.{eq_ignore_ascii_case, to_ascii_lowercase}
use Rattle.unicode.proofs.CaseComputing.{ucd_case}
use Rattle.unicode.proofs.CaseFoldingLemmas.{simple_fold-ascii, simple_folding_stepped}
use Rattle.unicode.proofs.RangedFacts.{Stepped-at_points, points_ok}
use Rattle.unicode.specs.CaseFolding.{simple_folding, simple_fold}

-- the folding isn't in the table, or begins with a character that isn't ASCII
abbrev is_high : List ℕ → Bool
is_high [] = true
is_high (c ∷ cs) = nat_le 128 c

-- the characters of ASCII, U+017F and U+212A
folds_low : ℕ → Bool
folds_low c = nat_lt c 128 || ((c == 383) || (c == 8490))

folds_low-true : (c : ℕ) → is_high (simple_folding c) ≡ false → folds_low c ≡ true
unfolding ucd_case points_ok folds_low
folds_low-true c low =
    Stepped-at_points simple_folding simple_folding_stepped is_high (λ x _. folds_low x) refl c low

folds_low-false : (c : ℕ) → 128 ≤ c → ¬ (c ≡ 383) → ¬ (c ≡ 8490) → folds_low c ≡ false
unfolding folds_low
folds_low-false c far other another =
    or_from _ _ (le-ltb c 128 far) (or_from _ _ (ne_eqb c 383 other) (ne_eqb c 8490 another))

from_high : (c : ℕ) (folding : List ℕ) → 128 ≤ c → is_high folding ≡ true → 128 ≤ slice_index_or folding 0 c
from_high c [] far high = far
from_high c (d ∷ ds) far high = leb-true 128 d high

simple_fold-far : (c : ℕ) → 128 ≤ c → ¬ (c ≡ 383) → ¬ (c ≡ 8490) → 128 ≤ simple_fold c
simple_fold-far c far other another = elim (cases_Bool (is_high (simple_folding c))) [
  | inl high ↦ from_high c (simple_folding c) far high
  | inr low ↦ absurd (both_ways _ (folds_low-false c far other another) (folds_low-true c low))
]

simple_fold-long_s : simple_fold 383 ≡ 115
unfolding ucd_case
simple_fold-long_s = refl

simple_fold-kelvin : simple_fold 8490 ≡ 107
unfolding ucd_case
simple_fold-kelvin = refl

-- only ASCII characters and these two fold as an ASCII character does
pub same_fold-other : (c letter : ℕ) → letter < 128 → ¬ (c ≡ 383) → ¬ (c ≡ 8490)
    → IsTrue (eq_ignore_ascii_case c letter) ↔ (simple_fold c ≡ simple_fold letter)
same_fold-other c letter ascii other another = elim (cases_lt c 128) [
  | inl near ↦ (
    λ same. simple_fold-ascii c near ∙ eqb-true _ _ same ∙ sym (simple_fold-ascii letter ascii),
    λ same. eq-eqb _ _ (sym (simple_fold-ascii c near) ∙ same ∙ simple_fold-ascii letter ascii),
  )
  | inr far ↦
      let small = lowercase_ascii letter ascii in
      let folded = simple_fold-far c far other another in
      let folds = simple_fold-ascii letter ascii in
      (λ same. absurd (grind (arith, nat_tests)), λ same. absurd (omega (arith, same, folds)))
]

-- a character that folds to an ASCII letter in lower case
same_fold-to : (c to letter : ℕ) → letter < 128 → to_ascii_lowercase to ≡ to → simple_fold c ≡ to
    → IsTrue (eq_ignore_ascii_case letter to) ↔ (simple_fold c ≡ simple_fold letter)
same_fold-to c to letter ascii lower folds = (
  λ same. folds ∙ sym lower ∙ sym (eqb-true _ _ same) ∙ sym (simple_fold-ascii letter ascii),
  λ same. eq-eqb _ _ (sym (simple_fold-ascii letter ascii) ∙ sym same ∙ folds ∙ sym lower),
)

pub same_fold-long_s : (letter : ℕ) → letter < 128 → IsTrue (eq_ignore_ascii_case letter 115)
    ↔ (simple_fold 383 ≡ simple_fold letter)
same_fold-long_s letter ascii = same_fold-to 383 115 letter ascii refl simple_fold-long_s

pub same_fold-kelvin : (letter : ℕ) → letter < 128 → IsTrue (eq_ignore_ascii_case letter 107)
    ↔ (simple_fold 8490 ≡ simple_fold letter)
same_fold-kelvin letter ascii = same_fold-to 8490 107 letter ascii refl simple_fold-kelvin
