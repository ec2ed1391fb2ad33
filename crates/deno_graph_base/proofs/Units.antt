-- The code points of UTF-16 units: no high surrogate is directly before a low one, and each code
-- point is a character or a surrogate.
use Rattle.std.proofs.Common.{◌≡◌, ℕ, ◌+◌, ◌-◌, ◌/◌, ◌%◌, ◌<◌, ◌≤◌, true, false, ◌&&◌, List, [], ◌∷◌, ◌++◌}
use Rattle.std.proofs.Common.{map, length, get_or, encode_utf8, if◌then◌else◌, refl, sym, ap, ◌∙◌, subst}
use Rattle.std.proofs.Common.{⊎_elim, suc, zero, arith, append_assoc, append-nil, length-append}
use Rattle.std.specs.Char.{IsScalar, len_utf8}
use Rattle.std.specs.Char.Utf16.{is_high_surrogate, is_low_surrogate, surrogate_pair_char}
use Rattle.std.specs.Char.Escape.{encode_utf16}
use Rattle.std.specs.List.{flat_map}
use Rattle.std.specs.Str.{all_scalars}
use Rattle.std.proofs.lemmas.Bool.{and_parts, and_from, and_cases, leb-true, leb-false, ltb-true, ltb-false}
use Rattle.std.proofs.lemmas.Bool.{le-leb, lt-ltb, le-ltb, false≢true, cases_Bool}
use Rattle.std.proofs.lemmas.List.{nil_from_length}
use Rattle.std.proofs.lemmas.Str.{length-encode}
use Rattle.deno_graph_base.specs.JsString.{is_surrogate, lossy_char, lossy_text, IsPaired, points_of_units}
use Rattle.deno_graph_base.specs.internal.StoredString.{lone_from}
use Rattle.deno_graph_base.proofs.LossyText.{IsPaired-readable}

-- the code point of the first units
pub points_of_units-nil : points_of_units [] ≡ []
unfolding points_of_units
points_of_units-nil = refl

pub points_of_units-last : (u : ℕ) → points_of_units (u ∷ []) ≡ u ∷ points_of_units []
unfolding points_of_units
points_of_units-last u = refl

pub points_of_units-pair : (u v : ℕ) (units : List ℕ) → is_high_surrogate u ≡ true → is_low_surrogate v ≡ true
    → points_of_units (u ∷ v ∷ units) ≡ surrogate_pair_char u v ∷ points_of_units units
unfolding points_of_units
points_of_units-pair u v units high low = rw (high, low) refl

pub points_of_units-alone : (u v : ℕ) (units : List ℕ) → (is_high_surrogate u && is_low_surrogate v) ≡ false
    → points_of_units (u ∷ v ∷ units) ≡ u ∷ points_of_units (v ∷ units)
unfolding points_of_units
points_of_units-alone u v units apart = rw apart refl

-- the code point of the first units, which are read by index
pub first_last : (units rest : List ℕ) (u high : ℕ) → high ≡ u → units ≡ u ∷ rest → length rest ≡ 0
    → points_of_units units ≡ high ∷ points_of_units rest
first_last units rest u high same first none =
    let end = nil_from_length rest none in
    ap points_of_units (first ∙ ap (λ l. u ∷ l) end) ∙ points_of_units-last u
    ∙ (λ i. sym same i ∷ points_of_units (sym end i))

module _ (units rest after : List ℕ) (u v high low : ℕ) (same_high : high ≡ u) (same_low : low ≡ v)
    (first : units ≡ u ∷ rest) (second : rest ≡ v ∷ after) where
  pub first_pair : is_high_surrogate high ≡ true → is_low_surrogate low ≡ true
      → points_of_units units ≡ surrogate_pair_char high low ∷ points_of_units after
  first_pair is_high is_low =
      ap points_of_units (first ∙ (λ i. sym same_high i ∷ second i)
      ∙ ap (λ l. high ∷ l ∷ after) (sym same_low))
      ∙ points_of_units-pair high low after is_high is_low

  pub first_alone : (is_high_surrogate high && is_low_surrogate low) ≡ false → points_of_units units ≡ high
      ∷ points_of_units rest
  first_alone apart =
      ap points_of_units (first ∙ (λ i. sym same_high i ∷ second i)
      ∙ ap (λ l. high ∷ l ∷ after) (sym same_low))
      ∙ points_of_units-alone high low after apart
      ∙ ap (λ l. high ∷ points_of_units l) (ap (λ l. l ∷ after) same_low ∙ sym second)

-- a code point of two surrogates is no surrogate
high_bounds : (u : ℕ) → is_high_surrogate u ≡ true → (0xD800 ≤ u) × (u < 0xDC00)
high_bounds u h = let both = and_parts _ _ h in (leb-true 0xD800 u both.0, ltb-true u 0xDC00 both.1)

low_bounds : (v : ℕ) → is_low_surrogate v ≡ true → (0xDC00 ≤ v) × (v < 0xE000)
low_bounds v h = let both = and_parts _ _ h in (leb-true 0xDC00 v both.0, ltb-true v 0xE000 both.1)

pair_not_high : (u v : ℕ) → is_high_surrogate (surrogate_pair_char u v) ≡ true → ⊥
pair_not_high u v h = omega (arith, high_bounds (surrogate_pair_char u v) h)

pair_not_low : (u v : ℕ) → is_low_surrogate (surrogate_pair_char u v) ≡ true → ⊥
pair_not_low u v h = omega (arith, low_bounds (surrogate_pair_char u v) h)

-- no high surrogate is directly before a low one
IsPaired-cons : (p : ℕ) (ps : List ℕ)
    → (is_high_surrogate p ≡ true → is_low_surrogate (get_or ps 0 0) ≡ true → ⊥) → IsPaired ps
    → IsPaired (p ∷ ps)
IsPaired-cons p ps first rest zero high low = first high low
IsPaired-cons p ps first rest (suc k) high low =
    let next : suc k + 1 ≡ suc (k + 1) = omega arith in
    let after = rw next at low in
    rest k high after

IsPaired-nil : IsPaired []
IsPaired-nil = IsPaired-readable [] (λ k d h. absurd (omega arith))

first_low : (units : List ℕ) → is_low_surrogate (get_or (points_of_units units) 0 0) ≡ true
    → is_low_surrogate (get_or units 0 0) ≡ true
first_low [] low = let h = rw points_of_units-nil at low in h
first_low (u ∷ []) low = let h = rw (points_of_units-last u) at low in h
first_low (u ∷ v ∷ units) low =
    ⊎_elim (λ pair.
    let both = and_parts _ _ pair in
    let h = rw (points_of_units-pair u v units both.0 both.1) at low in
    absurd (pair_not_low u v h))
    (λ apart. let h = rw (points_of_units-alone u v units apart) at low in h)
    (cases_Bool (is_high_surrogate u && is_low_surrogate v))

pub IsPaired-points_of_units : (units : List ℕ) → IsPaired (points_of_units units)
IsPaired-points_of_units [] = rw points_of_units-nil IsPaired-nil
IsPaired-points_of_units (u ∷ []) =
    subst IsPaired (sym (points_of_units-last u ∙ ap (λ l. u ∷ l) points_of_units-nil))
    (IsPaired-cons u [] (λ high low. false≢true low) IsPaired-nil)
IsPaired-points_of_units (u ∷ v ∷ units) =
    ⊎_elim (λ pair.
    let both = and_parts _ _ pair in
    subst IsPaired (sym (points_of_units-pair u v units both.0 both.1))
    (IsPaired-cons _ _ (λ high low. pair_not_high u v high) (IsPaired-points_of_units units)))
    (λ apart.
    subst IsPaired (sym (points_of_units-alone u v units apart))
    (IsPaired-cons u (points_of_units (v ∷ units)) (λ high low.
    false≢true (sym apart ∙ and_from _ _ high (first_low (v ∷ units) low)))
    (IsPaired-points_of_units (v ∷ units))))
    (cases_Bool (is_high_surrogate u && is_low_surrogate v))

-- each code point is a character or a surrogate
IsScalar-lossy_char : (p : ℕ) → p < 0x11_0000 → IsScalar (lossy_char p)
IsScalar-lossy_char p h =
    ⊎_elim (λ t. rw t refl)
    (λ f. rw f (⊎_elim (λ low. rw (lt-ltb p 0xD800 (leb-false 0xD800 p low)) refl)
    (λ high. let above : 0xE000 ≤ p =
    ltb-false p 0xE000 high in
    rw (le-ltb p 0xD800 (omega arith), le-leb 0xE000 p above, lt-ltb p 0x11_0000 h) refl)
    (and_cases _ _ f))) (cases_Bool (is_surrogate p))

pub all_scalars-points_of_units : (units : List ℕ) → ((i : ℕ) → get_or units i 0 < 0x1_0000)
    → all_scalars (map lossy_char (points_of_units units)) ≡ true
all_scalars-points_of_units [] fits = rw points_of_units-nil refl
all_scalars-points_of_units (u ∷ []) fits =
    rw (points_of_units-last u, points_of_units-nil)
    (and_from _ _ (IsScalar-lossy_char u (omega (arith, fits 0))) refl)
all_scalars-points_of_units (u ∷ v ∷ units) fits =
    ⊎_elim (λ pair.
    let both = and_parts _ _ pair in
    rw (points_of_units-pair u v units both.0 both.1)
    (and_from _ _ (IsScalar-lossy_char (surrogate_pair_char u v)
    (omega (arith, high_bounds u both.0, low_bounds v both.1)))
    (all_scalars-points_of_units units (λ i. fits (suc (suc i))))))
    (λ apart.
    rw (points_of_units-alone u v units apart)
    (and_from _ _ (IsScalar-lossy_char u (omega (arith, fits 0)))
    (all_scalars-points_of_units (v ∷ units) (λ i. fits (suc i)))))
    (cases_Bool (is_high_surrogate u && is_low_surrogate v))

-- the code points as UTF-16 units are the units that they were read from
pub encode_utf16-alone : (u : ℕ) → u < 0x1_0000 → encode_utf16 u ≡ u ∷ []
encode_utf16-alone u h = rw (lt-ltb u 0x1_0000 h) refl

encode_utf16-pair : (u v : ℕ) → is_high_surrogate u ≡ true → is_low_surrogate v ≡ true
    → encode_utf16 (surrogate_pair_char u v) ≡ u ∷ v ∷ []
encode_utf16-pair u v high low =
    let us = high_bounds u high in
    let vs = low_bounds v low in
    let c = surrogate_pair_char u v in
    let first : 0xD800 + (c - 0x1_0000) / 0x400 ≡ u = omega arith in
    let second : 0xDC00 + (c - 0x1_0000) % 0x400 ≡ v = omega arith in
    rw (le-ltb c 0x1_0000 (omega arith)) (λ i. first i ∷ second i ∷ [])

pub flat_map-points_of_units : (units : List ℕ) → ((i : ℕ) → get_or units i 0 < 0x1_0000)
    → flat_map encode_utf16 (points_of_units units) ≡ units
flat_map-points_of_units [] fits = rw points_of_units-nil refl
flat_map-points_of_units (u ∷ []) fits =
    rw (points_of_units-last u, points_of_units-nil) (ap (λ l. l ++ []) (encode_utf16-alone u (fits 0)))
flat_map-points_of_units (u ∷ v ∷ units) fits =
    ⊎_elim (λ pair.
    let both = and_parts _ _ pair in
    ap (flat_map encode_utf16) (points_of_units-pair u v units both.0 both.1)
    ∙ ap (λ l. l ++ flat_map encode_utf16 (points_of_units units)) (encode_utf16-pair u v both.0 both.1)
    ∙ ap (λ l. u ∷ v ∷ l) (flat_map-points_of_units units (λ i. fits (suc (suc i)))))
    (λ apart.
    ap (flat_map encode_utf16) (points_of_units-alone u v units apart)
    ∙ ap (λ l. l ++ flat_map encode_utf16 (points_of_units (v ∷ units))) (encode_utf16-alone u (fits 0))
    ∙ ap (λ l. u ∷ l) (flat_map-points_of_units (v ∷ units) (λ i. fits (suc i))))
    (cases_Bool (is_high_surrogate u && is_low_surrogate v))

-- a stored string with one more code point
module _ (points more : List ℕ) (p : ℕ) (first : points ≡ p ∷ more) (text new : List ℕ)
    (adds : new ≡ text ++ encode_utf8 (lossy_char p)) where
  pub text_pushed : (all : List ℕ) → text ++ lossy_text points ≡ all → new ++ lossy_text more ≡ all
  text_pushed all so_far =
      ap (λ l. l ++ lossy_text more) adds ∙ append_assoc text (encode_utf8 (lossy_char p)) (lossy_text more)
      ∙ ap (λ l. text ++ lossy_text l) (sym first) ∙ so_far

  pub lone_pushed : (lone made all : List (ℕ × ℕ)) → made ≡ lone
      ++ (if is_surrogate p then (length text, p) ∷ [] else [])
      → lone ++ lone_from (length text) points ≡ all → made ++ lone_from (length new) more ≡ all
  lone_pushed lone made all adds_lone so_far =
      let long : length new ≡ length text + len_utf8 (lossy_char p) =
      ap length adds ∙ length-append text _ ∙ ap (λ n. length text + n) (length-encode (lossy_char p)) in
      (λ i. adds_lone i ++ lone_from (long i) more)
      ∙ append_assoc lone _ _
      ∙ ap (λ l. lone ++ lone_from (length text) l) (sym first) ∙ so_far

-- a stored string of all units
pub text_whole : (text all : List ℕ) → text ++ lossy_text (points_of_units []) ≡ all → text ≡ all
text_whole text all so_far =
    sym (append-nil text) ∙ ap (λ l. text ++ lossy_text l) (sym points_of_units-nil) ∙ so_far

pub lone_whole : (at : ℕ) (lone all : List (ℕ × ℕ)) → lone ++ lone_from at (points_of_units []) ≡ all
    → lone ≡ all
lone_whole at lone all so_far =
    sym (append-nil lone) ∙ ap (λ l. lone ++ lone_from at l) (sym points_of_units-nil) ∙ so_far
