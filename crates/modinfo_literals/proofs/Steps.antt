-- The steps over digits, by what the program reads.
use Rattle.std.proofs.Common.{◌≡◌, ℕ, ◌+◌, ◌*◌, ◌<◌, ◌≤◌, ◌&&◌, ◌||◌, ◌==◌, true, false, Option, None, List}
use Rattle.std.proofs.Common.{[], ◌∷◌, length, drop, min, nat_lt, nat_le, cond, not, suc, zero, refl, sym, ap}
use Rattle.std.proofs.Common.{◌∙◌, arith}
use Rattle.std.specs.Char.{digit_value, is_digit}
use Rattle.std.specs.Str.{chars, IsUtf8}
use Rattle.std.proofs.lemmas.Str.{length-le-encodes, encodes-chars}
use Rattle.std.proofs.Math.Nat.{min-eq_left}
use Rattle.std.proofs.lemmas.Bool.{ltb-true, eq-eqb, ne_eqb, or_left, or_right, or_from, and_left, and_right}
use Rattle.std.proofs.lemmas.Bool.{and_from, cond_both, cond-true, cond-false, lt-ltb, le-leb, le-ltb, lt-leb}
use Rattle.modinfo_literals.specs.Escape.{AreDigits, begins_with, is_line_terminator, number}
use Rattle.modinfo_literals.specs.internal.Step.{Step, stands_for, digits_of, hex_step, close_brace}
use Rattle.modinfo_literals.specs.internal.Step.{braced_step, unicode_step, octal_step, stands_for_nothing}
use Rattle.modinfo_literals.specs.internal.Step.{after_carriage_return, single_escape, common_step}
use Rattle.modinfo_literals.specs.internal.Step.{string_escape_step, template_escape_step, string_step}
use Rattle.modinfo_literals.specs.internal.Step.{template_step}
use Rattle.modinfo_literals.proofs.Digits.{AreDigits-digits_of, length-digits_of}

-- a number of at most four hexadecimal digits, and of at most three octal digits, is a code point
hex_below : (a b c d : ℕ) → a < 16 → b < 16 → c < 16 → d < 16
    → (((0 * 16 + a) * 16 + b) * 16 + c) * 16 + d < 0x11_0000
hex_below a b c d la lb lc ld = omega arith

number_16-below : (digits : List ℕ) → AreDigits 16 digits → length digits ≤ 4 → number 16 digits < 0x11_0000
number_16-below [] are le = omega arith
number_16-below (a ∷ []) are le =
    omega (
      arith,
      hex_below 0 0 0 (digit_value a) (omega arith) (omega arith) (omega arith)
          (ltb-true _ _ are.0),
    )
number_16-below (a ∷ b ∷ []) are le =
    omega (
      arith,
      hex_below 0 0 (digit_value a) (digit_value b) (omega arith) (omega arith) (ltb-true _ _ are.0)
          (ltb-true _ _ are.1.0),
    )
number_16-below (a ∷ b ∷ c ∷ []) are le =
    omega (
      arith,
      hex_below 0 (digit_value a) (digit_value b) (digit_value c) (omega arith) (ltb-true _ _ are.0)
          (ltb-true _ _ are.1.0) (ltb-true _ _ are.1.1.0),
    )
number_16-below (a ∷ b ∷ c ∷ d ∷ []) are le =
    hex_below (digit_value a) (digit_value b) (digit_value c) (digit_value d) (ltb-true _ _ are.0)
    (ltb-true _ _ are.1.0) (ltb-true _ _ are.1.1.0) (ltb-true _ _ are.1.1.1.0)
number_16-below (a ∷ b ∷ c ∷ d ∷ e ∷ digits) are le = absurd (omega arith)

octal_below : (a b c : ℕ) → a < 8 → b < 8 → c < 8 → ((0 * 8 + a) * 8 + b) * 8 + c < 0x11_0000
octal_below a b c la lb lc = omega arith

number_8-below : (digits : List ℕ) → AreDigits 8 digits → length digits ≤ 3 → number 8 digits < 0x11_0000
number_8-below [] are le = omega arith
number_8-below (a ∷ []) are le =
    omega (arith, octal_below 0 0 (digit_value a) (omega arith) (omega arith) (ltb-true _ _ are.0))
number_8-below (a ∷ b ∷ []) are le =
    omega (
      arith,
      octal_below 0 (digit_value a) (digit_value b) (omega arith) (ltb-true _ _ are.0)
          (ltb-true _ _ are.1.0),
    )
number_8-below (a ∷ b ∷ c ∷ []) are le =
    octal_below (digit_value a) (digit_value b) (digit_value c) (ltb-true _ _ are.0) (ltb-true _ _ are.1.0)
    (ltb-true _ _ are.1.1.0)
number_8-below (a ∷ b ∷ c ∷ d ∷ digits) are le = absurd (omega arith)

below_limit : (value n limit : ℕ) → value ≡ min n limit → n < limit → value ≡ n
below_limit value n limit is below = is ∙ min-eq_left (omega arith)

-- exactly `count` hexadecimal digits
module _ (count : ℕ) (le : count ≤ 4) (text : List ℕ) where
  hex_number : number 16 (digits_of 16 count text) < 0x11_0000
  hex_number =
      number_16-below _ (AreDigits-digits_of 16 count text) (omega (arith, length-digits_of 16 count text))

  module _ (value : ℕ) (value_is : value ≡ min (number 16 (digits_of 16 count text)) 0x11_0000) where
    pub hex_value-below : value < 0x11_0000
    hex_value-below = omega (arith, below_limit value _ _ value_is hex_number, hex_number)

    pub hex_step-read : (rest : List ℕ) → length (digits_of 16 count text) ≡ count
        → rest ≡ drop (length (digits_of 16 count text)) text
        → stands_for value rest ≡ hex_step count text
    unfolding hex_step
    hex_step-read rest long rest_is =
        (λ i. stands_for (below_limit value _ _ value_is hex_number i) (rest_is i))
        ∙ sym (cond-true _ _ None (eq-eqb _ _ long))

pub hex_step-none : (count : ℕ) (text : List ℕ) → (length (digits_of 16 count text) ≡ count → ⊥)
    → (let none : Option Step = None in none) ≡ hex_step count text
unfolding hex_step
hex_step-none count text short = sym (cond-false _ _ None (ne_eqb _ _ short))

-- a text has no more characters than bytes
pub length-chars : (text : List ℕ) → IsUtf8 text → length (chars text) ≤ length text
length-chars text utf8 = omega (arith, length-le-encodes (chars text), ap length (encodes-chars text utf8))

-- the digits of a code point, and the closing brace after them
digits_of-all : (base most limit : ℕ) (text : List ℕ) → length text ≤ most → length text ≤ limit
    → digits_of base most text ≡ digits_of base limit text
digits_of-all base zero zero text le more = refl
digits_of-all base zero (suc limit) [] le more = refl
digits_of-all base zero (suc limit) (c ∷ text) le more = absurd (omega arith)
digits_of-all base (suc most) zero [] le more = refl
digits_of-all base (suc most) zero (c ∷ text) le more = absurd (omega arith)
digits_of-all base (suc most) (suc limit) [] le more = refl
digits_of-all base (suc most) (suc limit) (c ∷ text) le more =
    ap (λ ds. cond (is_digit c base) (c ∷ ds) []) (digits_of-all base most limit text (omega arith)
    (omega arith))

braced_step-at : (text ds : List ℕ) → digits_of 16 (length text) text ≡ ds
    → braced_step text
    ≡ cond (nat_lt 0 (length ds) && nat_le (number 16 ds) 0x10_FFFF)
    (close_brace (number 16 ds) (drop (length ds) text)) None
unfolding braced_step
braced_step-at text ds same =
    ap (λ (l : List ℕ). cond (nat_lt 0 (length l) && nat_le (number 16 l) 0x10_FFFF)
    (close_brace (number 16 l) (drop (length l) text)) (let none : Option Step = None in none)) same

close_brace-open : (n : ℕ) (text : List ℕ) → begins_with (λ c. c == 125) text ≡ false
    → close_brace n text ≡ None
close_brace-open n [] open_end = refl
close_brace-open n (c ∷ text) open_end = rw open_end refl

module _ (most : ℕ) (text : List ℕ) (long : length text ≤ most) (value count : ℕ) (rest : List ℕ)
    (value_is : value ≡ min (number 16 (digits_of 16 most text)) 0x11_0000)
    (count_is : count ≡ length (digits_of 16 most text))
    (rest_is : rest ≡ drop (length (digits_of 16 most text)) text) where
  whole : braced_step text
      ≡ cond (nat_lt 0 (length (digits_of 16 most text)) && nat_le (number 16
      (digits_of 16 most text)) 0x10_FFFF)
      (close_brace (number 16 (digits_of 16 most text)) (drop (length (digits_of 16 most text)) text)) None
  whole = braced_step-at text (digits_of 16 most text) (digits_of-all 16 (length text) most text
      (omega arith) long)

  pub braced_step-empty : count ≡ 0 → (let none : Option Step = None in none) ≡ braced_step text
  braced_step-empty empty =
      sym (whole ∙ cond-false _ _ None (and_left _ _ (le-ltb 0 (length (digits_of 16 most text))
      (omega (arith, count_is, empty)))))

  pub braced_step-large : value ≡ 0x11_0000 → (let none : Option Step = None in none) ≡ braced_step text
  braced_step-large large =
      sym (whole ∙ cond-false _ _ None (and_right _ _ (lt-leb (number 16 (digits_of 16 most text)) 0x10_FFFF
      (omega (arith, value_is, large)))))

  module _ (some : count ≡ 0 → ⊥) (small : value ≡ 0x11_0000 → ⊥) where
    below : number 16 (digits_of 16 most text) < 0x11_0000
    below = omega (arith, value_is, small)

    closes : braced_step text
        ≡ close_brace (number 16 (digits_of 16 most text)) (drop (length (digits_of 16 most text)) text)
    closes =
        whole ∙ cond-true _ _ None (and_from _ _ (lt-ltb 0 (length (digits_of 16 most text))
        (omega (arith, count_is, some))) (le-leb (number 16 (digits_of 16 most text)) 0x10_FFFF (omega
        (arith, below))))

    pub braced_step-open : begins_with (λ c. c == 125) rest ≡ false
        → (let none : Option Step = None in none) ≡ braced_step text
    braced_step-open open_end =
        sym (closes ∙ ap (close_brace (number 16 (digits_of 16 most text))) (sym rest_is)
        ∙ close_brace-open _ rest open_end)

    pub braced_step-closed : (after : List ℕ) → rest ≡ 125 ∷ after → stands_for value after ≡ braced_step text
    braced_step-closed after closed =
        sym (closes ∙ ap (close_brace (number 16 (digits_of 16 most text))) (sym rest_is ∙ closed)
        ∙ ap (λ n. stands_for n after) (sym (below_limit value _ _ value_is below)))

-- `u` and its digits
pub unicode_step-braced : (text rest : List ℕ) → text ≡ 123 ∷ rest → unicode_step text ≡ braced_step rest
unfolding unicode_step
unicode_step-braced text rest whole = ap unicode_step whole

pub unicode_step-hex : (text : List ℕ) → begins_with (λ c. c == 123) text ≡ false
    → unicode_step text ≡ hex_step 4 text
unfolding unicode_step hex_step
unicode_step-hex [] other = refl
unicode_step-hex (c ∷ text) other = cond-false _ _ _ other

-- octal digits
octal_most : (first : ℕ) → cond (nat_lt first 52) 3 2 ≤ 3
octal_most first = cond_both (nat_lt first 52) 3 2 (λ most. most ≤ 3) (λ t. omega arith) (λ f. omega arith)

module _ (first most : ℕ) (most_is : most ≡ cond (nat_lt first 52) 3 2) (text : List ℕ) (value : ℕ)
    (value_is : value ≡ min (number 8 (digits_of 8 most text)) 0x11_0000) where
  octal_number : number 8 (digits_of 8 most text) < 0x11_0000
  octal_number =
      number_8-below _ (AreDigits-digits_of 8 most text)
      (omega (arith, length-digits_of 8 most text, most_is, octal_most first))

  pub octal_step-read : (rest after : List ℕ) → text ≡ first ∷ rest
      → after ≡ drop (length (digits_of 8 most text)) text → stands_for value after ≡ octal_step first rest
  unfolding octal_step
  octal_step-read rest after whole after_is =
      (λ i. stands_for (below_limit value _ _ value_is octal_number i) (after_is i))
      ∙ (λ i. let digits = digits_of 8 (most_is i) (whole i) in
      stands_for (number 8 digits) (drop (length digits) (whole i)))

-- escapes that both literals have
module _ (c : ℕ) (rest : List ℕ) where
  pub common_step-hex : c ≡ 120 → common_step c rest ≡ hex_step 2 rest
  unfolding common_step
  common_step-hex same = cond-true _ _ _ (eq-eqb c 120 same)

  pub common_step-unicode : c ≡ 117 → common_step c rest ≡ unicode_step rest
  unfolding common_step
  common_step-unicode same = ap (λ d. common_step d rest) same

  pub common_step-carriage_return : c ≡ 13
      → common_step c rest ≡ stands_for_nothing (after_carriage_return rest)
  unfolding common_step
  common_step-carriage_return same = ap (λ d. common_step d rest) same

  module _ (x : c ≡ 120 → ⊥) (u : c ≡ 117 → ⊥) (r : c ≡ 13 → ⊥) where
    other_step : common_step c rest
        ≡ cond (is_line_terminator c) (stands_for_nothing rest) (stands_for (single_escape c) rest)
    unfolding common_step
    other_step =
        cond-false _ _ _ (ne_eqb c 120 x) ∙ cond-false _ _ _ (ne_eqb c 117 u)
        ∙ cond-false _ _ _ (ne_eqb c 13 r)

    pub common_step-line : is_line_terminator c ≡ true → common_step c rest ≡ stands_for_nothing rest
    common_step-line line = other_step ∙ cond-true _ _ _ line

    pub common_step-other : is_line_terminator c ≡ false
        → common_step c rest ≡ stands_for (single_escape c) rest
    common_step-other line = other_step ∙ cond-false _ _ _ line

-- escapes of a string literal
pub string_escape_step-nil : (text : List ℕ) → text ≡ [] → string_escape_step text ≡ None
unfolding string_escape_step
string_escape_step-nil text empty = ap string_escape_step empty

pub template_escape_step-nil : (text : List ℕ) → text ≡ [] → template_escape_step text ≡ None
unfolding template_escape_step
template_escape_step-nil text empty = ap template_escape_step empty

module _ (text : List ℕ) (c : ℕ) (rest : List ℕ) (whole : text ≡ c ∷ rest) where
  pub string_escape_step-octal : is_digit c 8 ≡ true → string_escape_step text ≡ octal_step c rest
  unfolding string_escape_step
  string_escape_step-octal octal = ap string_escape_step whole ∙ cond-true _ _ _ octal

  pub string_escape_step-decimal : is_digit c 8 ≡ false → is_digit c 10 ≡ true
      → string_escape_step text ≡ stands_for c rest
  unfolding string_escape_step
  string_escape_step-decimal octal decimal =
      ap string_escape_step whole ∙ cond-false _ _ _ octal ∙ cond-true _ _ _ decimal

  pub string_escape_step-other : is_digit c 8 ≡ false → is_digit c 10 ≡ false
      → string_escape_step text ≡ common_step c rest
  unfolding string_escape_step
  string_escape_step-other octal decimal =
      ap string_escape_step whole ∙ cond-false _ _ _ octal ∙ cond-false _ _ _ decimal

  -- escapes of a template
  pub template_escape_step-other : is_digit c 10 ≡ false → template_escape_step text ≡ common_step c rest
  unfolding template_escape_step
  template_escape_step-other decimal = ap template_escape_step whole ∙ cond-false _ _ _ decimal

  pub template_escape_step-digit : is_digit c 10 ≡ true
      → template_escape_step text
      ≡ cond (c == 48 && not (begins_with (λ d. is_digit d 10) rest)) (stands_for 0 rest) None
  unfolding template_escape_step
  template_escape_step-digit decimal = ap template_escape_step whole ∙ cond-true _ _ _ decimal

-- elements of a string literal
pub string_step-nil : (quote : ℕ) (text : List ℕ) → text ≡ [] → string_step quote text ≡ None
unfolding string_step
string_step-nil quote text empty = ap (string_step quote) empty

pub template_step-nil : (text : List ℕ) → text ≡ [] → template_step text ≡ None
unfolding template_step
template_step-nil text empty = ap template_step empty

module _ (text : List ℕ) (c : ℕ) (rest : List ℕ) (whole : text ≡ c ∷ rest) where
  pub string_step-escape : (quote : ℕ) → c ≡ 92 → string_step quote text ≡ string_escape_step rest
  unfolding string_step
  string_step-escape quote same = ap (string_step quote) whole ∙ cond-true _ _ _ (eq-eqb c 92 same)

  module _ (quote : ℕ) (b : c ≡ 92 → ⊥) where
    after_backslash : string_step quote text
        ≡ cond (c == quote || (c == 10 || c == 13)) None (stands_for c rest)
    unfolding string_step
    after_backslash = ap (string_step quote) whole ∙ cond-false _ _ _ (ne_eqb c 92 b)

    pub string_step-quote : c ≡ quote → string_step quote text ≡ None
    string_step-quote same = after_backslash ∙ cond-true _ _ _ (or_left _ _ (eq-eqb c quote same))

    pub string_step-line_feed : c ≡ 10 → string_step quote text ≡ None
    string_step-line_feed same =
        after_backslash ∙ cond-true _ _ _ (or_right (c == quote) _ (or_left _ _ (eq-eqb c 10 same)))

    pub string_step-carriage_return : c ≡ 13 → string_step quote text ≡ None
    string_step-carriage_return same =
        after_backslash ∙ cond-true _ _ _ (or_right (c == quote) _ (or_right (c == 10) _ (eq-eqb c 13 same)))

    pub string_step-character : (c ≡ quote → ⊥) → (c ≡ 10 → ⊥) → (c ≡ 13 → ⊥)
        → string_step quote text ≡ stands_for c rest
    string_step-character q l r =
        after_backslash
        ∙ cond-false _ _ _ (or_from _ _ (ne_eqb c quote q) (or_from _ _ (ne_eqb c 10 l) (ne_eqb c 13 r)))

  -- elements of a template
  pub template_step-escape : c ≡ 92 → template_step text ≡ template_escape_step rest
  unfolding template_step
  template_step-escape same = ap template_step whole ∙ cond-true _ _ _ (eq-eqb c 92 same)

  pub template_step-backtick : c ≡ 96 → template_step text ≡ None
  unfolding template_step
  template_step-backtick same = ap template_step whole ∙ ap (λ d. template_step (d ∷ rest)) same

  pub template_step-dollar : c ≡ 36 → begins_with (λ d. d == 123) rest ≡ true → template_step text ≡ None
  unfolding template_step
  template_step-dollar same brace =
      ap template_step whole ∙ ap (λ d. template_step (d ∷ rest)) same ∙ cond-true _ _ _ brace

  pub template_step-carriage_return : c ≡ 13 → template_step text ≡ stands_for 10 (after_carriage_return rest)
  unfolding template_step
  template_step-carriage_return same = ap template_step whole ∙ ap (λ d. template_step (d ∷ rest)) same

  pub template_step-character : (c ≡ 92 → ⊥) → (c ≡ 96 → ⊥)
      → (c == 36 && begins_with (λ d. d == 123) rest) ≡ false → (c ≡ 13 → ⊥)
      → template_step text ≡ stands_for c rest
  unfolding template_step
  template_step-character b k d r =
      ap template_step whole ∙ cond-false _ _ _ (ne_eqb c 92 b) ∙ cond-false _ _ _ (ne_eqb c 96 k)
      ∙ cond-false _ _ _ d ∙ cond-false _ _ _ (ne_eqb c 13 r)
