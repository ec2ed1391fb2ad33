-- A string literal without escapes spells the text between its quotes.
use Rattle.std.proofs.Common.{◌≡◌, ℕ, ◌+◌, ◌-◌, ◌/◌, ◌%◌, ◌<◌, ◌≤◌, ◌⊎◌, true, false, Bool, Some, List, []}
use Rattle.std.proofs.Common.{◌∷◌, ◌++◌, map, encode_utf8, encode_utf8_all, suc, zero, refl, sym, ap, ◌∙◌}
use Rattle.std.proofs.Common.{subst, ⊎_elim, arith}
use Rattle.std.specs.Char.{IsScalar}
use Rattle.std.specs.Char.Utf16.{is_high_surrogate, is_low_surrogate, surrogate_pair_char}
use Rattle.std.specs.Char.Escape.{encode_utf16}
use Rattle.std.specs.List.{flat_map, list_any}
use Rattle.std.specs.Str.{chars, IsUtf8, IsAscii, all_scalars}
use Rattle.std.proofs.lemmas.Bool.{and_parts, and_from, and_left, and_right, or_from, or_parts, cases_lt}
use Rattle.std.proofs.lemmas.Bool.{cond-true, cond-false, lt-ltb, le-ltb, lt-leb, le-leb, ne_eqb}
use Rattle.std.proofs.lemmas.Str.{chars-append, chars-IsAscii, encode_ascii, encodes-chars, scalars-chars}
use Rattle.std.proofs.Math.Utf8.{scalar_cases}
use Rattle.deno_graph_base.specs.JsString.{points_of_units}
use Rattle.deno_graph_base.proofs.Units.{points_of_units-nil, points_of_units-last, points_of_units-pair}
use Rattle.deno_graph_base.proofs.Units.{points_of_units-alone}
use Rattle.modinfo_literals.specs.Literal.{Consists, IsStringElement, Spells, string_of, units_of}
use Rattle.modinfo_literals.specs.Literal.IsStringElement.{character}
use Rattle.modinfo_literals.specs.internal.Plain.{is_special_byte}

-- the code points of characters' units are the characters
not_high : (c : ℕ) → IsScalar c → is_high_surrogate c ≡ false
not_high c scalar =
    ⊎_elim (λ low. and_left _ _ (lt-leb 0xD800 c low))
    (λ high. and_right _ _ (le-ltb c 0xDC00 (omega (arith, high.0)))) (scalar_cases c scalar)

points_of_units-cons : (c : ℕ) (units : List ℕ) → is_high_surrogate c ≡ false
    → points_of_units (c ∷ units) ≡ c ∷ points_of_units units
points_of_units-cons c [] plain = points_of_units-last c
points_of_units-cons c (v ∷ units) plain =
    points_of_units-alone c v units (and_left (is_high_surrogate c) (is_low_surrogate v) plain)

high : ℕ → ℕ
high c = 0xD800 + (c - 0x1_0000) / 0x400

low : ℕ → ℕ
low c = 0xDC00 + (c - 0x1_0000) % 0x400

points_of_units-large : (c : ℕ) (units : List ℕ) → 0x1_0000 ≤ c → c < 0x11_0000
    → points_of_units (high c ∷ low c ∷ units) ≡ c ∷ points_of_units units
unfolding high low
points_of_units-large c units large small =
    let is_high : is_high_surrogate (high c) ≡ true =
    and_from _ _ (le-leb 0xD800 (high c) (omega arith)) (lt-ltb (high c) 0xDC00 (omega arith)) in
    let is_low : is_low_surrogate (low c) ≡ true =
    and_from _ _ (le-leb 0xDC00 (low c) (omega arith)) (lt-ltb (low c) 0xE000 (omega arith)) in
    let same : surrogate_pair_char (high c) (low c) ≡ c = omega arith in
    points_of_units-pair (high c) (low c) units is_high is_low ∙ ap (λ p. p ∷ points_of_units units) same

scalar_small : (c : ℕ) → IsScalar c → c < 0x11_0000
scalar_small c scalar = ⊎_elim (λ l. omega arith) (λ h. omega (arith, h.1)) (scalar_cases c scalar)

points_of_units-encoded : (c : ℕ) (units : List ℕ) → IsScalar c
    → points_of_units (encode_utf16 c ++ units) ≡ c ∷ points_of_units units
unfolding high low
points_of_units-encoded c units scalar =
    ⊎_elim
    (λ small. ap (λ l. points_of_units (l ++ units)) (cond-true _ (c ∷ []) _ (lt-ltb c 0x1_0000 small))
    ∙ points_of_units-cons c units (not_high c scalar))
    (λ large. ap (λ l. points_of_units (l ++ units))
    (cond-false _ (c ∷ []) (high c ∷ low c ∷ []) (le-ltb c 0x1_0000 large))
    ∙ points_of_units-large c units large (scalar_small c scalar))
    (cases_lt c 0x1_0000)

string_of-characters : (cs : List ℕ) → all_scalars cs ≡ true → string_of (map Some cs) ≡ cs
string_of-characters [] scalars = points_of_units-nil
string_of-characters (c ∷ cs) scalars =
    let both = and_parts _ _ scalars in
    points_of_units-encoded c (flat_map units_of (map Some cs)) both.0
    ∙ ap (λ l. c ∷ l) (string_of-characters cs both.1)

-- characters whose bytes are not special
list_any-append : (test : ℕ → Bool) (front back : List ℕ) → list_any test (front ++ back) ≡ false
    → (list_any test front ≡ false) × (list_any test back ≡ false)
list_any-append test [] back none = (refl, none)
list_any-append test (b ∷ front) back none =
    let parts = or_parts (test b) _ none in
    let more = list_any-append test front back parts.1 in
    (or_from (test b) _ parts.0 more.0, more.1)

module _ (quote : ℕ) (small : quote < 128) where
  plain_character : (c : ℕ) → list_any (is_special_byte quote) (encode_utf8 c) ≡ false
      → is_special_byte quote c ≡ false
  plain_character c none =
      ⊎_elim
      (λ ascii. (or_parts (is_special_byte quote c) false
      (ap (list_any (is_special_byte quote)) (sym (encode_ascii c ascii)) ∙ none)).0)
      (λ large. or_from _ _ (ne_eqb c 92 (λ e. omega arith)) (or_from _ _ (ne_eqb c quote (λ e. omega arith))
      (or_from _ _ (ne_eqb c 10 (λ e. omega arith)) (ne_eqb c 13 (λ e. omega arith)))))
      (cases_lt c 128)

  Consists-plain : (cs : List ℕ) → list_any (is_special_byte quote) (encode_utf8_all cs) ≡ false
      → Consists (IsStringElement quote) (map Some cs) (cs ++ quote ∷ []) (quote ∷ [])
  Consists-plain [] none = refl
  Consists-plain (c ∷ cs) none =
      let parts = list_any-append (is_special_byte quote) (encode_utf8 c) (encode_utf8_all cs) none in
      (c ∷ [], cs ++ quote ∷ [], refl, character c (plain_character c parts.0), Consists-plain cs parts.1)

ascii_one : (c : ℕ) → c < 128 → IsAscii (c ∷ [])
ascii_one c small zero = small
ascii_one c small (suc i) = omega arith

pub quote_small : (quote : ℕ) → (quote ≡ 34) ⊎ (quote ≡ 39) → quote < 128
quote_small quote is = ⊎_elim (λ e. omega arith) (λ e. omega arith) is

pub Spells-plain : (slice inside text : List ℕ) (quote : ℕ) → (quote ≡ 34) ⊎ (quote ≡ 39)
    → chars slice ≡ quote ∷ chars inside → IsUtf8 text → inside ≡ text ++ quote ∷ []
    → list_any (is_special_byte quote) text ≡ false → Spells slice (chars text)
Spells-plain slice inside text quote is_quote opens utf8 closes none =
    let small = quote_small quote is_quote in
    let ascii = ascii_one quote small in
    let whole : chars inside ≡ chars text ++ quote ∷ [] =
    ap chars closes ∙ chars-append text (quote ∷ []) utf8
    ∙ ap (λ l. chars text ++ l) (chars-IsAscii (quote ∷ []) ascii) in
    let bytes : list_any (is_special_byte quote) (encode_utf8_all (chars text)) ≡ false =
    ap (list_any (is_special_byte quote)) (encodes-chars text utf8) ∙ none in
    record {
      quote = quote;
      inside = chars inside;
      points = map Some (chars text);
      is_quote = is_quote;
      opens = opens;
      closes = subst (λ l. Consists (IsStringElement quote) (map Some (chars text)) l (quote ∷ []))
          (sym whole)
          (Consists-plain quote small (chars text) bytes);
      is_value = sym (string_of-characters (chars text) (scalars-chars text utf8));
    }
