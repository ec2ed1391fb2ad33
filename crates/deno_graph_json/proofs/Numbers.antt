-- The number that a text of decimal digits writes.
use Rattle.std.proofs.Common.{◌≡◌, ℕ, ◌^◌, ◌<◌, List, [], ◌∷◌, ◌++◌, length, get_or, true, false, Some, refl}
use Rattle.std.proofs.Common.{sym, ap, ◌∙◌, arith, append-nil, lt-ltb, ne_eqb}
use Rattle.std.specs.Prelude.{IsTrue}
use Rattle.std.specs.Char.{digit_value}
use Rattle.std.specs.Str.Parse.{AllDigits, IsNumeral, digits_value}
use Rattle.fast_float.specs.Text.{Parts, digits_of, IsWellFormed}
use Rattle.fast_float.proofs.Writing.{scan-text_of}
use Rattle.serde_json.specs.Data.{Num, unsigned}
use Rattle.serde_json.specs.Read.{number_of, number_from, is_integer}
use Rattle.deno_graph_json.specs.Flat.{number, number_node, number_fits}

no_minus : (text : List ℕ) → AllDigits 10 text → 0 < length text → get_or text 0 0 ≡ 45 → ⊥
no_minus [] digits some e = omega arith
no_minus (d ∷ ds) digits some e =
    let digit : digit_value d < 10 = digits.0 in
    let is : d ≡ 45 = e in
    grind arith

abbrev whole_parts : List ℕ → Parts
whole_parts text = record {
  whole = text;
  point = false;
  fraction = [];
  exponent_negative = false;
  exponent = [];
  len = length (text ++ []);
}

whole_formed : (text : List ℕ) → AllDigits 10 text → IsWellFormed (whole_parts text)
whole_formed text digits = record {
  whole_digits = digits;
  fraction_digits = tt;
  exponent_digits = tt;
  no_point = λ _. refl;
  no_exponent = λ _. refl;
  len_is = refl;
}

digits_scanned : (text : List ℕ) → AllDigits 10 text → 0 < length text
    → number_of (text ++ []) ≡ number_from false (whole_parts text)
unfolding number_of
digits_scanned text digits some =
    let unsigned_text : get_or (text ++ []) 0 0 ≡ 45 → ⊥ =
    λ e. no_minus text digits some (ap (λ l. get_or l 0 0) (sym (append-nil text)) ∙ e) in
    rw (ne_eqb (get_or (text ++ []) 0 0) 45 unsigned_text)
    (ap (number_from false) (scan-text_of (whole_parts text) (whole_formed text digits)))

-- a text of decimal digits is the number of these digits
pub number_of_digits : (text : List ℕ) → IsNumeral 10 text → digits_value 10 text < 2 ^ 64
    → number_of text ≡ Some (unsigned (digits_value 10 text))
number_of_digits text is less =
    let integer : is_integer (whole_parts text) ≡ true = rw (lt-ltb _ _ is.0) refl in
    let same : digits_of (whole_parts text) ≡ digits_value 10 text = ap (digits_value 10) (append-nil text) in
    ap number_of (sym (append-nil text)) ∙ digits_scanned text is.1 is.0
    ∙ rw (integer, same) (rw (lt-ltb _ _ less) refl)

pub read_node : (text : List ℕ) (x : Num) → number_of text ≡ Some x → number x ≡ number_node text
read_node text x e = rw e refl

pub read_fits : (text : List ℕ) (x : Num) → number_of text ≡ Some x → IsTrue (number_fits text)
read_fits text x e = rw e refl
