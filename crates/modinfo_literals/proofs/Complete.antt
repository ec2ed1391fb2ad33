-- The step over each element of the definitions.
use Rattle.std.proofs.Common.{◌≡◌, ℕ, ◌<◌, ◌≤◌, ◌⊎◌, ◌==◌, true, false, Option, Some, None, List, [], ◌∷◌}
use Rattle.std.proofs.Common.{◌++◌, length, nat_eq, codes, refl, sym, ap, ◌∙◌, subst, inl, inr, ⊎_elim, arith}
use Rattle.std.proofs.Common.{append_assoc, length-append}
use Rattle.std.specs.Char.{digit_value, is_digit}
use Rattle.std.proofs.lemmas.Bool.{or_parts, or_cases, eqb-true, eq-eqb, ne_eqb, ltb-false, le-ltb, lt-ltb}
use Rattle.std.proofs.lemmas.Bool.{le-leb, false≢true}
use Rattle.modinfo_literals.specs.Escape.{AreDigits, begins_with, number, is_line_terminator, is_special}
use Rattle.modinfo_literals.specs.Escape.{most_octal_digits, IsLineEnd, IsCommonEscape, IsStringEscape}
use Rattle.modinfo_literals.specs.Escape.{IsTemplateEscape}
use Rattle.modinfo_literals.specs.Escape.IsLineEnd.{carriage_return_line_feed, carriage_return}
use Rattle.modinfo_literals.specs.Escape.IsLineEnd.{other_terminator}
use Rattle.modinfo_literals.specs.Escape.IsCommonEscape.{backspace, tab, line_feed, vertical_tab, form_feed}
use Rattle.modinfo_literals.specs.Escape.IsCommonEscape.{carriage_return as carriage_return_escape, itself}
use Rattle.modinfo_literals.specs.Escape.IsCommonEscape.{hex, unicode, code_point, line_continuation}
use Rattle.modinfo_literals.specs.Escape.IsStringEscape.{common, octal, eight_or_nine}
use Rattle.modinfo_literals.specs.Escape.IsTemplateEscape.{common as template_common, zero}
use Rattle.modinfo_literals.specs.Literal.{IsStringElement, IsTemplateElement}
use Rattle.modinfo_literals.specs.Literal.IsStringElement.{character, escape}
use Rattle.modinfo_literals.specs.Literal.IsTemplateElement.{character as template_character, dollar}
use Rattle.modinfo_literals.specs.Literal.IsTemplateElement.{carriage_return_line_feed as carriage_return_line_feed_element}
use Rattle.modinfo_literals.specs.Literal.IsTemplateElement.{carriage_return as carriage_return_element}
use Rattle.modinfo_literals.specs.Literal.IsTemplateElement.{escape as template_escape}
use Rattle.std.specs.List.{list_any}
use Rattle.modinfo_literals.specs.internal.Step.{stands_for, stands_for_nothing, after_carriage_return}
use Rattle.modinfo_literals.specs.internal.Step.{hex_step, braced_step, unicode_step, octal_step}
use Rattle.modinfo_literals.specs.internal.Step.{single_escape, common_step, string_escape_step}
use Rattle.modinfo_literals.specs.internal.Step.{template_escape_step, string_step, template_step}
use Rattle.modinfo_literals.proofs.Digits.{digits_of-append, drop-append}

-- digits
pub hex_step-append : (count : ℕ) (digits after : List ℕ) → AreDigits 16 digits → length digits ≡ count
    → hex_step count (digits ++ after) ≡ stands_for (number 16 digits) after
unfolding hex_step
hex_step-append count digits after are long =
    rw (digits_of-append 16 count digits after are (omega arith) (inl long), eq-eqb _ _ long)
    (ap (stands_for (number 16 digits)) (drop-append digits after))

pub begins_with-digit : (base c : ℕ) (digits after : List ℕ) → AreDigits base digits → 0 < length digits
    → is_digit c base ≡ false → begins_with (λ d. d == c) (digits ++ after) ≡ false
begins_with-digit base c [] after are some other = absurd (omega arith)
begins_with-digit base c (d ∷ digits) after are some other =
    ne_eqb d c (λ e. false≢true (sym other ∙ ap (λ n. is_digit n base) (sym e) ∙ are.0))

pub unicode_step-digits : (digits after : List ℕ) → AreDigits 16 digits → length digits ≡ 4
    → unicode_step (digits ++ after) ≡ stands_for (number 16 digits) after
unfolding unicode_step
unicode_step-digits [] after are long = absurd (omega arith)
unicode_step-digits (d ∷ digits) after are long =
    rw (begins_with-digit 16 123 (d ∷ digits) after are (omega arith) refl)
    (hex_step-append 4 (d ∷ digits) after are long)

pub braced_step-append : (digits after : List ℕ) → AreDigits 16 digits → 0 < length digits
    → number 16 digits ≤ 0x10_FFFF
    → braced_step (digits ++ 125 ∷ after) ≡ stands_for (number 16 digits) after
unfolding braced_step
braced_step-append digits after are some le =
    rw (
      digits_of-append 16 (length (digits ++ 125 ∷ after)) digits (125 ∷ after) are
          (omega (arith, length-append digits (125 ∷ after))) (inr refl),
      lt-ltb 0 (length digits) some,
      le-leb (number 16 digits) 0x10_FFFF le,
      drop-append digits (125 ∷ after),
    ) refl

pub unicode_step-code_point : (digits after : List ℕ) → AreDigits 16 digits → 0 < length digits
    → number 16 digits ≤ 0x10_FFFF
    → unicode_step (123 ∷ (digits ++ codes "}") ++ after) ≡ stands_for (number 16 digits) after
unfolding unicode_step
unicode_step-code_point digits after are some le =
    ap braced_step (append_assoc digits (codes "}") after) ∙ braced_step-append digits after are some le

-- characters
line_terminators : (c : ℕ) → is_line_terminator c ≡ true
    → (c ≡ 10) ⊎ ((c ≡ 13) ⊎ ((c ≡ 0x2028) ⊎ (c ≡ 0x2029)))
line_terminators c is =
    ⊎_elim (λ e. inl (eqb-true _ _ e))
    (λ more. inr (⊎_elim (λ e. inl (eqb-true _ _ e))
    (λ last. inr (⊎_elim (λ e. inl (eqb-true _ _ e)) (λ e. inr (eqb-true _ _ e)) (or_cases _ _ last)))
    (or_cases _ _ more))) (or_cases _ _ is)

after_carriage_return-alone : (after : List ℕ) → begins_with (λ c. c == 10) after ≡ false
    → after_carriage_return after ≡ after
after_carriage_return-alone [] alone = refl
after_carriage_return-alone (c ∷ after) alone = rw alone refl

-- a text is a character and the rest that the step over an escape takes
pub record IsCommonStep (text : List ℕ) (point : Option ℕ) (after : List ℕ) : Type 0 where
  pub first : ℕ
  pub rest : List ℕ
  pub whole : text ≡ first ∷ rest
  pub no_digit : is_digit first 10 ≡ false
  pub is_step : common_step first rest ≡ Some (record { point = point; rest = after })

line_end-complete : (after text : List ℕ) → IsLineEnd after text → IsCommonStep (text ++ after) None after
unfolding common_step
line_end-complete after _ carriage_return_line_feed = record {
  first = 13;
  rest = 10 ∷ after;
  whole = refl;
  no_digit = refl;
  is_step = refl;
}
line_end-complete after _ (carriage_return alone) = record {
  first = 13;
  rest = after;
  whole = refl;
  no_digit = refl;
  is_step = ap stands_for_nothing (after_carriage_return-alone after alone);
}
line_end-complete after _ (other_terminator c is other) =
    let at = λ (d : ℕ) (same : c ≡ d) (no_digit : is_digit d 10 ≡ false)
    (is_step : common_step d after ≡ stands_for_nothing after).
    subst (λ n. IsCommonStep (n ∷ after) None after) (sym same)
    (record { first = d; rest = after; whole = refl; no_digit = no_digit; is_step = is_step }) in
    ⊎_elim (λ e. at 10 e refl refl)
    (λ more. ⊎_elim (λ e. absurd (false≢true (sym other ∙ eq-eqb c 13 e)))
    (λ last. ⊎_elim (λ e. at 0x2028 e refl refl) (λ e. at 0x2029 e refl refl) last) more)
    (line_terminators c is)

-- escapes
special_parts : (c : ℕ) → is_special c ≡ false
    → (list_any (λ d. nat_eq c d) (codes "btnvfrxu") ≡ false) × (is_digit c 10 ≡ false)
    × (is_line_terminator c ≡ false)
special_parts c plain =
    let parts = or_parts _ _ plain in
    let more = or_parts (is_digit c 10) (is_line_terminator c) parts.1 in
    (parts.0, more.0, more.1)

common_step-itself : (c : ℕ) (after : List ℕ) → is_special c ≡ false
    → common_step c after ≡ stands_for c after
unfolding common_step single_escape
common_step-itself c after plain =
    let parts = special_parts c plain in
    let b = or_parts (nat_eq c 98) _ parts.0 in
    let t = or_parts (nat_eq c 116) _ b.1 in
    let n = or_parts (nat_eq c 110) _ t.1 in
    let v = or_parts (nat_eq c 118) _ n.1 in
    let f = or_parts (nat_eq c 102) _ v.1 in
    let r = or_parts (nat_eq c 114) _ f.1 in
    let x = or_parts (nat_eq c 120) _ r.1 in
    let u = or_parts (nat_eq c 117) _ x.1 in
    let line = or_parts (nat_eq c 10) _ parts.2 in
    let carriage = or_parts (nat_eq c 13) _ line.1 in
    rw (x.0, u.0, carriage.0, line.0, carriage.1, b.0, t.0, n.0, v.0, f.0, r.0) refl

common-complete : (after text : List ℕ) (point : Option ℕ) → IsCommonEscape after text point
    → IsCommonStep (text ++ after) point after
unfolding common_step single_escape
common-complete after _ _ backspace = record {
  first = 98;
  rest = after;
  whole = refl;
  no_digit = refl;
  is_step = refl;
}
common-complete after _ _ tab = record {
  first = 116;
  rest = after;
  whole = refl;
  no_digit = refl;
  is_step =
      refl;
}
common-complete after _ _ line_feed = record {
  first = 110;
  rest = after;
  whole = refl;
  no_digit = refl;
  is_step = refl;
}
common-complete after _ _ vertical_tab = record {
  first = 118;
  rest = after;
  whole = refl;
  no_digit = refl;
  is_step = refl;
}
common-complete after _ _ form_feed = record {
  first = 102;
  rest = after;
  whole = refl;
  no_digit = refl;
  is_step = refl;
}
common-complete after _ _ carriage_return_escape =
    record { first = 114; rest = after; whole = refl; no_digit = refl; is_step = refl }
common-complete after _ _ (itself c plain) = record {
  first = c;
  rest = after;
  whole = refl;
  no_digit = (special_parts c plain).1;
  is_step = common_step-itself c after plain;
}
common-complete after _ _ (hex digits are long) = record {
  first = 120;
  rest = digits ++ after;
  whole = refl;
  no_digit = refl;
  is_step = hex_step-append 2 digits after are long;
}
common-complete after _ _ (unicode digits are long) = record {
  first = 117;
  rest = digits ++ after;
  whole = refl;
  no_digit = refl;
  is_step = unicode_step-digits digits after are long;
}
common-complete after _ _ (code_point digits are some le) = record {
  first = 117;
  rest = 123 ∷ (digits ++ codes "}") ++ after;
  whole = refl;
  no_digit = refl;
  is_step = unicode_step-code_point digits after are some le;
}
common-complete after _ _ (line_continuation text is) = line_end-complete after text is

-- a digit below eight is a digit below ten
digit_8_of_10 : (c : ℕ) → is_digit c 10 ≡ false → is_digit c 8 ≡ false
digit_8_of_10 c large = le-ltb (digit_value c) 8 (omega (arith, ltb-false (digit_value c) 10 large))

octal_step-append : (digits after : List ℕ) → AreDigits 8 digits → 0 < length digits
    → length digits ≤ most_octal_digits digits
    → (length digits ≡ most_octal_digits digits) ⊎ (begins_with (λ c. is_digit c 8) after ≡ false)
    → string_escape_step (digits ++ after) ≡ stands_for (number 8 digits) after
unfolding string_escape_step octal_step
octal_step-append [] after are some le end = absurd (omega arith)
octal_step-append (d ∷ digits) after are some le end =
    rw are.0
    (let all = digits_of-append 8 (most_octal_digits (d ∷ digits)) (d ∷ digits) after are le end in
    rw all (ap (stands_for (number 8 (d ∷ digits))) (drop-append (d ∷ digits) after)))

pub string_escape-complete : (after text : List ℕ) (point : Option ℕ) → IsStringEscape after text point
    → string_escape_step (text ++ after) ≡ Some (record { point = point; rest = after })
unfolding string_escape_step
string_escape-complete after _ _ (common text point is) =
    let found = common-complete after text point is in
    ap string_escape_step found.whole
    ∙ (rw (digit_8_of_10 found.first found.no_digit, found.no_digit) found.is_step)
string_escape-complete after _ _
    (octal digits are some le end) = octal_step-append digits after are some le end
string_escape-complete after _ _ (eight_or_nine c decimal not_octal) = rw (not_octal, decimal) refl

pub template_escape-complete : (after text : List ℕ) (point : Option ℕ) → IsTemplateEscape after text point
    → template_escape_step (text ++ after) ≡ Some (record { point = point; rest = after })
unfolding template_escape_step
template_escape-complete after _ _ (template_common text point is) =
    let found = common-complete after text point is in
    ap template_escape_step found.whole ∙ (rw found.no_digit found.is_step)
template_escape-complete after _ _ (zero alone) = rw alone refl

-- elements
pub string-complete : (quote : ℕ) (after text : List ℕ) (point : Option ℕ)
    → IsStringElement quote after text point
    → string_step quote (text ++ after) ≡ Some (record { point = point; rest = after })
unfolding string_step
string-complete quote after _ _ (character c plain) =
    let parts = or_parts (nat_eq c 92) _ plain in rw (parts.0, parts.1) refl
string-complete quote after _ _ (escape text point is) = string_escape-complete after text point is

pub template-complete : (after text : List ℕ) (point : Option ℕ) → IsTemplateElement after text point
    → template_step (text ++ after) ≡ Some (record { point = point; rest = after })
unfolding template_step
template-complete after _ _ (template_character c plain) =
    let backslash = or_parts (nat_eq c 92) _ plain in
    let backtick = or_parts (nat_eq c 96) _ backslash.1 in
    let dollar = or_parts (nat_eq c 36) _ backtick.1 in
    rw (backslash.0, backtick.0, dollar.0, dollar.1) refl
template-complete after _ _ (dollar alone) = rw alone refl
template-complete after _ _ carriage_return_line_feed_element = refl
template-complete after _ _ (carriage_return_element alone) =
    ap (stands_for 10) (after_carriage_return-alone after alone)
template-complete after _ _ (template_escape text point is) = template_escape-complete after text point is
