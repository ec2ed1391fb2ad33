-- What a step over an element finds is an element of the definitions.
use Rattle.std.proofs.Common.{◌≡◌, ℕ, ◌<◌, ◌≤◌, ◌==◌, ◌&&◌, not, Bool, true, false, Option, Some, None, List}
use Rattle.std.proofs.Common.{[], ◌∷◌, ◌++◌, length, drop, nat_lt, nat_le, nat_eq, codes, cond, suc, refl}
use Rattle.std.proofs.Common.{sym, ap, ◌∙◌, subst, inl, inr, ⊎_elim, arith, append_assoc, unwrap_or}
use Rattle.std.specs.Char.{is_digit}
use Rattle.std.specs.List.{list_any}
use Rattle.std.proofs.lemmas.Bool.{or_from, and_parts, cases_Bool, cond-true, cond-false, eqb-true, ltb-true}
use Rattle.std.proofs.lemmas.Bool.{leb-true, not-true}
use Rattle.modinfo_literals.specs.Escape.{AreDigits, begins_with, number, is_line_terminator, is_special}
use Rattle.modinfo_literals.specs.Escape.{IsCommonEscape, IsStringEscape, IsTemplateEscape}
use Rattle.modinfo_literals.specs.Escape.IsLineEnd.{carriage_return_line_feed, carriage_return}
use Rattle.modinfo_literals.specs.Escape.IsLineEnd.{other_terminator}
use Rattle.modinfo_literals.specs.Escape.IsCommonEscape.{backspace, tab, line_feed, vertical_tab, form_feed}
use Rattle.modinfo_literals.specs.Escape.IsCommonEscape.{carriage_return as carriage_return_escape, itself}
use Rattle.modinfo_literals.specs.Escape.IsCommonEscape.{hex, unicode, code_point, line_continuation}
use Rattle.modinfo_literals.specs.Escape.IsStringEscape.{common, octal, eight_or_nine}
use Rattle.modinfo_literals.specs.Escape.IsTemplateEscape.{common as template_common, zero}
use Rattle.modinfo_literals.specs.Literal.{IsStringElement, IsTemplateElement}
use Rattle.modinfo_literals.specs.Literal.IsStringElement.{character, escape}
use Rattle.modinfo_literals.specs.Literal.IsTemplateElement.{character as template_character, dollar}
use Rattle.modinfo_literals.specs.Literal.IsTemplateElement.{carriage_return_line_feed as carriage_return_line_feed_element}
use Rattle.modinfo_literals.specs.Literal.IsTemplateElement.{carriage_return as carriage_return_element}
use Rattle.modinfo_literals.specs.Literal.IsTemplateElement.{escape as template_escape}
use Rattle.modinfo_literals.specs.internal.Step.{Step, after_carriage_return, digits_of, hex_step}
use Rattle.modinfo_literals.specs.internal.Step.{close_brace, braced_step, unicode_step, octal_step}
use Rattle.modinfo_literals.specs.internal.Step.{single_escape, common_step, string_escape_step}
use Rattle.modinfo_literals.specs.internal.Step.{template_escape_step, string_step, template_step}
use Rattle.modinfo_literals.proofs.Digits.{digits_of-first, AreDigits-digits_of, digits_of-drop}
use Rattle.modinfo_literals.proofs.Digits.{digits_of-end, length-digits_of}

-- the text begins with an element, which the step is over
abbrev pub Found : (List ℕ → List ℕ → Option ℕ → Type 0) → List ℕ → Step → Type 0
Found IsElement text step =
    (element : List ℕ) × (text ≡ element ++ step.rest) × IsElement step.rest element step.point

some_same : (P : Step → Type 0) (made step : Step) → Some made ≡ Some step → P made → P step
some_same P made step e p = subst P (ap (λ (o : Option Step). unwrap_or o made) e) p

none_some : (P : Type 0) (step : Step) → (let none : Option Step = None in none) ≡ Some step → P
none_some P step e = absurd cc

by_cases : (b : Bool) {P : Type 0} → (b ≡ true → P) → (b ≡ false → P) → P
by_cases b yes_case no_case = ⊎_elim yes_case no_case (cases_Bool b)

cond_cases : {b : Bool} {x y z : Option Step} {P : Type 0} → cond b x y ≡ z → (b ≡ true → x ≡ z → P)
    → (b ≡ false → y ≡ z → P) → P
cond_cases {b} {x} {y} e yes_case no_case =
    by_cases b (λ t. yes_case t (sym (cond-true b x y t) ∙ e)) (λ f. no_case f (sym (cond-false b x y f) ∙ e))

-- digits
record HexDigits (count : ℕ) (text : List ℕ) (step : Step) : Type 0 where
  digits : List ℕ
  whole : text ≡ digits ++ step.rest
  are : AreDigits 16 digits
  long : length digits ≡ count
  point_is : Some (number 16 digits) ≡ step.point

hex_step-sound : (count : ℕ) (text : List ℕ) (step : Step) → hex_step count text ≡ Some step
    → HexDigits count text step
unfolding hex_step
hex_step-sound count text step e =
    let ds = digits_of 16 count text in
    cond_cases e
    (λ t is. some_same (HexDigits count text) _ step is (record {
      digits = ds;
      whole = digits_of-drop 16 count text;
      are = AreDigits-digits_of 16 count text;
      long = eqb-true _ _ t;
      point_is = refl;
    }))
    (λ f is. none_some _ step is)

close_brace-sound : (n : ℕ) (text : List ℕ) (step : Step) → close_brace n text ≡ Some step
    → (text ≡ 125 ∷ step.rest) × (Some n ≡ step.point)
close_brace-sound n [] step e = none_some _ step e
close_brace-sound n (c ∷ text) step e =
    cond_cases e
    (λ t is. some_same (λ s. (c ∷ text ≡ 125 ∷ s.rest) × (Some n ≡ s.point)) _ step is
    (ap (λ d. d ∷ text) (eqb-true c 125 t), refl))
    (λ f is. none_some _ step is)

record BracedDigits (text : List ℕ) (step : Step) : Type 0 where
  digits : List ℕ
  whole : text ≡ digits ++ 125 ∷ step.rest
  are : AreDigits 16 digits
  some : 0 < length digits
  le : number 16 digits ≤ 0x10_FFFF
  point_is : Some (number 16 digits) ≡ step.point

braced_step-sound : (text : List ℕ) (step : Step) → braced_step text ≡ Some step → BracedDigits text step
unfolding braced_step
braced_step-sound text step e =
    let ds = digits_of 16 (length text) text in
    cond_cases e
    (λ t is.
    let parts = and_parts (nat_lt 0 (length ds)) (nat_le (number 16 ds) 0x10_FFFF) t in
    let closed = close_brace-sound (number 16 ds) (drop (length ds) text) step is in
    record {
      digits = ds;
      whole = digits_of-drop 16 (length text) text ∙ ap (λ rest. ds ++ rest) closed.0;
      are = AreDigits-digits_of 16 (length text) text;
      some = ltb-true _ _ parts.0;
      le = leb-true _ _ parts.1;
      point_is = closed.1;
    })
    (λ f is. none_some _ step is)

-- escapes
module _ (step : Step) where
  hex_found : (rest : List ℕ) → hex_step 2 rest ≡ Some step → Found IsCommonEscape (120 ∷ rest) step
  hex_found rest e =
      let found = hex_step-sound 2 rest step e in (
        120 ∷ found.digits,
        ap (λ l. 120 ∷ l) found.whole,
        subst (IsCommonEscape step.rest (120 ∷ found.digits)) found.point_is
            (hex found.digits found.are found.long),
      )

  unicode_found : (rest : List ℕ) → hex_step 4 rest ≡ Some step → Found IsCommonEscape (117 ∷ rest) step
  unicode_found rest e =
      let found = hex_step-sound 4 rest step e in (
        117 ∷ found.digits,
        ap (λ l. 117 ∷ l) found.whole,
        subst (IsCommonEscape step.rest (117 ∷ found.digits)) found.point_is
            (unicode found.digits found.are found.long),
      )

  braced_found : (rest : List ℕ) → braced_step rest ≡ Some step → Found IsCommonEscape (117 ∷ 123 ∷ rest) step
  braced_found rest e =
      let found = braced_step-sound rest step e in (
        117 ∷ 123 ∷ (found.digits ++ codes "}"),
        ap (λ l. 117 ∷ 123 ∷ l) (found.whole ∙ sym (append_assoc found.digits (codes "}") step.rest)),
        subst (IsCommonEscape step.rest (117 ∷ 123 ∷ (found.digits ++ codes "}"))) found.point_is
            (code_point found.digits found.are found.some found.le),
      )

  unicode_step-sound : (rest : List ℕ) → unicode_step rest ≡ Some step
      → Found IsCommonEscape (117 ∷ rest) step
  unfolding unicode_step
  unicode_step-sound [] e = none_some _ step e
  unicode_step-sound (c ∷ rest) e =
      cond_cases e
      (λ t is. subst (λ d. Found IsCommonEscape (117 ∷ d ∷ rest) step) (sym (eqb-true c 123 t))
      (braced_found rest is))
      (λ f is. unicode_found (c ∷ rest) is)

-- a carriage return, alone or with its line feed
after_carriage_return-found : (IsElement : List ℕ → List ℕ → Option ℕ
    → Type 0) (point : Option ℕ) (rest : List ℕ)
    → ((after : List ℕ) → IsElement after (13 ∷ 10 ∷ []) point)
    → ((after : List ℕ) → begins_with (λ c. c == 10) after ≡ false → IsElement after (13 ∷ []) point)
    → Found IsElement (13 ∷ rest) (record { point = point; rest = after_carriage_return rest })
after_carriage_return-found IsElement point [] both alone = (13 ∷ [], refl, alone [] refl)
after_carriage_return-found IsElement point (c ∷ rest) both alone =
    by_cases (c == 10)
    (λ t. rw t (13 ∷ 10 ∷ [], ap (λ d. 13 ∷ d ∷ rest) (eqb-true c 10 t), both rest))
    (λ f. rw f (13 ∷ [], refl, alone (c ∷ rest) f))

single_escape-found : (c : ℕ) (rest : List ℕ) → is_digit c 10 ≡ false → is_line_terminator c ≡ false
    → nat_eq c 120 ≡ false → nat_eq c 117 ≡ false → IsCommonEscape rest (c ∷ []) (Some (single_escape c))
unfolding single_escape
single_escape-found c rest no_digit no_end x u =
    let at = λ (d : ℕ) (same : nat_eq c d
    ≡ true) (is : IsCommonEscape rest (d ∷ []) (Some (single_escape d))).
    subst (λ n. IsCommonEscape rest (n ∷ []) (Some (single_escape n))) (sym (eqb-true c d same)) is in
    by_cases (nat_eq c 98) (λ e. at 98 e backspace) (λ b.
    by_cases (nat_eq c 116) (λ e. at 116 e tab) (λ t.
    by_cases (nat_eq c 110) (λ e. at 110 e line_feed) (λ n.
    by_cases (nat_eq c 118) (λ e. at 118 e vertical_tab) (λ v.
    by_cases (nat_eq c 102) (λ e. at 102 e form_feed) (λ f.
    by_cases (nat_eq c 114) (λ e. at 114 e carriage_return_escape) (λ r.
    let none : list_any (λ d. nat_eq c d) (codes "btnvfrxu") ≡ false =
    or_from _ _ b (or_from _ _ t (or_from _ _ n (or_from _ _ v (or_from _ _ f
    (or_from _ _ r (or_from _ _ x (or_from _ _ u refl))))))) in
    let plain : is_special c ≡ false = or_from _ _ none (or_from _ _ no_digit no_end) in
    rw (b, t, n, v, f, r) (itself c plain)))))))

common-sound : (c : ℕ) (rest : List ℕ) (step : Step) → is_digit c 10 ≡ false → common_step c rest ≡ Some step
    → Found IsCommonEscape (c ∷ rest) step
unfolding common_step
common-sound c rest step no_digit e =
    let at = λ (d : ℕ) (same : nat_eq c d ≡ true) (found : Found IsCommonEscape (d ∷ rest) step).
    subst (λ n. Found IsCommonEscape (n ∷ rest) step) (sym (eqb-true c d same)) found in
    cond_cases e (λ t is. at 120 t (hex_found step rest is)) (λ x more.
    cond_cases more (λ t is. at 117 t (unicode_step-sound step rest is)) (λ u others.
    cond_cases others (λ t is. at 13 t (some_same (Found IsCommonEscape (13 ∷ rest)) _ step is
    (after_carriage_return-found IsCommonEscape None rest
    (λ after. line_continuation _ carriage_return_line_feed)
    (λ after alone. line_continuation _ (carriage_return alone))))) (λ r last.
    cond_cases last (λ t is. some_same (Found IsCommonEscape (c ∷ rest)) _ step is
    (c ∷ [], refl, line_continuation _ (other_terminator c t r))) (λ l is.
    some_same (Found IsCommonEscape (c ∷ rest)) _ step is
    (c ∷ [], refl, single_escape-found c rest no_digit l x u)))))

octal_found : (c : ℕ) (rest : List ℕ) (n : ℕ) → is_digit c 8 ≡ true → suc n ≡ cond (nat_lt c 52) 3 2
    → Found IsStringEscape (c ∷ rest) (record {
      point = Some (number 8 (c ∷ digits_of 8 n rest));
      rest = drop (length (digits_of 8 n rest)) rest;
    })
octal_found c rest n is most =
    let ds = digits_of 8 n rest in (
      c ∷ ds,
      ap (λ l. c ∷ l) (digits_of-drop 8 n rest),
      octal (c ∷ ds) (is, AreDigits-digits_of 8 n rest) (omega arith)
          (omega (arith, length-digits_of 8 n rest, most))
          (⊎_elim (λ e. inl (ap suc e ∙ most)) (λ e. inr e) (digits_of-end 8 n rest)),
    )

octal_made : ℕ → ℕ → List ℕ → Step
octal_made most c rest =
    let ds = digits_of 8 most (c ∷ rest) in
    record { point = Some (number 8 ds); rest = drop (length ds) (c ∷ rest) }

octal_made-first : (c : ℕ) (rest : List ℕ) (n : ℕ) → is_digit c 8 ≡ true
    → octal_made (suc n) c rest
    ≡ record {
      point = Some (number 8 (c ∷ digits_of 8 n rest));
      rest = drop (length
          (digits_of 8 n rest)) rest;
    }
unfolding octal_made
octal_made-first c rest n is =
    ap (λ (ds : List ℕ). let made : Step = record {
      point = Some (number 8 ds);
      rest = drop (length ds)
          (c ∷ rest);
    }
    in made) (digits_of-first 8 n c rest is)

octal_step-sound : (c : ℕ) (rest : List ℕ) (step : Step) → is_digit c 8 ≡ true → octal_step c rest ≡ Some step
    → Found IsStringEscape (c ∷ rest) step
unfolding octal_step octal_made
octal_step-sound c rest step is e =
    let at = λ (n : ℕ) (most : suc n ≡ cond (nat_lt c 52) 3 2).
    let made : Some (octal_made (suc n) c rest) ≡ Some step =
    ap (λ m. Some (octal_made m c rest)) most ∙ e in
    some_same (Found IsStringEscape (c ∷ rest)) _ step
    (ap Some (sym (octal_made-first c rest n is)) ∙ made) (octal_found c rest n is most) in
    by_cases (nat_lt c 52) (λ t. at 2 (rw t refl)) (λ f. at 1 (rw f refl))

pub string_escape-sound : (text : List ℕ) (step : Step) → string_escape_step text ≡ Some step
    → Found IsStringEscape text step
unfolding string_escape_step
string_escape-sound [] step e = none_some _ step e
string_escape-sound (c ∷ rest) step e =
    cond_cases e (λ t is. octal_step-sound c rest step t is) (λ f more.
    cond_cases more (λ t is. some_same (Found IsStringEscape (c ∷ rest)) _ step is
    (c ∷ [], refl, eight_or_nine c t f)) (λ g is.
    let found = common-sound c rest step g is in
    (found.0, found.1, common found.0 step.point found.2)))

pub template_escape-sound : (text : List ℕ) (step : Step) → template_escape_step text ≡ Some step
    → Found IsTemplateEscape text step
unfolding template_escape_step
template_escape-sound [] step e = none_some _ step e
template_escape-sound (c ∷ rest) step e =
    cond_cases e (λ t more.
    cond_cases more (λ z is.
    let parts = and_parts (c == 48) (not (begins_with (λ d. is_digit d 10) rest)) z in
    subst (λ n. Found IsTemplateEscape (n ∷ rest) step) (sym (eqb-true c 48 parts.0))
    (some_same (Found IsTemplateEscape (48 ∷ rest)) _ step is (48 ∷ [], refl, zero (not-true _ parts.1))))
    (λ f is. none_some _ step is)) (λ f is.
    let found = common-sound c rest step f is in
    (found.0, found.1, template_common found.0 step.point found.2))

-- elements
pub string-sound : (quote : ℕ) (text : List ℕ) (step : Step) → string_step quote text ≡ Some step
    → Found (IsStringElement quote) text step
unfolding string_step
string-sound quote [] step e = none_some _ step e
string-sound quote (c ∷ rest) step e =
    cond_cases e (λ t is.
    let found = string_escape-sound rest step is in
    let same : c ≡ 92 = eqb-true c 92 t in
    (92 ∷ found.0, (λ i. same i ∷ found.1 i), escape found.0 step.point found.2)) (λ b more.
    cond_cases more (λ t is. none_some _ step is) (λ q is.
    some_same (Found (IsStringElement quote) (c ∷ rest)) _ step is
    (c ∷ [], refl, character c (or_from _ _ b q))))

dollar-found : (c : ℕ) (rest : List ℕ) → (c == 36) ≡ true
    → (c == 36 && begins_with (λ d. d == 123) rest) ≡ false
    → IsTemplateElement rest (c ∷ []) (Some c)
dollar-found c rest is alone =
    let none = sym (ap (λ b. b && begins_with (λ d. d == 123) rest) is) ∙ alone in
    subst (λ n. IsTemplateElement rest (n ∷ []) (Some n)) (sym (eqb-true c 36 is)) (dollar none)

pub template-sound : (text : List ℕ) (step : Step) → template_step text ≡ Some step
    → Found IsTemplateElement text step
unfolding template_step
template-sound [] step e = none_some _ step e
template-sound (c ∷ rest) step e =
    cond_cases e (λ t is.
    let found = template_escape-sound rest step is in
    let same : c ≡ 92 = eqb-true c 92 t in
    (92 ∷ found.0, (λ i. same i ∷ found.1 i), template_escape found.0 step.point found.2)) (λ b more.
    cond_cases more (λ t is. none_some _ step is) (λ k others.
    cond_cases others (λ t is. none_some _ step is) (λ d last.
    cond_cases last (λ t is.
    subst (λ n. Found IsTemplateElement (n ∷ rest) step) (sym (eqb-true c 13 t))
    (some_same (Found IsTemplateElement (13 ∷ rest)) _ step is
    (after_carriage_return-found IsTemplateElement (Some 10) rest
    (λ after. carriage_return_line_feed_element) (λ after alone. carriage_return_element alone)))) (λ r is.
    some_same (Found IsTemplateElement (c ∷ rest)) _ step is (
      c ∷ [],
      refl,
      by_cases (c == 36) (λ same. dollar-found c rest same d)
          (λ other. template_character c (or_from _ _ b (or_from _ _ k (or_from _ _ other r)))),
    )))))
