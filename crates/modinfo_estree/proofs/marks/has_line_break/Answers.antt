use Rattle.std.proofs.Common.{◌≡◌, ◌||◌, ℕ, List, [], ◌∷◌, true, false, length, sym, ap, ◌∙◌, arith}
use Rattle.std.proofs.lemmas.Str.{IsUtf8-past_char, chars-nil, chars_past_char}
use Rattle.std.specs.List.{list_any}
use Rattle.std.specs.Str.{chars}
use Rattle.std.specs.Str.Iter.{chars_rest}
use Rattle.modinfo_estree.specs.Tokens.{is_line_break}
use Rattle.modinfo_estree.proofs.marks.has_line_break.Goals as goal

-- other characters count for nothing
passed : (c : ℕ) (cs : List ℕ) → is_line_break c ≡ false
    → list_any is_line_break (c ∷ cs) ≡ list_any is_line_break cs
passed c cs is = ap (λ b. b || list_any is_line_break cs) is

found : (c : ℕ) (cs : List ℕ) → is_line_break c ≡ true → list_any is_line_break (c ∷ cs) ≡ true
found c cs is = ap (λ b. b || list_any is_line_break cs) is

-- nothing is left
none : (rest : List ℕ) → length rest ≡ 0 → list_any is_line_break (chars rest) ≡ false
none [] is = ap (list_any is_line_break) chars-nil
none (x ∷ xs) is = absurd (omega arith)

pub loop-c-preserved : goal.loop-c-preserved
loop-c-preserved c =
    let rest = chars_rest c.loop-c.c-iterator in
    let later = chars_rest c.next.new.self in
    let utf8 = c.loop-c.invariant.0 in
    let first = c.in-Some.ensures.steps.0 in (
      IsUtf8-past_char rest later c.in-Some.c utf8 first,
      sym (ap (list_any is_line_break) (chars_past_char rest later c.in-Some.c utf8 first)
          ∙ passed c.in-Some.c (chars later) (sym c.is_line_break.ensures ∙ c.if-is_line_break.false))
          ∙ c.loop-c.invariant.1,
    )

pub returns-then-is_line_break : goal.returns-then-is_line_break
returns-then-is_line_break c =
    let rest = chars_rest c.loop-c.c-iterator in
    let later = chars_rest c.next.new.self in
    let first = c.in-Some.ensures.steps.0 in
    sym (ap (list_any is_line_break) (chars_past_char rest later c.in-Some.c c.loop-c.invariant.0 first)
    ∙ found c.in-Some.c (chars later) (sym c.is_line_break.ensures ∙ c.if-is_line_break.true))
    ∙ c.loop-c.invariant.1

pub returns : goal.returns
returns c =
    let rest = chars_rest c.loop-c.c-iterator in
    sym (none rest c.in-None.ensures.steps.0.0) ∙ c.loop-c.invariant.1
