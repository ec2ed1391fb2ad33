use Rattle.std.proofs.Common.{◌≡◌, ℕ, List, [], ◌∷◌, true, false, length, sym, ap, ◌∙◌, arith}
use Rattle.std.proofs.lemmas.Bool.{cond-false, cond-true}
use Rattle.std.proofs.lemmas.Str.{IsUtf8-past_char, chars-nil, chars_past_char}
use Rattle.std.specs.Str.{chars}
use Rattle.std.specs.Str.Iter.{chars_rest}
use Rattle.modinfo_estree.specs.Comments.{after_space, is_semicolon}
use Rattle.modinfo_estree.specs.Tokens.{is_space}
use Rattle.modinfo_estree.proofs.comments.begins_with_semicolon.Goals as goal

-- white space at the start is passed over
passed : (c : ℕ) (cs : List ℕ) → is_space c ≡ true → after_space (c ∷ cs) ≡ after_space cs
passed c cs is = cond-true _ _ _ is

-- other characters aren't
kept : (c : ℕ) (cs : List ℕ) → is_space c ≡ false → after_space (c ∷ cs) ≡ c ∷ cs
kept c cs is = cond-false _ _ _ is

-- nothing is left
none : (rest : List ℕ) → length rest ≡ 0 → after_space (chars rest) ≡ []
none [] is = ap after_space chars-nil
none (x ∷ xs) is = absurd (omega arith)

pub loop-c-preserved : goal.loop-c-preserved
loop-c-preserved c =
    let rest = chars_rest c.loop-c.c-iterator in
    let later = chars_rest c.next.new.self in
    let utf8 = c.loop-c.invariant.0 in
    let first = c.in-Some.ensures.steps.0 in (
      IsUtf8-past_char rest later c.in-Some.c utf8 first,
      sym (ap after_space (chars_past_char rest later c.in-Some.c utf8 first)
          ∙ passed c.in-Some.c (chars later) (sym c.is_space.ensures ∙ c.if-not-is_space.false))
          ∙ c.loop-c.invariant.1,
    )

pub returns-then-not-is_space : goal.returns-then-not-is_space
returns-then-not-is_space c =
    let rest = chars_rest c.loop-c.c-iterator in
    let later = chars_rest c.next.new.self in
    let first = c.in-Some.ensures.steps.0 in
    let found = ap after_space (chars_past_char rest later c.in-Some.c c.loop-c.invariant.0 first)
    ∙ kept c.in-Some.c (chars later) (sym c.is_space.ensures ∙ c.if-not-is_space.true) in
    sym (ap is_semicolon found) ∙ ap is_semicolon c.loop-c.invariant.1

pub returns : goal.returns
returns c =
    let rest = chars_rest c.loop-c.c-iterator in
    sym (ap is_semicolon (none rest c.in-None.ensures.steps.0.0)) ∙ ap is_semicolon c.loop-c.invariant.1
