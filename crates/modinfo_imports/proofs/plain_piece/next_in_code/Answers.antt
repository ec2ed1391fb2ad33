use Rattle.std.proofs.Common.{arith, ◌∙◌, MatchOption, IfSome, None, Option, Some, refl, sym}
use Rattle.modinfo_imports.proofs.plain_piece.next_in_code.Goals as goal

some_kept : {A : Type 0} (found : Option A) (Kept : Type 0) (Is : A → Type 0) → Kept → IfSome found Is
    → MatchOption found Kept Is
some_kept None Kept Is kept is = kept
some_kept (Some found) Kept Is kept is = is

pub returns-then-is_word_byte : goal.returns-then-is_word_byte
returns-then-is_word_byte c =
    some_kept c.after_word.result _ _ (refl, refl)
    (c.after_word.ensures (sym c.is_word_byte.ensures ∙ c.if-is_word_byte.true) c.args.parentheses.now)

pub returns-then-is_ascii_space : goal.returns-then-is_ascii_space
returns-then-is_ascii_space c =
    some_kept c.after_space.result _ _ (refl, refl)
    (c.after_space.ensures (sym c.is_ascii_space.ensures ∙ c.if-is_ascii_space.true) (omega (
      arith,
      c.type_inv.text c.args.plain.at,
    ))
    c.args.around.now c.args.parentheses.now)
