use Rattle.modinfo_imports.proofs.Gaps.{line_end-one_space}
use Rattle.modinfo_imports.proofs.PlainBytes.{kind-of_space}
use Rattle.modinfo_imports.proofs.Plains.{space-turn}
use Rattle.modinfo_imports.proofs.plain_piece.after_space.Goals as goal
use Rattle.std.proofs.Common.{arith, ◌+◌, refl}

pub returns : goal.returns
returns c is_space less around parentheses =
    rw c.after_gap-2.ensures (space-turn c.args.text.now c.args.plain c.space_end-end.result _
    c.line_end_after-is_after_line_end.result around parentheses (kind-of_space c.args.text.now c.args.plain
    around is_space
    less)
    c.space_end-end.ensures c.if-end-plain.false c.if-end-text.false refl
    c.line_end_after-is_after_line_end.ensures)

pub returns-then-is_one_space : goal.returns-then-is_one_space
returns-then-is_one_space c is_space less around parentheses =
    rw c.after_gap.ensures (space-turn c.args.text.now c.args.plain (c.args.plain.at + 1) _
    c.args.plain.is_after_line_end around parentheses (kind-of_space c.args.text.now c.args.plain around
    is_space less)
    (c.is_one_space.ensures.ends c.if-is_one_space.true) (omega arith)
    (omega (arith, c.is_one_space.ensures.within c.if-is_one_space.true)) refl
    (line_end-one_space c.args.text.now c.args.plain.at c.args.plain.is_after_line_end
    (c.is_one_space.ensures.line c.if-is_one_space.true)))
