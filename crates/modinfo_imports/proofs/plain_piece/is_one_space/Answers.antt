use Rattle.modinfo_imports.proofs.Gaps.{Ends-one_space, no_line-one_space}
use Rattle.modinfo_imports.proofs.plain_piece.is_one_space.Goals as goal

pub returns-then-text-at-eq32-clause-ends : goal.returns-then-text-at-eq32-clause-ends
returns-then-text-at-eq32-clause-ends c is =
    Ends-one_space c.args.text.now c.args.at c.if-text-at-eq32.true (rw c.byte_at.ensures at
    (c.is_solid.ensures.space is)) (rw c.byte_at.ensures at (c.is_solid.ensures.narrow is))

pub returns-then-text-at-eq32-clause-line : goal.returns-then-text-at-eq32-clause-line
returns-then-text-at-eq32-clause-line c is = no_line-one_space c.args.text.now c.args.at
    c.if-text-at-eq32.true
