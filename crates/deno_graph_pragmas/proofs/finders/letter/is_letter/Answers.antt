use Rattle.std.proofs.Common.{arith}
use Rattle.deno_graph_pragmas.proofs.Folding.{same_fold-other, same_fold-long_s, same_fold-kelvin}
use Rattle.deno_graph_pragmas.proofs.finders.letter.is_letter.Goals as goal

pub returns-in-383 : goal.returns-in-383
returns-in-383 c =
    rw (c.eq_ignore_ascii_case.ensures, c.in-383.is) (same_fold-long_s c.args.letter c.requires)

pub returns-in-8490 : goal.returns-in-8490
returns-in-8490 c =
    rw (c.eq_ignore_ascii_case-in-8490.ensures, c.in-8490.is) (same_fold-kelvin c.args.letter c.requires)

pub returns-in_default : goal.returns-in_default
returns-in_default c =
    rw c.eq_ignore_ascii_case-in_default.ensures (same_fold-other c.args.c c.args.letter c.requires
    (λ is. absurd (omega arith)) (λ is. absurd (omega arith)))
