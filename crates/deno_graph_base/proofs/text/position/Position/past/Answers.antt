use Rattle.std.proofs.Common.{arith, eq-eqb}
use Rattle.std.proofs.lemmas.Bool.Decides.{nat_tests}
use Rattle.deno_graph_base.proofs.PositionLemmas.{position_of-line_feed, position_of-other}
use Rattle.deno_graph_base.proofs.text.position.Position.past.Goals as goal

pub returns-then-c-eq10-clause-passes : goal.returns-then-c-eq10-clause-passes
returns-then-c-eq10-clause-passes c = λ front is.
    let next = position_of-line_feed front c.args.c (eq-eqb _ _ c.if-c-eq10.true) in
    cc

pub returns-else-c-eq10-clause-passes : goal.returns-else-c-eq10-clause-passes
returns-else-c-eq10-clause-passes c = λ front is.
    let next = position_of-other front c.args.c (grind (arith, nat_tests)) in
    cc
