-- Three digits at most after 0 to 3, two after 4 to 7.
use Rattle.std.proofs.Common.{◌≡◌, nat_lt, cond}
use Rattle.std.proofs.lemmas.Bool.{lt-ltb, le-ltb}
use Rattle.modinfo_literals.proofs.Steps.{octal_step-read}
use Rattle.modinfo_literals.proofs.escape.octal_escape.Goals as goal
use Rattle.modinfo_literals.proofs.escape.octal_escape.Goals.{then-first-lt52, else-first-lt52}

pub returns-clause-step : goal.returns-clause-step
returns-clause-step c =
    let most_is : c.if-first-lt52.read_digits ≡ cond (nat_lt c.args.first 52) 3 2 =
    elim c.if-first-lt52.branch [
      | then-first-lt52 w ↦ rw (lt-ltb _ _ w.if-first-lt52.true) w.read_digits-is
      | else-first-lt52 w ↦ rw (le-ltb _ _ w.if-first-lt52.false) w.read_digits-is
    ] in
    let found = c.read_digits-found.ensures in
    λ rest whole. octal_step-read c.args.first _ most_is _ _ found.value rest _ whole found.rest
