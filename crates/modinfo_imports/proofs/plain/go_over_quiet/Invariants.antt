-- Plain pieces lead from the spot to the place.
use Rattle.std.proofs.Common.{◌-◌}
use Rattle.modinfo_imports.proofs.Gone.{IsGone}
use Rattle.modinfo_imports.proofs.plain.go_over_quiet.Given as goal

abbrev pub invariant-plain : goal.invariant-plain
invariant-plain l =
    IsGone l.text l.spot l.seen l.fn.around l.fn.parentheses l.filing l.plain l.around l.parentheses

abbrev pub decreases-plain : goal.decreases-plain
decreases-plain l = l.until - l.plain.at
