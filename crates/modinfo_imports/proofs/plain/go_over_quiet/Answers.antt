use Rattle.std.proofs.Common.{◌≤◌, ℕ, ap, subst, sym}
use Rattle.modinfo_imports.proofs.Gone.{IsGone, IsGone-more, IsGone-none, Turns-gone}
use Rattle.modinfo_imports.proofs.plain.go_over_quiet.Goals as goal
use Rattle.modinfo_imports.proofs.plain.go_over_quiet.Goals.{else-plain-test}
use Rattle.modinfo_imports.proofs.plain.go_over_quiet.Goals.{then-plain-test+in_ok-next+in_default-2}
use Rattle.modinfo_imports.specs.internal.Plains.Turns.{none}
use Rattle.modinfo_pieces.specs.Places.{Place}

pub plain-init : goal.plain-init
plain-init c =
    rw c.plain_at-plain.ensures (IsGone-none c.args.text.now c.args.spot c.args.seen c.args.around.now
    c.args.parentheses.now c.args.filing.now c.in-Some.asked c.if-spot-lt4.false (rw c.in-Some.is at
    c.asked_by.ensures))

pub returns-then-not-is_quiet-clause-turns : goal.returns-then-not-is_quiet-clause-turns
returns-then-not-is_quiet-clause-turns c is_typed = none

pub plain-preserved : goal.plain-preserved
plain-preserved c =
    IsGone-more c.args.text.now c.args.spot c.args.seen c.args.around.now c.args.parentheses.now
    c.args.filing.now c.plain.plain c.in-Some-2.next c.plain.around _ c.plain.parentheses _ c.plain.invariant
    (rw c.in-Some-2.is at c.in_ok-next.ensures)
    (c.quiet_end-until.ensures.unmet c.plain.plain.at c.plain-test.true)
    (c.is_quiet.ensures c.if-not-is_quiet.false)

gone : (c : goal.After-leave)
    → IsGone c.args.text.now c.args.spot c.args.seen c.args.around.now c.args.parentheses.now
    c.args.filing.now c.plain.plain c.plain-test.around c.plain-test.parentheses
gone c = elim c.plain-test.branch [
  | else-plain-test w ↦ rw (w.around-is, w.parentheses-is) c.plain.invariant
  | then-plain-test+in_ok-next+in_default-2 w ↦
      let kept = rw w.in_default-2.is at w.in_ok-next.ensures in
      rw (w.around-is, w.parentheses-is, kept.0, kept.1) c.plain.invariant
]

pub returns-clause-on : goal.returns-clause-on
returns-clause-on c =
    subst (λ (at : ℕ). c.args.spot.at ≤ at) (sym (ap (λ (place : Place). place.at) (c.leave.ensures.place
    c.plain-test.around))) ((gone c).on)

pub returns-clause-turns : goal.returns-clause-turns
returns-clause-turns c is_typed =
    Turns-gone c.args.text.now c.args.spot c.args.seen c.args.around.now c.args.parentheses.now
    c.args.filing.now _ c.plain.plain c.plain-test.around c.plain-test.parentheses
    c.leave.result.spot c.leave.result.seen (gone c)
    (c.leave.ensures.place c.plain-test.around) (c.leave.ensures.watch c.plain-test.parentheses)
    c.leave.ensures.filing is_typed

pub returns-in_default-clause-turns : goal.returns-in_default-clause-turns
returns-in_default-clause-turns c is_typed = none
