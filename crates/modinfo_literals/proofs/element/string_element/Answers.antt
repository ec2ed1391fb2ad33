-- The first character decides which element the text begins with.
use Rattle.std.proofs.Common.{◌∙◌, sym, ap}
use Rattle.std.specs.Str.{chars}
use Rattle.modinfo_literals.specs.internal.Step.{stands_for}
use Rattle.modinfo_literals.proofs.Steps.{string_step-nil, string_step-escape, string_step-quote}
use Rattle.modinfo_literals.proofs.Steps.{string_step-line_feed, string_step-carriage_return}
use Rattle.modinfo_literals.proofs.Steps.{string_step-character}
use Rattle.modinfo_literals.proofs.element.string_element.Goals as goal
use Rattle.modinfo_literals.proofs.element.string_element.Goals.{then-first-quote-via-then-first-quote}
use Rattle.modinfo_literals.proofs.element.string_element.Goals.{then-first-quote-via-else-first-quote+then-first-eq10}
use Rattle.modinfo_literals.proofs.element.string_element.Goals.{then-first-quote-via-else-first-quote+else-first-eq10+then-first-eq13}

pub returns-in_err-first-clause-step : goal.returns-in_err-first-clause-step
returns-in_err-first-clause-step c =
    rw c.from_residual.ensures (sym (string_step-nil _ _ c.in_err-first.ensures.cases))

pub returns-then-first-eq92-clause-step : goal.returns-then-first-eq92-clause-step
returns-then-first-eq92-clause-step c =
    c.string_escape.ensures.step
    ∙ sym (string_step-escape _ _ _ c.in_ok-first.ensures.cases _ c.if-first-eq92.true)

pub returns-then-first-quote-clause-step : goal.returns-then-first-quote-clause-step
returns-then-first-quote-clause-step c =
    let whole = c.in_ok-first.ensures.cases in
    let b = c.if-first-eq92.false in
    elim c.then-first-quote.branch [
      | then-first-quote-via-then-first-quote w ↦ sym
          (string_step-quote _ _ _ whole _ b w.if-first-quote.true)
      | then-first-quote-via-else-first-quote+then-first-eq10 w
          ↦ sym (string_step-line_feed _ _ _ whole _ b w.if-first-eq10.true)
      | then-first-quote-via-else-first-quote+else-first-eq10+then-first-eq13 w
          ↦ sym (string_step-carriage_return _ _ _ whole _ b w.if-first-eq13.true)
    ]

pub returns-clause-step : goal.returns-clause-step
returns-clause-step c =
    ap (λ point. stands_for point (chars c.in_ok-first.rest.now)) c.from.ensures
    ∙ sym (string_step-character _ _ _ c.in_ok-first.ensures.cases _ c.if-first-eq92.false
    c.if-first-quote.false
    c.if-first-eq10.false c.if-first-eq13.false)
