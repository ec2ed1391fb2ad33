-- The first character decides which escape the text begins with.
use Rattle.std.proofs.Common.{◌∙◌, sym, ap, not}
use Rattle.std.proofs.lemmas.Bool.{and_from, and_left, and_right, cond-true, cond-false, eq-eqb, ne_eqb}
use Rattle.modinfo_literals.proofs.Steps.{template_escape_step-nil, template_escape_step-other}
use Rattle.modinfo_literals.proofs.Steps.{template_escape_step-digit}
use Rattle.modinfo_literals.proofs.escape.template_escape.Goals as goal
use Rattle.modinfo_literals.proofs.escape.template_escape.Goals.{else-first-eq48-via-then-first-eq48+else-not-begins_with_digit}
use Rattle.modinfo_literals.proofs.escape.template_escape.Goals.{else-first-eq48-via-else-first-eq48}

pub returns-in_err-first-clause-step : goal.returns-in_err-first-clause-step
returns-in_err-first-clause-step c =
    rw c.from_residual.ensures (sym (template_escape_step-nil _ c.in_err-first.ensures.cases))

pub returns-then-not-is_digit-clause-step : goal.returns-then-not-is_digit-clause-step
returns-then-not-is_digit-clause-step c =
    c.common_escape.ensures.step
    ∙ sym (template_escape_step-other _ _ _ c.in_ok-first.ensures.cases (sym c.if-not-is_digit.ensures.value))

pub returns-then-not-begins_with_digit-clause-step : goal.returns-then-not-begins_with_digit-clause-step
returns-then-not-begins_with_digit-clause-step c =
    sym (template_escape_step-digit _ _ _ c.in_ok-first.ensures.cases (sym c.if-not-is_digit.ensures.value)
    ∙ cond-true _ _ _ (and_from _ _ (eq-eqb _ _ c.if-first-eq48.true)
    (ap not (sym c.if-not-begins_with_digit.ensures))))

pub returns-else-first-eq48-clause-step : goal.returns-else-first-eq48-clause-step
returns-else-first-eq48-clause-step c =
    let digit = template_escape_step-digit _ _ _ c.in_ok-first.ensures.cases
    (sym c.if-not-is_digit.ensures.value) in
    elim c.else-first-eq48.branch [
      | else-first-eq48-via-then-first-eq48+else-not-begins_with_digit w
          ↦ sym (digit ∙ cond-false _ _ _ (and_right _ _ (ap not (sym w.if-not-begins_with_digit.ensures))))
      | else-first-eq48-via-else-first-eq48 w
          ↦ sym (digit ∙ cond-false _ _ _ (and_left _ _ (ne_eqb _ _ w.if-first-eq48.false)))
    ]
