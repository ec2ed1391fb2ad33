-- The first character decides which escape the text begins with.
use Rattle.std.proofs.Common.{◌∙◌, sym, ap}
use Rattle.std.specs.Str.{chars}
use Rattle.modinfo_literals.specs.internal.Step.{stands_for}
use Rattle.modinfo_literals.proofs.Steps.{string_escape_step-nil, string_escape_step-octal}
use Rattle.modinfo_literals.proofs.Steps.{string_escape_step-decimal, string_escape_step-other}
use Rattle.modinfo_literals.proofs.escape.string_escape.Goals as goal

pub returns-in_err-first-clause-step : goal.returns-in_err-first-clause-step
returns-in_err-first-clause-step c =
    rw c.from_residual.ensures (sym (string_escape_step-nil _ c.in_err-first.ensures.cases))

pub returns-then-is_digit-clause-step : goal.returns-then-is_digit-clause-step
returns-then-is_digit-clause-step c =
    let whole = c.in_ok-first.ensures.cases in
    c.octal_escape.ensures.step _ whole
    ∙ sym (string_escape_step-octal _ _ _ whole (sym c.if-is_digit.ensures.value))

pub returns-then-is_digit-2-clause-step : goal.returns-then-is_digit-2-clause-step
returns-then-is_digit-2-clause-step c =
    ap (λ point. stands_for point (chars c.in_ok-first.rest.now)) c.from.ensures
    ∙ sym (string_escape_step-decimal _ _ _ c.in_ok-first.ensures.cases (sym c.if-is_digit.ensures.value)
    (sym c.if-is_digit-2.ensures.value))

pub returns-clause-step : goal.returns-clause-step
returns-clause-step c =
    c.common_escape.ensures.step
    ∙ sym (string_escape_step-other _ _ _ c.in_ok-first.ensures.cases (sym c.if-is_digit.ensures.value)
    (sym c.if-is_digit-2.ensures.value))
