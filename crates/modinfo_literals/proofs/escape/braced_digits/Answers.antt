-- A code point is what the digits before the closing brace stand for.
use Rattle.std.proofs.Common.{⊎_elim}
use Rattle.modinfo_literals.proofs.Steps.{braced_step-empty, braced_step-large, braced_step-open}
use Rattle.modinfo_literals.proofs.Steps.{braced_step-closed, length-chars}
use Rattle.modinfo_literals.proofs.escape.braced_digits.Goals as goal

pub returns-then-found-eq0-clause-step : goal.returns-then-found-eq0-clause-step
returns-then-found-eq0-clause-step c =
    let found = c.read_digits-found.ensures in
    ⊎_elim
    (λ empty. braced_step-empty _ _
    (length-chars _ c.utf8.text) _ _ _ found.value found.count found.rest empty)
    (λ large. braced_step-large _ _
    (length-chars _ c.utf8.text) _ _ _ found.value found.count found.rest large.1)
    c.then-found-eq0.either

pub returns-in_err-after-clause-step : goal.returns-in_err-after-clause-step
returns-in_err-after-clause-step c =
    let found = c.read_digits-found.ensures in
    rw c.from_residual.ensures
    (braced_step-open _ _ (length-chars _ c.utf8.text) _ _ _ found.value found.count found.rest
    c.if-found-eq0.false
    c.if-found-eq-LIMIT.false c.in_err-after.ensures)

pub returns-clause-step : goal.returns-clause-step
returns-clause-step c =
    let found = c.read_digits-found.ensures in
    braced_step-closed _ _ (length-chars _ c.utf8.text) _ _ _ found.value found.count found.rest
    c.if-found-eq0.false
    c.if-found-eq-LIMIT.false _ c.in_ok-after.ensures
