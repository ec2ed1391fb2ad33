-- Digits in braces, or four digits.
use Rattle.std.proofs.Common.{◌∙◌, sym}
use Rattle.modinfo_literals.proofs.Steps.{unicode_step-braced, unicode_step-hex}
use Rattle.modinfo_literals.proofs.escape.unicode_escape.Goals as goal

pub returns-in-Some-clause-step : goal.returns-in-Some-clause-step
returns-in-Some-clause-step c =
    c.braced_digits.ensures.step ∙ sym (unicode_step-braced _ _ c.in-Some.ensures)

pub returns-in-None-clause-step : goal.returns-in-None-clause-step
returns-in-None-clause-step c =
    c.hex_digits.ensures.step ∙ sym (unicode_step-hex _ c.in-None.ensures)
