-- Each arm is the step's for its character.
use Rattle.std.proofs.Common.{◌≡◌, ◌∙◌, sym, ap, rules}
use Rattle.modinfo_literals.specs.internal.Step.{stands_for, stands_for_nothing}
use Rattle.std.specs.Str.{chars}
use Rattle.modinfo_literals.proofs.Steps.{common_step-hex, common_step-unicode, common_step-carriage_return}
use Rattle.modinfo_literals.proofs.Steps.{common_step-line, common_step-other}
use Rattle.modinfo_literals.proofs.escape.common_escape.Goals as goal

pub returns-in-x-clause-step : goal.returns-in-x-clause-step
returns-in-x-clause-step c = c.hex_digits.ensures.step ∙ sym (common_step-hex _ _ c.in-x.is)

pub returns-in-u-clause-step : goal.returns-in-u-clause-step
returns-in-u-clause-step c = c.unicode_escape.ensures.step ∙ sym (common_step-unicode _ _ c.in-u.is)

pub returns-in-13-clause-step : goal.returns-in-13-clause-step
returns-in-13-clause-step c =
    ap stands_for_nothing c.after_carriage_return.ensures ∙ sym (common_step-carriage_return _ _ c.in-13.is)

pub returns-in_default-clause-step : goal.returns-in_default-clause-step
returns-in_default-clause-step c =
    let x : c.args.first ≡ 120 → ⊥ = search (rules, c.in_default) in
    let u : c.args.first ≡ 117 → ⊥ = search (rules, c.in_default) in
    let r : c.args.first ≡ 13 → ⊥ = search (rules, c.in_default) in
    sym (common_step-line _ _ x u r (sym c.if-is_line_terminator.ensures))

pub returns-in_default-2-clause-step : goal.returns-in_default-2-clause-step
returns-in_default-2-clause-step c =
    let x : c.args.first ≡ 120 → ⊥ = search (rules, c.in_default) in
    let u : c.args.first ≡ 117 → ⊥ = search (rules, c.in_default) in
    let r : c.args.first ≡ 13 → ⊥ = search (rules, c.in_default) in
    ap (λ point. stands_for point (chars c.args.rest.now)) (c.from.ensures ∙ c.single_escape.ensures)
    ∙ sym (common_step-other _ _ x u r (sym c.if-is_line_terminator.ensures))
