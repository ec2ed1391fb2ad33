-- The first character decides which element the text begins with.
use Rattle.std.proofs.Common.{◌≡◌, ◌∙◌, sym, ap, rules}
use Rattle.std.specs.Str.{chars}
use Rattle.std.proofs.lemmas.Bool.{and_parts, eqb-true}
use Rattle.modinfo_literals.specs.internal.Step.{stands_for}
use Rattle.modinfo_literals.proofs.Steps.{template_step-nil, template_step-escape, template_step-backtick}
use Rattle.modinfo_literals.proofs.Steps.{template_step-dollar, template_step-carriage_return}
use Rattle.modinfo_literals.proofs.Steps.{template_step-character}
use Rattle.modinfo_literals.proofs.element.template_element.Goals as goal

pub returns-in_err-first-clause-step : goal.returns-in_err-first-clause-step
returns-in_err-first-clause-step c =
    rw c.from_residual.ensures (sym (template_step-nil _ c.in_err-first.ensures.cases))

pub returns-in-92-clause-step : goal.returns-in-92-clause-step
returns-in-92-clause-step c =
    c.template_escape.ensures.step ∙ sym (template_step-escape _ _ _ c.in_ok-first.ensures.cases c.in-92.is)

pub returns-in-96-clause-step : goal.returns-in-96-clause-step
returns-in-96-clause-step c = sym (template_step-backtick _ _ _ c.in_ok-first.ensures.cases c.in-96.is)

pub returns-in-13-clause-step : goal.returns-in-13-clause-step
returns-in-13-clause-step c =
    ap (stands_for 10) c.after_carriage_return.ensures
    ∙ sym (template_step-carriage_return _ _ _ c.in_ok-first.ensures.cases c.in-13.is)

pub returns-in_default-clause-step : goal.returns-in_default-clause-step
returns-in_default-clause-step c =
    let both = and_parts _ _ (sym c.if-opens_substitution.ensures) in
    sym (template_step-dollar _ _ _ c.in_ok-first.ensures.cases (eqb-true _ _ both.0) both.1)

pub returns-in_default-2-clause-step : goal.returns-in_default-2-clause-step
returns-in_default-2-clause-step c =
    let b : c.in_ok-first.first ≡ 92 → ⊥ = search (rules, c.in_default) in
    let k : c.in_ok-first.first ≡ 96 → ⊥ = search (rules, c.in_default) in
    let r : c.in_ok-first.first ≡ 13 → ⊥ = search (rules, c.in_default) in
    ap (λ point. stands_for point (chars c.in_ok-first.rest.now)) c.from.ensures
    ∙ sym (template_step-character _ _ _ c.in_ok-first.ensures.cases b k
    (sym c.if-opens_substitution.ensures) r)
