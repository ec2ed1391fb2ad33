use Rattle.std.proofs.Common.{◌≡◌, ◌-◌, ◌∙◌, ap, arith, subst, take}
use Rattle.modinfo_document.specs.ExpectedJson.{IsJson}
use Rattle.modinfo_document.specs.ExpectedJson.IsExpected.{end, whole}
use Rattle.modinfo_document.proofs.report.expected_json.expected_json.Goals as goal

pub returns-in_default : goal.returns-in_default
returns-in_default c = whole

pub returns-in_default-get : goal.returns-in_default-get
returns-in_default-get c = whole

-- The text before the token is JSON.
pub returns-then-branch : goal.returns-then-branch
returns-then-branch c =
    let json = c.in_ok-is_json.ensures c.if-branch.true in
    let whole_length : c.args.start - 0 ≡ c.args.start = omega arith in
    end (subst IsJson (c.in-Some.ensures.cases.0 ∙ ap (λ n. take n c.args.text.now) whole_length) json)

pub returns-in-None : goal.returns-in-None
returns-in-None c = whole
