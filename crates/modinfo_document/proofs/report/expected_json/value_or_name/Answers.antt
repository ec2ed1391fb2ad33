use Rattle.modinfo_document.specs.ExpectedJson.IsExpected.{name, whole}
use Rattle.modinfo_document.proofs.report.expected_json.value_or_name.Goals as goal

-- A name may follow.
pub returns-then-branch-2 : goal.returns-then-branch-2
returns-then-branch-2 c = λ value. name (c.in_ok-is_before-2.ensures c.if-branch-2.true)

-- Neither a value nor a name may follow.
pub returns-else-branch-2 : goal.returns-else-branch-2
returns-else-branch-2 c = λ value. whole
