use Rattle.deno_graph_json.specs.Data.{tape_data}
use Rattle.modinfo_document.specs.Check.{points_in_module}
use Rattle.modinfo_document.specs.Document.{reads_document}
use Rattle.modinfo_document.proofs.Reported.{tree_reported}
use Rattle.modinfo_document.proofs.check.check_tape.Goals as goal

-- The text has the document that was read.
pub returns-in-Ok-clause-report : goal.returns-in-Ok-clause-report
returns-in-Ok-clause-report c = λ text is.
    let read = rw c.root.ensures.json at c.in-Ok.ensures in
    let value = rw c.root-in-Ok.ensures.json at c.check_parts.ensures.report in
    value text is read

pub returns-in-Ok-clause-warnings : goal.returns-in-Ok-clause-warnings
returns-in-Ok-clause-warnings c = λ text is.
    let read = rw c.root.ensures.json at c.in-Ok.ensures in
    let value = rw c.root-in-Ok.ensures.json at c.check_parts.ensures.warnings in
    value text is read

-- The value isn't that of a document.
pub returns-in_ok-tree_report-in-Err-Mismatch-clause-report :
    goal.returns-in_ok-tree_report-in-Err-Mismatch-clause-report
returns-in_ok-tree_report-in-Err-Mismatch-clause-report c = λ text is.
    let report = c.in_ok-tree_report-in-Err-Mismatch in
    let error = rw (c.root.ensures.json, c.in-Err-Mismatch.field-0-is) at c.in-Err-Mismatch.ensures in
    tree_reported reads_document points_in_module text (tape_data c.args.tape.now) c.in-Err-Mismatch.mismatch
    report.field-0 is error report.ensures.name report.ensures.mismatch
