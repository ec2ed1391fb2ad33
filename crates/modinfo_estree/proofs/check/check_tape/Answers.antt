use Rattle.deno_graph_json.specs.Data.{tape_data}
use Rattle.modinfo_document.specs.Check.{points_nowhere}
use Rattle.modinfo_document.proofs.Reported.{tree_reported}
use Rattle.modinfo_estree.specs.Document.{reads_estree}
use Rattle.modinfo_estree.proofs.check.check_tape.Goals as goal

-- The text has the document that was read.
pub returns-in-Ok-clause-report : goal.returns-in-Ok-clause-report
returns-in-Ok-clause-report c = λ text is.
    let read = rw c.root.ensures.json at c.in-Ok.ensures in
    c.check_parts.ensures.report text (tape_data c.args.tape.now, is, read)

-- The value isn't that of a document.
pub returns-in_ok-tree_report-in-Err-Mismatch-clause-report :
    goal.returns-in_ok-tree_report-in-Err-Mismatch-clause-report
returns-in_ok-tree_report-in-Err-Mismatch-clause-report c = λ text is.
    let report = c.in_ok-tree_report-in-Err-Mismatch in
    let error = rw (c.root.ensures.json, c.in-Err-Mismatch.field-0-is) at c.in-Err-Mismatch.ensures in
    tree_reported reads_estree points_nowhere text (tape_data c.args.tape.now) c.in-Err-Mismatch.mismatch
    report.field-0 is error report.ensures.name report.ensures.mismatch
