use Rattle.std.proofs.Common.{Err, ap}
use Rattle.modinfo_document.specs.Check.{points_nowhere}
use Rattle.modinfo_estree.specs.Document.{reads_estree}
use Rattle.modinfo_document.proofs.Reported.{json_reported}
use Rattle.modinfo_estree.proofs.check.check_estree.Goals as goal

-- The value that was read is the value of the text.
pub returns-in-Ok-clause-report : goal.returns-in-Ok-clause-report
returns-in-Ok-clause-report c = c.check_tape.ensures.report c.args.text.now c.in-Ok.ensures.json

pub returns-in-Err-Json-clause-report : goal.returns-in-Err-Json-clause-report
returns-in-Err-Json-clause-report c =
    let report = c.in_ok-json_report_at-in-Err-Json in
    let offset = c.in-Err-Json.offset in
    json_reported reads_estree points_nowhere c.args.text.now offset report.field-0
    (c.in-Err-Json.ensures.no_json offset (ap Err c.in-Err-Json.field-0-is)) report.ensures.name
    report.ensures.place
