use Rattle.modinfo_document.specs.Check.{points_nowhere}
use Rattle.modinfo_document.proofs.Reported.{specifier_reported}
use Rattle.modinfo_estree.specs.Document.{reads_estree}
use Rattle.modinfo_estree.proofs.check.check_parts.Goals as goal

-- The specifier is a URL.
pub returns-in-Ok-clause-report : goal.returns-in-Ok-clause-report
returns-in-Ok-clause-report c = λ text is.
    c.check_source.ensures.report text is c.in-Ok.field-0 c.in-Ok.ensures

-- The specifier is no URL.
pub returns-in-Err-Specifier-clause-report : goal.returns-in-Err-Specifier-clause-report
returns-in-Err-Specifier-clause-report c = λ text is.
    let report = c.in_ok-specifier_report-in-Err-Specifier in
    let error = rw c.in-Err-Specifier.field-0-is at c.in-Err-Specifier.ensures in
    specifier_reported reads_estree points_nowhere text c.args.document.now report.field-0
    is error report.ensures.name report.ensures.path
