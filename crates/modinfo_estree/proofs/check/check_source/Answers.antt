use Rattle.std.proofs.Common.{rules}
use Rattle.modinfo_document.specs.Check.{points_nowhere}
use Rattle.modinfo_document.proofs.Reported.{source_reported}
use Rattle.modinfo_estree.specs.Document.{reads_estree}
use Rattle.modinfo_estree.proofs.check.check_source.Goals as goal

-- The text has this document, whose source has the fault at its place.
pub returns-in_ok-source_report_without_pointers-in-Some-clause-report :
    goal.returns-in_ok-source_report_without_pointers-in-Some-clause-report
returns-in_ok-source_report_without_pointers-in-Some-clause-report c = λ text is url has_url.
    let report = c.in_ok-source_report_without_pointers-in-Some.field-0 in
    let ensures = c.in_ok-source_report_without_pointers-in-Some.ensures in
    source_reported reads_estree points_nowhere text is.0 c.args.document.now c.in-Some.found report is.1 is.2
    (search rules) (search rules) ensures.name
    (record { range = ensures.range; points_there = (ensures.pointer, ensures.other); at = ensures.at })

pub returns-in-None-clause-report : goal.returns-in-None-clause-report
returns-in-None-clause-report c = λ text is url has_url. record {
  document = c.args.document.now;
  is_document = is;
  has_url = (url, has_url);
  is_valid = search rules;
}
