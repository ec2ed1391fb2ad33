use Rattle.std.proofs.Common.{rules}
use Rattle.deno_graph_json.specs.Data.{data_of}
use Rattle.modinfo_document.specs.Check.{points_in_module}
use Rattle.modinfo_document.specs.Document.{Has, reads_document}
use Rattle.modinfo_document.proofs.Reported.{source_reported}
use Rattle.modinfo_document.proofs.Results.{some_with}
use Rattle.modinfo_document.proofs.check.check_source.Goals as goal

-- The text has this document, whose source has the fault at its place.
pub returns-in_ok-source_report-in-Some-clause-report : goal.returns-in_ok-source_report-in-Some-clause-report
returns-in_ok-source_report-in-Some-clause-report c text is has url has_url =
    let document = c.args.document.now in
    let root = data_of c.args.root in
    let found = c.in-Some.found in
    let read = some_with (λ contents. Has contents document) (reads_document root) has in
    source_reported reads_document points_in_module text root document found
    c.in_ok-source_report-in-Some.field-0 is has (search rules) (search rules)
    c.in_ok-source_report-in-Some.ensures.name
    (c.in_ok-source_report-in-Some.ensures.place read.0 read.1 read.2 (search rules))

pub returns-in_ok-find_warnings-in-None-clause-report : goal.returns-in_ok-find_warnings-in-None-clause-report
returns-in_ok-find_warnings-in-None-clause-report c text is has url has_url = record {
  document = c.args.document.now;
  is_document = (data_of c.args.root, is, has);
  has_url = (url, has_url);
  is_valid = search rules;
}

pub returns-in_ok-find_warnings-in-None-clause-warnings :
    goal.returns-in_ok-find_warnings-in-None-clause-warnings
returns-in_ok-find_warnings-in-None-clause-warnings c text is has =
    let found = c.in_ok-find_warnings-in-None.ensures in
    (c.args.document.now, (data_of c.args.root, is, has), found.none, found.each)
