use Rattle.modinfo.specs.Source.{AreNoParts}
use Rattle.modinfo_c.specs.Call.{IsReportLine}
use Rattle.modinfo_c.proofs.LinesWritten.{answer_of}
use Rattle.modinfo_c.proofs.modinfo_check_source.Goals as goal

-- The line is the report.
pub returns-clause-media_type : goal.returns-clause-media_type
returns-clause-media_type c is =
    answer_of (IsReportLine c.args.text.now c.args.specifier.now c.args.media_type)
    (AreNoParts c.args.text.now c.args.specifier.now c.args.media_type) c.source_report_line.result _ _ _ _
    c.source_report_line.ensures c.write_line.ensures
