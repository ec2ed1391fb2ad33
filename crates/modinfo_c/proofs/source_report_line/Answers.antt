use Rattle.std.proofs.Common.{[], ◌∷◌, ◌++◌, ◌∙◌, ap}
use Rattle.modinfo_c.proofs.source_report_line.Goals as goal

-- The line is that of the report, and a line feed.
pub returns : goal.returns
unfolding lib.Utf8.encode
returns c =
    let line = c.in_ok-push.ensures.bytes ∙ ap (λ bytes. bytes ++ (10 ∷ [])) c.in_ok-line.ensures in
    let report = c.in_ok-report.ensures in (
      c.in_ok-source.source,
      c.in_ok-source.ensures,
      c.in_ok-report.report,
      report.report,
      report.warnings,
      line,
    )
