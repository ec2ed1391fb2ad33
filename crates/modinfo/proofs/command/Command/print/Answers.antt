use Rattle.modinfo.proofs.command.Command.print.Goals as goal

-- The line is that of the report.
pub returns-in_ok-to_line-in-Check : goal.returns-in_ok-to_line-in-Check
returns-in_ok-to_line-in-Check c = rw c.in-Check.is (
  c.in_ok-report-in-Check.report,
  c.in_ok-report-in-Check.ensures,
  c.passes.ensures,
  c.in_ok-to_line-in-Check.ensures,
)
