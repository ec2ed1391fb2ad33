use Rattle.modinfo.proofs.check.modules.report_question.Goals as goal

pub returns-in_ok-root_warnings-in-Ok-clause-report : goal.returns-in_ok-root_warnings-in-Ok-clause-report
returns-in_ok-root_warnings-in-Ok-clause-report c = (_, _, c.in-Ok.ensures.read)

pub returns-in_ok-root_warnings-in-Ok-clause-warnings : goal.returns-in_ok-root_warnings-in-Ok-clause-warnings
returns-in_ok-root_warnings-in-Ok-clause-warnings c =
    (_, _, c.in-Ok.ensures.read, c.in_ok-root_warnings-in-Ok.ensures)
