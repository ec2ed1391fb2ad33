use Rattle.std.proofs.Common.{◌≡◌, ◌∙◌, ap, sym, ℕ, List, Some, Result, Ok, Err, IfOk, inr}
use Rattle.std.specs.declared.alloc.AllocError.{AllocError}
use Rattle.serde_json.specs.Data.{Data}
use Rattle.serde_json.specs.Read.{read as read_text}
use Rattle.deno_graph_json.specs.Data.{data_of}
use Rattle.modinfo_document.specs.declared.report.Report.{Report}
use Rattle.modinfo_document.specs.declared.report.Report.TheVariants.{Valid, Invalid}
use Rattle.modinfo.specs.Check.{AsksSome, OfReport, ReportsOnQuestion, ReportsQuestion, WarnsOfModules}
use Rattle.modinfo.specs.Check.{WarnsOfQuestion}
use Rattle.modinfo.proofs.check.modules.check_modules.Goals as goal

-- The report on a value is that on its text.
of_value : (text : List ℕ) (value : Data) (answer : Result Report AllocError) → read_text text ≡ Some value
    → IfOk answer (OfReport (AsksSome value) (ReportsQuestion value)) → IfOk answer (ReportsOnQuestion text)
of_value text value (Ok (Valid warnings)) read h = (value, read, h)
of_value text value (Ok (Invalid fault)) read h = inr (value, read, h)
of_value text value (Err failed) read h = tt

warns_of_value : (text : List ℕ) (value : Data) (answer : Result Report AllocError)
    → read_text text ≡ Some value → IfOk answer (WarnsOfModules value) → IfOk answer (WarnsOfQuestion text)
warns_of_value text value (Ok (Valid warnings)) read h = (value, read, h)
warns_of_value text value (Ok (Invalid fault)) read h = tt
warns_of_value text value (Err failed) read h = tt

pub returns-in-Ok-clause-report : goal.returns-in-Ok-clause-report
returns-in-Ok-clause-report c =
    of_value c.args.text.now (data_of c.root.result) c.report_question.result
    (c.in-Ok.ensures.json ∙ ap Some (sym c.root.ensures.json)) c.report_question.ensures.report

pub returns-in-Ok-clause-warnings : goal.returns-in-Ok-clause-warnings
returns-in-Ok-clause-warnings c =
    warns_of_value c.args.text.now (data_of c.root.result) c.report_question.result
    (c.in-Ok.ensures.json ∙ ap Some (sym c.root.ensures.json)) c.report_question.ensures.warnings
