use Rattle.std.proofs.Common.{◌≡◌, ◌∙◌, ap, sym, ℕ, List, Some, Result, Ok, Err, IfOk, inr}
use Rattle.std.specs.declared.alloc.AllocError.{AllocError}
use Rattle.serde_json.specs.Data.{Data}
use Rattle.serde_json.specs.Read.{read as read_text}
use Rattle.deno_graph_json.specs.Data.{data_of}
use Rattle.modinfo_document.specs.declared.report.Report.{Report}
use Rattle.modinfo_document.specs.declared.report.Report.TheVariants.{Valid, Invalid}
use Rattle.modinfo.specs.Check.{ReportsOnStored}
use Rattle.modinfo.specs.internal.Check.{ReportsOnValue}
use Rattle.modinfo.proofs.check.stored.check_stored.Goals as goal

-- The report on a value is that on its text.
of_value : (text : List ℕ) (value : Data) (answer : Result Report AllocError) → read_text text ≡ Some value
    → IfOk answer (ReportsOnValue value) → IfOk answer (ReportsOnStored text)
of_value text value (Ok (Valid warnings)) read h = (value, read, h)
of_value text value (Ok (Invalid fault)) read h = inr (value, read, h)
of_value text value (Err refused) read h = tt

pub returns-in-Ok-clause-report : goal.returns-in-Ok-clause-report
returns-in-Ok-clause-report c =
    of_value c.args.text.now (data_of c.root.result) c.report_stored.result
    (c.in-Ok.ensures.json ∙ ap Some (sym c.root.ensures.json)) c.report_stored.ensures.report
