use Rattle.std.proofs.Common.{◌≡◌, ◌∙◌, ap, sym, ℕ, List, Some, Result, Ok, Err, IfOk, inr}
use Rattle.std.specs.declared.alloc.AllocError.{AllocError}
use Rattle.serde_json.specs.Data.{Data}
use Rattle.serde_json.specs.Read.{read as read_text}
use Rattle.deno_graph_json.specs.Data.{data_of}
use Rattle.modinfo_document.specs.declared.report.Report.{Report}
use Rattle.modinfo_document.specs.declared.report.Report.TheVariants.{Valid, Invalid}
use Rattle.modinfo.specs.Check.{HasParsedText, IsSourceFaultReport, IsTextFaultReport, OfReport}
use Rattle.modinfo.specs.Source.{IsSourceDocument}
use Rattle.modinfo.proofs.check.source.check_source.Goals as goal

-- The report on a value is that on its text.
of_value : (text : List ℕ) (value : Data) (answer : Result Report AllocError) → read_text text ≡ Some value
    → IfOk answer (OfReport (HasParsedText value) (IsTextFaultReport value))
    → IfOk answer (OfReport (IsSourceDocument text) (IsSourceFaultReport text))
of_value text value (Ok (Valid warnings)) read h = (h.0, (value, read, h.1), h.2)
of_value text value (Ok (Invalid report)) read h = inr (value, read, h)
of_value text value (Err refused) read h = tt

pub returns-in-Ok-clause-report : goal.returns-in-Ok-clause-report
returns-in-Ok-clause-report c =
    of_value c.args.text.now (data_of c.root.result) c.check_value.result
    (c.in-Ok.ensures.json ∙ ap Some (sym c.root.ensures.json)) c.check_value.ensures.report
