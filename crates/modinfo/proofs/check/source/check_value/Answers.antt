use Rattle.std.proofs.Common.{◌≡◌, Some, Result, Ok, Err, IfOk, inr}
use Rattle.std.specs.declared.alloc.AllocError.{AllocError}
use Rattle.serde_json.specs.Data.{Data}
use Rattle.deno_graph_json.specs.Data.{data_of}
use Rattle.modinfo_document.specs.declared.report.Report.{Report}
use Rattle.modinfo_document.specs.declared.report.Report.TheVariants.{Valid, Invalid}
use Rattle.modinfo.specs.Check.{HasParsedText, IsTextFaultReport, OfReport, ReportsOnText}
use Rattle.modinfo.specs.Source.{reads_text}
use Rattle.modinfo.specs.declared.source.SourceText.{SourceText}
use Rattle.modinfo.proofs.check.source.check_value.Goals as goal

-- The report on a text is that on its value.
of_text : (value : Data) (text : SourceText) (answer : Result Report AllocError)
    → reads_text value ≡ Some text → IfOk answer (ReportsOnText text)
    → IfOk answer (OfReport (HasParsedText value) (IsTextFaultReport value))
of_text value text (Ok (Valid warnings)) reads h = (text, reads, h)
of_text value text (Ok (Invalid report)) reads h = inr (text, reads, h)
of_text value text (Err refused) reads h = tt

pub returns-in-Ok-clause-report : goal.returns-in-Ok-clause-report
returns-in-Ok-clause-report c =
    of_text (data_of c.args.value) c.in-Ok.text c.check_text.result c.in-Ok.ensures
    c.check_text.ensures.report
