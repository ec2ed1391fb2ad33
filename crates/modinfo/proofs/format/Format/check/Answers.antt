use Rattle.std.proofs.Common.{ℕ, List, Option, Result, Ok, Err, IfOk, IsUtf8, inl, inr, sym, ◌⊎◌}
use Rattle.serde_json.specs.Data.{Data}
use Rattle.std.specs.declared.alloc.AllocError.{AllocError}
use Rattle.modinfo_document.specs.declared.report.FaultReport.{FaultReport}
use Rattle.modinfo_document.specs.declared.report.Report.{Report}
use Rattle.modinfo_document.specs.declared.report.Report.TheVariants.{Valid, Invalid}
use Rattle.modinfo_document.specs.Check.{IsFaultReport, IsReportIn, IsValidIn, Pointers, points_in_module}
use Rattle.modinfo_document.specs.Check.{points_nowhere}
use Rattle.modinfo_document.specs.Document.{Contents, reads_document}
use Rattle.modinfo_document.specs.Report.{HasNoWarnings}
use Rattle.modinfo_document.specs.Spelling.{WarnsOfLiterals}
use Rattle.modinfo_estree.specs.Document.{reads_estree}
use Rattle.modinfo.specs.Answer.{IsReportOn, WarnsOf}
use Rattle.modinfo.specs.Check.{IsConvertibleText, IsQuestionFaultReport, IsQuestionText, IsSourceFaultReport}
use Rattle.modinfo.specs.Check.{IsStoredFaultReport, OfReport, ReportsEncoding, WarnsOfQuestion}
use Rattle.modinfo.specs.Source.{IsSourceDocument}
use Rattle.modinfo.specs.declared.format.Format.{Format}
use Rattle.modinfo.specs.declared.format.Format.TheVariants.{Module, Estree, Source, Stored, Modules}
use Rattle.modinfo.proofs.format.Format.check.Goals as goal

-- The report says that the bytes aren't UTF-8.
abbrev IsOfEncoding : List ℕ → FaultReport → Type 0
IsOfEncoding bytes report = (¬ IsUtf8 bytes) × ReportsEncoding bytes report

-- A report on a text is one on its bytes.
of_document : (reads : Data → Option Contents) (points : Pointers) (text : List ℕ)
    (answer : Result Report AllocError) → IsUtf8 text → IfOk answer (IsReportIn reads points text)
    → IfOk answer (OfReport (IsUtf8 text × IsValidIn reads text)
    (λ report. IsOfEncoding text report ⊎ IsFaultReport reads points text report))
of_document reads points text (Ok (Valid warnings)) utf8 h = (utf8, h)
of_document reads points text (Ok (Invalid report)) utf8 h = inr h
of_document reads points text (Err failed) utf8 h = tt

of_text : (WhenValid : Type 0) (WhenFaulty : FaultReport → Type 0) (text : List ℕ)
    (answer : Result Report AllocError) → IsUtf8 text → IfOk answer (OfReport WhenValid WhenFaulty)
    → IfOk answer (OfReport (IsUtf8 text × WhenValid)
    (λ report. IsOfEncoding text report ⊎ WhenFaulty report))
of_text WhenValid WhenFaulty text (Ok (Valid warnings)) utf8 h = (utf8, h)
of_text WhenValid WhenFaulty text (Ok (Invalid report)) utf8 h = inr h
of_text WhenValid WhenFaulty text (Err failed) utf8 h = tt

-- No warning is promised of a report with a fault.
no_warnings : (format : Format) (text : List ℕ) (report : FaultReport) → WarnsOf format text (Invalid report)
no_warnings Module text report = tt
no_warnings Estree text report = tt
no_warnings Source text report = tt
no_warnings Stored text report = tt
no_warnings Modules text report = tt

-- Bytes that aren't UTF-8 have the report on that.
of_encoding : (format : Format) (text : List ℕ) (answer : Result Report AllocError) → ¬ IsUtf8 text
    → IfOk answer (OfReport ⊥ (ReportsEncoding text)) → IfOk answer (IsReportOn format text)
of_encoding format text (Ok (Valid warnings)) other h = absurd h
of_encoding format text (Ok (Invalid report)) other h = (inl (other, h), no_warnings format text report)
of_encoding format text (Err failed) other h = tt

-- Both promises of a report.
both : (P Q : Report → Type 0) (answer : Result Report AllocError) → IfOk answer P → IfOk answer Q
    → IfOk answer (λ report. P report × Q report)
both P Q (Ok report) p q = (p, q)
both P Q (Err failed) p q = tt

pub returns-in-Err : goal.returns-in-Err
returns-in-Err c =
    let valid = rw (sym c.valid_up_to.ensures) at c.in-Err.ensures.cases.1 in
    of_encoding c.args.self c.args.document.now c.report_invalid_utf8.result c.in-Err.ensures.cases.0
    (c.report_invalid_utf8.ensures valid)

pub returns-in-Module : goal.returns-in-Module
returns-in-Module c =
    let text = c.args.document.now in
    rw c.in-Module.is (both _ (WarnsOfLiterals text) c.check_document.result
    (of_document reads_document points_in_module text c.check_document.result c.in-Ok.ensures.cases.1
    (rw c.in-Ok.ensures.cases.0 at c.check_document.ensures.report))
    (rw c.in-Ok.ensures.cases.0 at c.check_document.ensures.warnings))

pub returns-in-Estree : goal.returns-in-Estree
returns-in-Estree c =
    let text = c.args.document.now in
    rw c.in-Estree.is (both _ HasNoWarnings c.check_estree.result
    (of_document reads_estree points_nowhere text c.check_estree.result c.in-Ok.ensures.cases.1
    (rw c.in-Ok.ensures.cases.0 at c.check_estree.ensures.report)) c.check_estree.ensures.warnings)

pub returns-in-Source : goal.returns-in-Source
returns-in-Source c =
    let text = c.args.document.now in
    rw c.in-Source.is (both _ HasNoWarnings c.check_source.result
    (of_text (IsSourceDocument text) (IsSourceFaultReport text) text c.check_source.result
    c.in-Ok.ensures.cases.1 (rw c.in-Ok.ensures.cases.0 at c.check_source.ensures.report))
    c.check_source.ensures.warnings)

pub returns-in-Stored : goal.returns-in-Stored
returns-in-Stored c =
    let text = c.args.document.now in
    rw c.in-Stored.is (both _ HasNoWarnings c.check_stored.result
    (of_text (IsConvertibleText text) (IsStoredFaultReport text) text c.check_stored.result
    c.in-Ok.ensures.cases.1 (rw c.in-Ok.ensures.cases.0 at c.check_stored.ensures.report))
    c.check_stored.ensures.warnings)

pub returns-in-Modules : goal.returns-in-Modules
returns-in-Modules c =
    let text = c.args.document.now in
    rw c.in-Modules.is (both _ (WarnsOfQuestion text) c.check_modules.result
    (of_text (IsQuestionText text) (IsQuestionFaultReport text) text c.check_modules.result
    c.in-Ok.ensures.cases.1 (rw c.in-Ok.ensures.cases.0 at c.check_modules.ensures.report))
    (rw c.in-Ok.ensures.cases.0 at c.check_modules.ensures.warnings))
