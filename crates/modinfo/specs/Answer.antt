-- The answer of a format to a document, and the faults of a document.
use Rattle.std.specs.Prelude.{◌≡◌, ◌≢◌, ◌⊎◌, ℕ, List, Option, Some, None, IsUtf8, false}
use Rattle.json.specs.Lex.{tokens}
use Rattle.json.specs.Print.{print}
use Rattle.serde_json.specs.Data.{Data}
use Rattle.serde_json.specs.Read.{read as read_text}
use Rattle.serde_json.specs.Written.{compact_text, has_float, IsInOrder}
use Rattle.deno_graph_source.specs.ParsedSource.{ParsedModule}
use Rattle.deno_graph_info.specs.Conversion.{IsConverted, IsConvertFault}
use Rattle.deno_graph_info.specs.Json.ModuleInfo.{json_of_info}
use Rattle.deno_graph_info.specs.declared.analysis.fault.InfoFault.TheVariants as info
use Rattle.deno_graph_info.specs.declared.analysis.module_info.ModuleInfo.{ModuleInfo}
use Rattle.deno_graph_info.specs.declared.conversion.fault.ConvertFault.TheVariants as convert
use Rattle.deno_graph_module_info.specs.InfoOfModule.{IsInfoOfModule}
use Rattle.modinfo_document.specs.Check.{IsFaultReport, IsValidIn, points_in_module, points_nowhere}
use Rattle.modinfo_document.specs.Document.{Contents, HasErrorIn, IsDocumentIn, IsSourceOf, reads_document}
use Rattle.modinfo_document.specs.Report.{HasNoWarnings}
use Rattle.modinfo_document.specs.Spelling.{WarnsOfLiterals}
use Rattle.modinfo_estree.specs.Document.{reads_estree}
use Rattle.modinfo_document.specs.declared.document.Document.{Document}
use Rattle.modinfo_document.specs.declared.error.DocumentError.{DocumentError}
use Rattle.modinfo_document.specs.declared.report.FaultReport.{FaultReport}
use Rattle.modinfo_document.specs.declared.report.Report.{Report}
use Rattle.modinfo.specs.Check.{IsConvertibleText, IsQuestionFaultReport, IsQuestionText, IsSourceFaultReport}
use Rattle.modinfo.specs.Check.{IsStoredFaultReport, OfReport, ReportsEncoding, WarnsOfQuestion}
use Rattle.modinfo.specs.declared.fault.Fault.{Fault}
use Rattle.modinfo.specs.declared.fault.Fault.TheVariants.{Input, Json, OutOfMemory}
use Rattle.modinfo.specs.declared.fault.Fault.TheVariants as fault_of
use Rattle.modinfo.specs.declared.format.Format.{Format}
use Rattle.modinfo.specs.declared.format.Format.TheVariants.{Module, Estree, Source, Stored, Modules}
use Rattle.modinfo.specs.Fault.{fault_of_document}
use Rattle.modinfo.specs.Reach.{IsQuestionFault, IsReachText}
use Rattle.modinfo.specs.Source.{IsNoTextInfo, IsSourceDocument, IsTextInfo}

-- The text is a document of a form, and the module is its source. `reads` reads the contents of a document
-- from JSON of the form.
pub record IsModuleOf (reads : Data → Option Contents) (text : List ℕ) (module_ : ParsedModule) : Type 0 where
  pub document : Document
  pub is_document : IsDocumentIn reads text document
  pub is_source : IsSourceOf document module_

-- The compact JSON of the information on the module of a document.
abbrev pub IsInfoText : (Data → Option Contents) → List ℕ → List ℕ → Type 0
IsInfoText reads document text = (module_ : ParsedModule) × IsModuleOf reads document module_
    × (info : ModuleInfo) × IsInfoOfModule module_ info
    × (text ≡ compact_text (json_of_info info))

-- Why bytes have no module: they aren't UTF-8, or the text has an error as a document of a form; or an
-- allocation failed.
abbrev pub IsNoModule : (Data → Option Contents) → List ℕ → Fault → Type 0
IsNoModule reads text Input = ¬ IsUtf8 text
IsNoModule reads text OutOfMemory = Unit {0}
IsNoModule reads text fault = (error : DocumentError) × (fault_of_document error ≡ fault)
    × HasErrorIn reads text error

-- Why bytes are no JSON: they aren't UTF-8, or the text isn't JSON; or an allocation failed.
abbrev pub IsNoJson : List ℕ → Fault → Type 0
IsNoJson bytes Input = ¬ IsUtf8 bytes
IsNoJson bytes Json = read_text bytes ≡ None
IsNoJson bytes OutOfMemory = Unit {0}
IsNoJson bytes fault = ⊥

-- The document is JSON without a float, and is converted to this value.
abbrev pub IsConversionOf : List ℕ → Data → Type 0
IsConversionOf document after = (before : Data) × (read_text document ≡ Some before)
    × (has_float before ≡ false) × IsConverted before after

-- JSON without white space between its tokens: one line, since line feeds in strings are escaped.
abbrev pub IsCompact : List ℕ → Type 0
IsCompact text = text ≡ print (tokens text)

-- The compact JSON of the value to which a document is converted.
abbrev pub IsConvertedText : List ℕ → List ℕ → Type 0
IsConvertedText document text = (after : Data) × IsConversionOf document after × IsInOrder text after
    × IsCompact text

-- Why a document isn't converted: it isn't JSON, or its value can't be converted; or an allocation failed.
abbrev pub IsNoConversion : List ℕ → Fault → Type 0
IsNoConversion document (fault_of.Convert inner) = (inner ≢ convert.OutOfMemory)
    × (before : Data) × (read_text document ≡ Some before) × IsConvertFault before inner
IsNoConversion document fault = IsNoJson document fault

-- Why a document of `reach` has no answer: it isn't JSON, or its value has a fault; or an allocation failed.
abbrev pub IsNoReach : List ℕ → Fault → Type 0
IsNoReach document (fault_of.Info inner) = (inner ≢ info.OutOfMemory)
    × (value : Data) × (read_text document ≡ Some value) × IsQuestionFault value inner
IsNoReach document fault = IsNoJson document fault

-- The answer of a format to the text of a document: compact JSON.
abbrev pub IsAnswerTo : Format → List ℕ → List ℕ → Type 0
IsAnswerTo Module document text = IsInfoText reads_document document text
IsAnswerTo Estree document text = IsInfoText reads_estree document text
IsAnswerTo Source document text = IsTextInfo document text
IsAnswerTo Stored document text = IsConvertedText document text
IsAnswerTo Modules document text = IsReachText document text

-- The bytes are UTF-8, and this is the answer to them.
abbrev pub IsAnswerText : Format → List ℕ → List ℕ → Type 0
IsAnswerText format document text = IsUtf8 document × IsAnswerTo format document text

-- The document has this fault, or an allocation failed.
abbrev pub IsDocumentFault : Format → List ℕ → Fault → Type 0
IsDocumentFault Module document fault = IsNoModule reads_document document fault
IsDocumentFault Estree document fault = IsNoModule reads_estree document fault
IsDocumentFault Source document fault = IsNoTextInfo document fault
IsDocumentFault Stored document fault = IsNoConversion document fault
IsDocumentFault Modules document fault = IsNoReach document fault

-- The text is a document of the format without a fault.
abbrev pub IsValidText : Format → List ℕ → Type 0
IsValidText Module text = IsValidIn reads_document text
IsValidText Estree text = IsValidIn reads_estree text
IsValidText Source text = IsSourceDocument text
IsValidText Stored text = IsConvertibleText text
IsValidText Modules text = IsQuestionText text

-- The bytes are UTF-8, and a document of the format without a fault.
abbrev pub IsValidDocument : Format → List ℕ → Type 0
IsValidDocument format document = IsUtf8 document × IsValidText format document

-- The text has a fault as a document of the format, and the report has the fault's name and its place.
abbrev pub ReportsTextFault : Format → List ℕ → FaultReport → Type 0
ReportsTextFault Module text report = IsFaultReport reads_document points_in_module text report
ReportsTextFault Estree text report = IsFaultReport reads_estree points_nowhere text report
ReportsTextFault Source text report = IsSourceFaultReport text report
ReportsTextFault Stored text report = IsStoredFaultReport text report
ReportsTextFault Modules text report = IsQuestionFaultReport text report

-- The report says that the bytes aren't UTF-8, or which fault the text has and where.
abbrev pub IsFaultReportOn : Format → List ℕ → FaultReport → Type 0
IsFaultReportOn format document report = ((¬ IsUtf8 document) × ReportsEncoding document report)
    ⊎ ReportsTextFault format document report

-- The warnings in a report without a fault: of a module document those of its literals, of a document of
-- `reach` that of its root; of others there is none.
abbrev pub WarnsOf : Format → List ℕ → Report → Type 0
WarnsOf Module document report = WarnsOfLiterals document report
WarnsOf Modules document report = WarnsOfQuestion document report
WarnsOf format document report = HasNoWarnings report

-- The report on a document is `Valid` only if the document has no fault, `Invalid` only with a fault of the
-- document, its name and its place; and it has these warnings.
abbrev pub IsReportOn : Format → List ℕ → Report → Type 0
IsReportOn format document report =
    OfReport (IsValidDocument format document) (IsFaultReportOn format document) report
    × WarnsOf format document report
