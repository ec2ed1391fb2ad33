-- When a report on a document of `convert`, of `reach` or of `analyze --source` is right.
use Rattle.std.specs.Prelude.{◌≡◌, ◌≢◌, ◌⊎◌, ◌++◌, ℕ, ◌-◌, List, [], ◌∷◌, codes, IsSomeAnd, MatchOption}
use Rattle.std.specs.Prelude.{Option, None, Some, false}
use Rattle.std.specs.Str.{IsValidUpTo}
use Rattle.std.specs.String.{string_bytes}
use Rattle.serde_json.specs.Data.{Data, Items}
use Rattle.serde_json.specs.Events.{items_len}
use Rattle.serde_json.specs.Find.{as_array, get, get_item}
use Rattle.serde_json.specs.Read.{read as read_text}
use Rattle.serde_json.specs.Written.{has_float}
use Rattle.deno_graph_base.specs.Position.{IsAt}
use Rattle.deno_graph_base.specs.TextMap.{value_at}
use Rattle.deno_graph_json.specs.Read.Error.{IsIn}
use Rattle.deno_graph_json.specs.Read.Expected.{words}
use Rattle.deno_graph_json.specs.Read.Partial.{◌>>=◌}
use Rattle.deno_graph_json.specs.declared.error.Mismatch.{Mismatch}
use Rattle.deno_graph_json.specs.declared.error.ReadError.TheVariants as read
use Rattle.deno_graph_json.specs.declared.error.Step.{Step}
use Rattle.deno_graph_json.specs.declared.error.Step.TheVariants.{Item, Member}
use Rattle.deno_graph_json.specs.declared.expected.Expected.TheVariants.{Column, Integer}
use Rattle.deno_graph_info.specs.Conversion.{DependencyOverflows, IsConverted, IsConvertFault}
use Rattle.deno_graph_info.specs.Conversion.{dependencies_in}
use Rattle.deno_graph_info.specs.FaultName.{convert_fault_name, info_fault_name}
use Rattle.deno_graph_info.specs.declared.analysis.fault.InfoFault.{InfoFault}
use Rattle.deno_graph_info.specs.declared.analysis.fault.InfoFault.TheVariants.{Float}
use Rattle.deno_graph_info.specs.declared.analysis.fault.InfoFault.TheVariants.{OutOfMemory as NoMemory}
use Rattle.deno_graph_info.specs.declared.analysis.module_info.ModuleInfo.{ModuleInfo}
use Rattle.deno_graph_info.specs.declared.conversion.fault.ConvertFault.{ConvertFault}
use Rattle.deno_graph_info.specs.declared.conversion.fault.ConvertFault.TheVariants as convert
use Rattle.modinfo_document.specs.ExpectedJson.{HasJsonPlace}
use Rattle.modinfo_document.specs.Place.{range_in, specifier_path}
use Rattle.modinfo_document.specs.Report.{HasNone, HasOnly, HasPath, HasTextPlace, IsNamed, PointsInto}
use Rattle.modinfo_document.specs.Report.{Reports}
use Rattle.modinfo_document.specs.declared.report.FaultReport.{FaultReport}
use Rattle.modinfo_document.specs.declared.report.Report.{Report}
use Rattle.modinfo_document.specs.declared.report.Report.TheVariants.{Valid, Invalid}
use Rattle.modinfo_document.specs.declared.report.warning.Warning.{Warning}
use Rattle.modinfo_document.specs.declared.report.warning.WarningKind.TheVariants.{UnknownRoot}
use Rattle.modinfo_document.specs.declared.report.warning.Warnings.{Warnings}
use Rattle.modinfo.specs.Fault.{name_of_fault}
use Rattle.modinfo.specs.Reach.{Asks, IsQuestionFault, modules_alone}
use Rattle.modinfo.specs.Source.{CanBeParsed, IsNoInfoOfText, reads_text}
use Rattle.modinfo.specs.declared.fault.Fault.{Fault}
use Rattle.modinfo.specs.declared.fault.Fault.TheVariants.{Defect, OutOfMemory, Specifier, Syntax}
use Rattle.modinfo.specs.declared.source.SourceText.{SourceText}

-- The first holds where the report is `Valid`, the second of the report on a fault.
abbrev pub OfReport : Type 0 → (FaultReport → Type 0) → Report → Type 0
OfReport WhenValid WhenInvalid (Valid warnings) = WhenValid
OfReport WhenValid WhenInvalid (Invalid report) = WhenInvalid report

-- The value can be converted: it has no float, and there is a converted value.
abbrev pub CanBeConverted : Data → Type 0
CanBeConverted before = (has_float before ≡ false) × ((after : Data) × IsConverted before after)

-- The text is JSON that can be converted.
abbrev pub IsConvertibleText : List ℕ → Type 0
IsConvertibleText text = (before : Data) × (read_text text ≡ Some before) × CanBeConverted before

-- The text isn't JSON, and the report says so, with a place in the text and what is expected there.
pub record ReportsNoJson (text : List ℕ) (report : FaultReport) : Type 0 where
  pub no_json : read_text text ≡ None
  pub name : IsNamed (codes "Json") report
  pub place : HasJsonPlace text report

-- The report says that the bytes aren't UTF-8, with the place up to which they are.
pub record ReportsEncoding (bytes : List ℕ) (report : FaultReport) : Type 0 where
  pub name : IsNamed (codes "Input") report
  pub place : HasTextPlace bytes report
  pub first : IsSomeAnd report.at (λ at. IsValidUpTo bytes at.offset)

-- The report has the path of a float in the value, and says that a whole number is expected there.
abbrev pub PointsToFloat : Data → FaultReport → Type 0
PointsToFloat value report = (mismatch : Mismatch) × IsIn value (read.Mismatch mismatch)
    × (mismatch.expected ≡ Integer) × Reports mismatch report

-- The member of this name, an array.
abbrev pub array_in : List ℕ → Data → Option Items
array_in name d = get name d >>= as_array

-- The path of the column at which a comment of a dependency begins, by the indices of both.
abbrev pub column_path : ℕ → ℕ → List Step
column_path number comment = Item 1 ∷ Item 0 ∷ range_in (Item comment ∷ Member (codes "leadingComments")
    ∷ Item number ∷ Member (codes "dependencies") ∷ [])

-- The report has the path of the column at which the last comment of a dependency begins, and the types that
-- the comment names end beyond the largest column.
pub record PointsToColumn (dependencies : Items) (report : FaultReport) : Type 0 where
  pub number : ℕ
  pub dependency : Data
  pub comments : Items
  pub is_dependency : get_item number dependencies ≡ Some dependency
  pub overflows : DependencyOverflows dependency
  pub are_comments : array_in (codes "leadingComments") dependency ≡ Some comments
  pub path : HasPath (column_path number (items_len comments - 1)) report
  pub expected : string_bytes report.expected ≡ words Column

-- The value has a fault as stored information, and the report has the fault's name, and the path of the float
-- or of the column.
pub record ReportsStored (value : Data) (report : FaultReport) : Type 0 where
  pub fault : ConvertFault
  pub no_memory : fault ≢ convert.OutOfMemory
  pub has_fault : IsConvertFault value fault
  pub name : IsNamed (convert_fault_name fault) report
  pub place : fault ≡ convert.Float → PointsToFloat value report
  pub column : fault ≡ convert.ColumnOverflow
      → IsSomeAnd (dependencies_in value) (λ dependencies. PointsToColumn dependencies report)

-- The text isn't JSON, or its value has a fault; and the report says which.
abbrev pub IsStoredFaultReport : List ℕ → FaultReport → Type 0
IsStoredFaultReport text report = ReportsNoJson text report
    ⊎ ((value : Data) × (read_text text ≡ Some value) × ReportsStored value report)

-- `Valid` is returned only for a text that can be converted, `Invalid` only with a fault of the text.
abbrev pub ReportsOnStored : List ℕ → Report → Type 0
ReportsOnStored text = OfReport (IsConvertibleText text) (IsStoredFaultReport text)

-- The value has modules and a root.
abbrev pub AsksSome : Data → Type 0
AsksSome value = (modules : List (List ℕ × ModuleInfo)) × (root : List ℕ) × Asks value modules root

-- The text is JSON with modules and a root.
abbrev pub IsQuestionText : List ℕ → Type 0
IsQuestionText text = (value : Data) × (read_text text ≡ Some value) × AsksSome value

-- The value has a fault as a document of `reach`. The report has the fault's name, and the path of a value
-- that isn't what the report expects there: of a float in the modules where that is the fault.
pub record ReportsQuestion (value : Data) (report : FaultReport) : Type 0 where
  pub fault : InfoFault
  pub no_memory : fault ≢ NoMemory
  pub has_fault : IsQuestionFault value fault
  pub name : IsNamed (info_fault_name fault) report
  pub place : PointsInto value report
  pub float : fault ≡ Float → PointsToFloat (modules_alone value) report

-- The text isn't JSON, or its value has a fault; and the report says which.
abbrev pub IsQuestionFaultReport : List ℕ → FaultReport → Type 0
IsQuestionFaultReport text report = ReportsNoJson text report
    ⊎ ((value : Data) × (read_text text ≡ Some value) × ReportsQuestion value report)

-- `Valid` is returned only for a document of `reach`, `Invalid` only with a fault of the text.
abbrev pub ReportsOnQuestion : List ℕ → Report → Type 0
ReportsOnQuestion text = OfReport (IsQuestionText text) (IsQuestionFaultReport text)

-- The warnings on modules and a root: none if a module has the root as its key, else one about the root.
abbrev pub WarnsOfRoot : List (List ℕ × ModuleInfo) → List ℕ → Warnings → Type 0
WarnsOfRoot modules root warnings = MatchOption (value_at modules root)
    ((warning : Warning) × (string_bytes warning.pointer ≡ codes "/root") × (warning.kind ≡ UnknownRoot)
    × HasOnly warning warnings)
    (λ _. HasNone warnings)

-- A report without a fault has the warnings on the modules and the root of the value.
abbrev pub WarnsOfModules : Data → Report → Type 0
WarnsOfModules value (Valid warnings) = (modules : List (List ℕ × ModuleInfo)) × (root : List ℕ)
    × Asks value modules root × WarnsOfRoot modules root warnings
WarnsOfModules value (Invalid report) = Unit {0}

-- A report without a fault has the warnings on the modules and the root of the text.
abbrev pub WarnsOfQuestion : List ℕ → Report → Type 0
WarnsOfQuestion text (Valid warnings) = (value : Data) × (read_text text ≡ Some value)
    × WarnsOfModules value (Valid warnings)
WarnsOfQuestion text (Invalid report) = Unit {0}

-- What is expected, by a message of the parser: what follows `expected ` in the message, else valid syntax,
-- with the message.
abbrev pub IsExpectedBy : List ℕ → List ℕ → Type 0
IsExpectedBy message expected = (message ≡ codes "expected " ++ expected)
    ⊎ (((rest : List ℕ) → message ≢ codes "expected " ++ rest)
    × (expected ≡ codes "valid syntax: " ++ message))

-- The report has the pointer of the source of a document, and a place: a position of the text, and the offset
-- that the position has there. It has no other pointer, and no range.
pub record HasSourcePlace (text : List ℕ) (report : FaultReport) : Type 0 where
  pub pointer : IsSomeAnd report.pointer (λ pointer. string_bytes pointer ≡ codes "/source")
  pub other : report.other ≡ None
  pub range : report.range ≡ None
  pub at : IsSomeAnd report.at (λ at. IsAt text at.position at.offset)

-- The report has the place of the fault: of a bad specifier the specifier, of a syntax error or a defect the
-- source.
abbrev pub HasUnparsedPlace : SourceText → Fault → FaultReport → Type 0
HasUnparsedPlace text Specifier report = HasPath specifier_path report
HasUnparsedPlace text Syntax report = HasSourcePlace text.source report
HasUnparsedPlace text Defect report = HasSourcePlace text.source report
HasUnparsedPlace text fault report = Unit {0}

-- The text has a fault for which it has no information, and the report has the fault's name and place. Of a
-- syntax error and a defect this says only that the specifier is a URL, and that the report's place is one of
-- the source.
pub record ReportsUnparsed (text : SourceText) (report : FaultReport) : Type 0 where
  pub fault : Fault
  pub no_memory : fault ≢ OutOfMemory
  pub has_fault : IsNoInfoOfText text fault
  pub name : IsNamed (name_of_fault fault) report
  pub place : HasUnparsedPlace text fault report

-- `Valid` is returned only for a text of which there is a source, so one whose specifier is a URL; `Invalid`
-- only with a fault of the text.
abbrev pub ReportsOnText : SourceText → Report → Type 0
ReportsOnText text = OfReport (CanBeParsed text) (ReportsUnparsed text)

-- The value has no text. The report says so, and has the path of a value that isn't what it expects there.
pub record ReportsNoText (value : Data) (report : FaultReport) : Type 0 where
  pub no_text : reads_text value ≡ None
  pub name : IsNamed (codes "Tree") report
  pub place : PointsInto value report

-- The value has a text of which there is a source.
abbrev pub HasParsedText : Data → Type 0
HasParsedText value = (text : SourceText) × (reads_text value ≡ Some text) × CanBeParsed text

-- The value has no text, or one with a fault; and the report says which.
abbrev pub IsTextFaultReport : Data → FaultReport → Type 0
IsTextFaultReport value report = ReportsNoText value report
    ⊎ ((text : SourceText) × (reads_text value ≡ Some text) × ReportsUnparsed text report)

-- The document isn't JSON, or its value has a fault; and the report says which.
abbrev pub IsSourceFaultReport : List ℕ → FaultReport → Type 0
IsSourceFaultReport document report = ReportsNoJson document report
    ⊎ ((value : Data) × (read_text document ≡ Some value) × IsTextFaultReport value report)
