-- When a report on a text as a document is right.
use Rattle.std.specs.Prelude.{◌≡◌, ◌≢◌, ℕ, List, Option, Some, None, Ok, String}
use Rattle.std.specs.Rc.{rc_str_bytes}
use Rattle.std.specs.declared.alloc.Global.{Global}
use Rattle.url.specs.Parts.{Parts}
use Rattle.url.specs.Parser.{parse_url}
use Rattle.deno_graph_source.specs.FaultPlace.{HasFaultAt}
use Rattle.deno_graph_source.specs.Source.{IsValid}
use Rattle.deno_graph_source.specs.declared.tree.fault.SourceFault.{SourceFault}
use Rattle.deno_graph_source.specs.declared.tree.fault_place.FaultPlace.{FaultPlace}
use Rattle.deno_graph_source.specs.declared.tree.fault_place.SourceFaultPlace.{SourceFaultPlace}
use Rattle.serde_json.specs.Data.{Data}
use Rattle.serde_json.specs.Read.{read as read_text}
use Rattle.modinfo_document.specs.Document.{Contents, HasErrorIn, IsDocumentIn, reads_document}
use Rattle.modinfo_document.specs.Error.{error_name}
use Rattle.modinfo_document.specs.ExpectedJson.{HasJsonPlace}
use Rattle.modinfo_document.specs.Place.{PointsToFault, PointsToOther, range_at, specifier_path}
use Rattle.modinfo_document.specs.Report.{HasPath, IsNamed, MatchReport, Reports}
use Rattle.modinfo_document.specs.declared.document.Document.{Document}
use Rattle.modinfo_document.specs.declared.error.DocumentError.{DocumentError}
use Rattle.modinfo_document.specs.declared.error.DocumentError.TheVariants.{Json, Tree, Specifier, Source}
use Rattle.modinfo_document.specs.declared.error.DocumentError.TheVariants.{OutOfMemory}
use Rattle.modinfo_document.specs.declared.report.FaultReport.{FaultReport}
use Rattle.modinfo_document.specs.declared.report.Report.{Report}
use Rattle.modinfo_document.specs.declared.report.Report.TheVariants.{Valid, Invalid}

-- The text is a document of a form whose specifier is a URL, and whose tree and comments fit its source.
pub record IsValidIn (reads : Data → Option Contents) (text : List ℕ) : Type 0 where
  pub document : Document
  pub is_document : IsDocumentIn reads text document
  pub has_url : (url : Parts) × (parse_url None document.specifier ≡ Ok url)
  pub is_valid : IsValid (rc_str_bytes document.source) document.program document.comments

-- The text has an error as a document of a form, other than a failed allocation.
abbrev pub IsInvalidIn : (Data → Option Contents) → List ℕ → Type 0
IsInvalidIn reads text = (error : DocumentError) × (error ≢ OutOfMemory) × HasErrorIn reads text error

-- The source of the document has the fault at the place.
abbrev pub IsFaultOf : Document → SourceFaultPlace → Type 0
IsFaultOf document found =
    HasFaultAt (rc_str_bytes document.source) document.program document.comments found.fault found.place

-- The pointers of a report on a fault of a document's source: that to the fault, and that to the other of
-- two comments. `Data` is the JSON of the document.
abbrev pub Pointers : Type 1
Pointers = Data → Document → SourceFaultPlace → Option (String Global) → Option (String Global) → Type 0

-- The report has the range of the fault, these pointers, and no place in the text.
pub record HasPlace (points : Pointers) (value : Data) (document : Document) (found : SourceFaultPlace)
    (report : FaultReport) : Type 0 where
  pub range : report.range ≡ range_at document.program document.comments found.place
  pub points_there : points value document found report.pointer report.other
  pub at : report.at ≡ None

-- Reports on documents of a form.
module _ (reads : Data → Option Contents) (points : Pointers) where
  -- The report has the place of a fault of the source of the text's document.
  pub record HasPlaceOf (text : List ℕ) (fault : SourceFault) (report : FaultReport) : Type 0 where
    pub value : Data
    pub is_value : read_text text ≡ Some value
    pub document : Document
    pub is_document : IsDocumentIn reads text document
    pub place : FaultPlace
    pub has_fault : IsFaultOf document (record { fault = fault; place = place })
    pub has_place : HasPlace points value document (record { fault = fault; place = place }) report

  -- The report has the place of the error: in the text for `Json`, else in the document.
  abbrev pub ReportsPlace : List ℕ → DocumentError → FaultReport → Type 0
  ReportsPlace text (Json _) report = HasJsonPlace text report
  ReportsPlace text (Tree mismatch) report = Reports mismatch report
  ReportsPlace text Specifier report = HasPath specifier_path report
  ReportsPlace text (Source fault) report = HasPlaceOf text fault report
  ReportsPlace text OutOfMemory report = ⊥

  -- The text has an error, and the report has its name and its place.
  pub record IsFaultReport (text : List ℕ) (report : FaultReport) : Type 0 where
    pub error : DocumentError
    pub has_error : HasErrorIn reads text error
    pub name : IsNamed (error_name error) report
    pub place : ReportsPlace text error report

  -- `Valid` is returned only for a valid document of a form, `Invalid` only with the name and the place of an
  -- error of the text.
  abbrev pub IsReportIn : List ℕ → Report → Type 0
  IsReportIn text (Valid warnings) = IsValidIn reads text
  IsReportIn text (Invalid report) = IsFaultReport text report

-- The pointers in a report on a module document.
abbrev pub points_in_module : Pointers
points_in_module value document found pointer other =
    PointsToFault value document.program document.comments found.fault found.place pointer
    × PointsToOther value document.comments found.place other

-- A report without pointers, on a document whose values aren't those of a module document.
abbrev pub points_nowhere : Pointers
points_nowhere value document found pointer other = (pointer ≡ None) × (other ≡ None)

-- `Valid` is returned only for a valid document of a form, `Invalid` only for a text with an error as one.
abbrev pub ReportsIn : (Data → Option Contents) → List ℕ → Report → Type 0
ReportsIn reads text = MatchReport (IsValidIn reads text) (IsInvalidIn reads text)

-- The report is one on a module document.
abbrev pub IsModuleReport : List ℕ → Report → Type 0
IsModuleReport = IsReportIn reads_document points_in_module
