-- What follows from the report on a text.
use Rattle.std.proofs.Common.{◌≡◌, ◌≢◌, ℕ, List, Option, Some, None, Result, Ok, Err, IfOk, IsSomeAnd, inl}
use Rattle.std.proofs.Common.{inr}
use Rattle.std.specs.declared.alloc.AllocError.{AllocError}
use Rattle.serde_json.specs.Data.{Data}
use Rattle.serde_json.specs.Read.{read as read_text}
use Rattle.deno_graph_json.specs.Read.Error.{IsIn}
use Rattle.deno_graph_json.specs.declared.error.Mismatch.{Mismatch}
use Rattle.deno_graph_json.specs.declared.error.ReadError.TheVariants as read
use Rattle.std.specs.Rc.{rc_str_bytes}
use Rattle.deno_graph_source.specs.FaultName.{fault_name}
use Rattle.deno_graph_source.specs.Source.{HasFault}
use Rattle.deno_graph_source.specs.declared.tree.fault_place.SourceFaultPlace.{SourceFaultPlace}
use Rattle.modinfo_document.specs.Check.{HasPlace, IsFaultOf, IsFaultReport, IsReportIn, Pointers, ReportsIn}
use Rattle.modinfo_document.specs.Check.{ReportsPlace}
use Rattle.modinfo_document.specs.Document.{Contents, Has, IsDocumentIn, IsNoSource}
use Rattle.modinfo_document.specs.Error.{error_name}
use Rattle.modinfo_document.specs.ExpectedJson.{HasJsonPlace}
use Rattle.modinfo_document.specs.Place.{specifier_path}
use Rattle.modinfo_document.specs.Report.{HasPath, IsNamed, Reports}
use Rattle.modinfo_document.specs.declared.document.Document.{Document}
use Rattle.modinfo_document.specs.declared.error.DocumentError.{DocumentError}
use Rattle.modinfo_document.specs.declared.error.DocumentError.TheVariants.{Json, Tree, Specifier, Source}
use Rattle.modinfo_document.specs.declared.error.DocumentError.TheVariants.{OutOfMemory}
use Rattle.modinfo_document.specs.declared.report.FaultReport.{FaultReport}
use Rattle.modinfo_document.specs.declared.report.Report.{Report}
use Rattle.modinfo_document.specs.declared.report.Report.TheVariants.{Valid, Invalid}

module _ (reads : Data → Option Contents) (points : Pointers) (text : List ℕ) where
  -- An error with a place is no failed allocation.
  placed : (error : DocumentError) (report : FaultReport) → ReportsPlace reads points text error report
      → error ≢ OutOfMemory
  placed (Json offset) report place same = cc (same)
  placed (Tree mismatch) report place same = cc (same)
  placed Specifier report place same = cc (same)
  placed (Source fault) report place same = cc (same)
  placed OutOfMemory report place same = place

  -- The verdict of a report.
  pub verdict_of : (answer : Result Report AllocError) → IfOk answer (IsReportIn reads points text)
      → IfOk answer (ReportsIn reads text)
  verdict_of (Ok (Valid warnings)) is = is
  verdict_of (Ok (Invalid report)) is = (is.error, placed is.error report is.place, is.has_error)
  verdict_of (Err failed) is = tt

  -- The report on a text that isn't JSON.
  pub json_reported : (offset : ℕ) (report : FaultReport) → read_text text ≡ None
      → IsNamed (error_name (Json offset)) report → HasJsonPlace text report
      → IsFaultReport reads points text report
  json_reported offset report none name place =
      record { error = Json offset; has_error = inl none; name = name; place = place }

  -- The report on JSON of another form.
  pub tree_reported : (value : Data) (mismatch : Mismatch) (report : FaultReport)
      → read_text text ≡ Some value
      → (reads value ≡ None) × IsIn value (read.Mismatch mismatch)
      → IsNamed (error_name (Tree mismatch)) report → Reports mismatch report
      → IsFaultReport reads points text report
  tree_reported value mismatch report is error name reports = record {
    error = Tree mismatch;
    has_error = inl (value, is, error.0, error.1);
    name = name;
    place = reports;
  }

  -- The report on a specifier that is no URL.
  pub specifier_reported : (document : Document) (report : FaultReport) → IsDocumentIn reads text document
      → IsNoSource document Specifier → IsNamed (error_name Specifier) report → HasPath specifier_path report
      → IsFaultReport reads points text report
  specifier_reported document report is error name path = record {
    error = Specifier;
    has_error = inr (document, is, error);
    name = name;
    place = path;
  }

  -- The report on a fault of a document's source.
  pub source_reported : (value : Data) (document : Document) (found : SourceFaultPlace) (report : FaultReport)
      → read_text text ≡ Some value → IsSomeAnd (reads value) (λ contents. Has contents document)
      → HasFault (rc_str_bytes document.source) document.program document.comments found.fault
      → IsFaultOf document found → IsNamed (fault_name found.fault) report
      → HasPlace points value document found report
      → IsFaultReport reads points text report
  source_reported value document found report is has fault there name place = record {
    error = Source found.fault;
    has_error = inr (document, (value, is, has), fault);
    name = name;
    place = record {
      value = value;
      is_value = is;
      document = document;
      is_document = (value, is, has);
      place = found.place;
      has_fault = there;
      has_place = place;
    };
  }
