-- Reports on parsed JSON.
use Rattle.serde_json.specs.Data.{Data}
use Rattle.modinfo_document.specs.declared.report.Report.{Report}
use Rattle.modinfo.specs.Check.{CanBeConverted, OfReport, ReportsStored}

-- `Valid` is returned only for a value that can be converted, `Invalid` only with a fault of the value.
abbrev pub ReportsOnValue : Data → Report → Type 0
ReportsOnValue before = OfReport (CanBeConverted before) (ReportsStored before)
