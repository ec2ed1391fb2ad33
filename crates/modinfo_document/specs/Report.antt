-- Reports on documents.
use Rattle.std.specs.Prelude.{◌≡◌, ℕ, ◌≤◌, ◌<◌, ◌+◌, ◌-◌, ◌^◌, ◌⊎◌, Bool, List, [], ◌∷◌, ◌++◌, length, min}
use Rattle.std.specs.Prelude.{take, true, None, IsSomeAnd}
use Rattle.std.specs.String.{string_bytes}
use Rattle.serde_json.specs.Data.{Data}
use Rattle.deno_graph_json.specs.Read.Error.{IsIn}
use Rattle.deno_graph_json.specs.Read.Expected.{words}
use Rattle.deno_graph_json.specs.declared.error.Mismatch.{Mismatch}
use Rattle.deno_graph_json.specs.declared.error.ReadError.TheVariants as read
use Rattle.deno_graph_json.specs.declared.error.Step.{Step}
use Rattle.modinfo_document.specs.Pointer.{pointer_text}
use Rattle.modinfo_document.specs.declared.report.Report.{Report}
use Rattle.modinfo_document.specs.declared.report.FaultReport.{FaultReport}
use Rattle.modinfo_document.specs.declared.report.text_place.TextPlace.{TextPlace}
use Rattle.modinfo_document.specs.declared.report.warning.Warning.{Warning}
use Rattle.modinfo_document.specs.declared.report.warning.Warnings.{Warnings}
use Rattle.modinfo_document.specs.declared.report.Report.TheVariants.{Valid, Invalid}

-- The first holds where the report is `Valid`, the second where it is `Invalid`.
abbrev pub MatchReport : Type 0 → Type 0 → Report → Type 0
MatchReport WhenValid WhenInvalid (Valid warnings) = WhenValid
MatchReport WhenValid WhenInvalid (Invalid fault) = WhenInvalid

-- No warning is kept, and no other is counted.
abbrev pub HasNone : Warnings → Type 0
HasNone warnings = (warnings.kept.items ≡ []) × (warnings.more ≡ 0)

-- A report without a fault has no warnings.
abbrev pub HasNoWarnings : Report → Type 0
HasNoWarnings (Valid warnings) = HasNone warnings
HasNoWarnings (Invalid _) = Unit {0}

-- This warning is kept, and no other.
abbrev pub HasOnly : Warning → Warnings → Type 0
HasOnly warning warnings = (warnings.kept.items ≡ warning ∷ []) × (warnings.more ≡ 0)

-- The warning is added at the end; if 100 are kept, it is only counted.
abbrev pub Adds : Warning → Warnings → Warnings → Type 0
Adds warning before after = ((length before.kept.items < 100)
    × (after.kept.items ≡ before.kept.items ++ warning ∷ []) × (after.more ≡ before.more))
    ⊎ ((100 ≤ length before.kept.items) × (after.kept.items ≡ before.kept.items)
    × (after.more ≡ min (before.more + 1) (2 ^ 64 - 1)))

-- The warnings are the same.
abbrev pub AreSame : Warnings → Warnings → Type 0
AreSame before after = (after.kept.items ≡ before.kept.items) × (after.more ≡ before.more)

-- The first 100 of all warnings are kept, and the others are counted, up to the largest `usize`.
pub record Keeps (all : List Warning) (warnings : Warnings) : Type 0 where
  pub first : warnings.kept.items ≡ take 100 all
  pub others : warnings.more ≡ min (length all - 100) (2 ^ 64 - 1)

-- The check passed: the document is valid and, if the check is strict, has no warnings.
abbrev pub LetsPass : Bool → Report → Type 0
LetsPass is_strict (Valid warnings) = is_strict ≡ true → HasNone warnings
LetsPass is_strict (Invalid fault) = ⊥

-- The report has this fault.
abbrev pub IsNamed : List ℕ → FaultReport → Type 0
IsNamed name report = string_bytes report.fault ≡ name

-- The report has the pointer of this path, and no other place.
pub record HasPath (path : List Step) (report : FaultReport) : Type 0 where
  pub pointer : IsSomeAnd report.pointer (λ pointer. string_bytes pointer ≡ pointer_text path)
  pub other : report.other ≡ None
  pub range : report.range ≡ None
  pub at : report.at ≡ None

-- The report has the path of the mismatch as a JSON Pointer, and the expected value in words.
abbrev pub Reports : Mismatch → FaultReport → Type 0
Reports mismatch report = HasPath mismatch.path report
    × (string_bytes report.expected ≡ words mismatch.expected)

-- The report has the path of a value that isn't what the report expects there.
abbrev pub PointsInto : Data → FaultReport → Type 0
PointsInto value report = (mismatch : Mismatch) × IsIn value (read.Mismatch mismatch)
    × Reports mismatch report

-- The offset of the place is inside the text, or the text's length.
abbrev pub IsPlaceIn : List ℕ → TextPlace → Type 0
IsPlaceIn text place = place.offset ≤ length text

-- The report has a place in the text, and neither pointers nor a range.
pub record HasTextPlace (text : List ℕ) (report : FaultReport) : Type 0 where
  pub at : IsSomeAnd report.at (IsPlaceIn text)
  pub pointer : report.pointer ≡ None
  pub other : report.other ≡ None
  pub range : report.range ≡ None
