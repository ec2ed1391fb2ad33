-- The status of a call, and what the call writes to the memory of its caller.
use Rattle.std.specs.Prelude.{◌≡◌, ◌⊎◌, ◌++◌, ◌<◌, ◌≤◌, ℕ, List, codes, length, drop, Bool}
use Rattle.modinfo_document.specs.Report.{HasNoWarnings}
use Rattle.modinfo_document.specs.ReportText.{report_text}
use Rattle.modinfo_document.specs.declared.report.Report.{Report}
use Rattle.modinfo.specs.Check.{ReportsOnText}
use Rattle.modinfo.specs.Fault.{name_of_fault}
use Rattle.modinfo.specs.Lines.{PrintsLines, lines_of}
use Rattle.modinfo.specs.Run.{PrintsResult}
use Rattle.modinfo.specs.Source.{AreNoParts, HasParts, IsInfoOfText, IsNoInfoOfText}
use Rattle.modinfo.specs.declared.command.Command.{Command}
use Rattle.modinfo.specs.declared.fault.Fault.{Fault}
use Rattle.modinfo.specs.declared.fault.Fault.TheVariants.{OutOfMemory}
use Rattle.modinfo.specs.declared.source.SourceText.{SourceText}

-- The text was written to the start of the buffer, and the other bytes are unchanged.
pub record IsPut (text before after : List ℕ) : Type 0 where
  pub fits : length text ≤ length before
  pub is : after ≡ text ++ drop (length text) before

-- With the wanted status the text was written to the buffer. With status 2 the text is longer than the
-- buffer, which is unchanged. In both cases `needed` is the length of the text.
pub data IsLeft (text : List ℕ) (wanted : ℕ) (before after : List ℕ) (needed status : ℕ) : Type 0 where
  put : status ≡ wanted → needed ≡ length text → IsPut text before after
      → IsLeft text wanted before after needed status
  too_small : status ≡ 2 → needed ≡ length text → length before < length text → after ≡ before
      → IsLeft text wanted before after needed status

-- With status 0 an answer was written to the buffer, with status 1 the name of a fault of the document. With
-- status 2 the answer or name is longer than the buffer, which is unchanged. In each case `needed` is the
-- length of the answer or name.
pub data IsAnswered (IsAnswer : List ℕ → Type 0) (IsFault : Fault → Type 0) (before after : List ℕ)
    (needed status : ℕ) : Type 0 where
  answered : (line : List ℕ) → IsAnswer line → IsLeft line 0 before after needed status
      → IsAnswered IsAnswer IsFault before after needed status
  faulted : (fault : Fault) → IsFault fault → IsLeft (name_of_fault fault) 1 before after needed status
      → IsAnswered IsAnswer IsFault before after needed status

-- The only fault of a check: an allocation failed.
abbrev pub IsOutOfMemory : Fault → Type 0
IsOutOfMemory fault = fault ≡ OutOfMemory

-- The line is the printed result of a command for a document.
abbrev pub IsResultLine : Command → List ℕ → List ℕ → Type 0
IsResultLine command document line = (passes : Bool) × PrintsResult command document passes line

-- The text has the printed lines for the lines of the documents, in the same order.
abbrev pub IsLinesText : Command → List ℕ → List ℕ → Type 0
IsLinesText command documents text = (passes : Bool) × PrintsLines command (lines_of documents) passes text

-- The line is the information on the text with these parts, as compact JSON.
abbrev pub IsInfoLine : List ℕ → List ℕ → ℕ → List ℕ → Type 0
IsInfoLine source specifier number line = (of : SourceText) × HasParts source specifier number of
    × (text : List ℕ) × IsInfoOfText of text × (line ≡ text ++ codes "\n")

-- Why there is no such line: the parts are no text, or the text has no information.
abbrev pub IsNoInfoLine : List ℕ → List ℕ → ℕ → Fault → Type 0
IsNoInfoLine source specifier number fault = AreNoParts source specifier number fault
    ⊎ ((of : SourceText) × HasParts source specifier number of × IsNoInfoOfText of fault)

-- The line is the JSON of a report on the text with these parts, without warnings.
abbrev pub IsReportLine : List ℕ → List ℕ → ℕ → List ℕ → Type 0
IsReportLine source specifier number line = (of : SourceText) × HasParts source specifier number of
    × (report : Report) × ReportsOnText of report × HasNoWarnings report
    × (line ≡ report_text report ++ codes "\n")
