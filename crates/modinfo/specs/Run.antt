-- The status, the output and the error output of a run of the program.
use Rattle.std.specs.Prelude.{◌≡◌, ◌↔◌, ◌≤◌, ◌⊎◌, ◌++◌, ℕ, List, [], codes, take, Bool, IsTrue, Option}
use Rattle.std.specs.Prelude.{IfSome, if◌then◌else◌}
use Rattle.std.specs.Io.KnownBytes.{Appends, Keeps}
use Rattle.modinfo_document.specs.Report.{LetsPass}
use Rattle.modinfo_document.specs.ReportText.{report_text}
use Rattle.modinfo_document.specs.declared.report.Report.{Report}
use Rattle.modinfo.specs.Answer.{IsAnswerText, IsDocumentFault, IsReportOn}
use Rattle.modinfo.specs.Fault.{IsWriteFault, is_closed, name_of_fault}
use Rattle.modinfo.specs.declared.command.Command.{Command}
use Rattle.modinfo.specs.declared.command.Command.TheVariants.{Answer, Check}
use Rattle.modinfo.specs.declared.fault.Fault.{Fault}
use Rattle.modinfo.specs.declared.fault.Fault.TheVariants.{Input, Json, Tree, Specifier, Syntax, Defect}
use Rattle.modinfo.specs.declared.fault.Fault.TheVariants.{Source, Convert, Info, Output, Closed, OutOfMemory}
use Rattle.modinfo.specs.declared.format.Format.{Format}

-- A beginning of the text was appended.
abbrev pub AppendsFront : Option (List ℕ) → Option (List ℕ) → List ℕ → Type 0
AppendsFront old new text = (n : ℕ) × Appends old new (take n text)

-- The line of a fault on the error output. There is none where the reader of the output ended.
abbrev pub error_line : Fault → List ℕ
error_line fault =
    if is_closed fault then [] else codes "modinfo: " ++ name_of_fault fault ++ codes "\n"

-- A read, a write or an allocation failed.
abbrev pub IsFailure : Fault → Type 0
IsFailure Input = Unit {0}
IsFailure Json = ⊥
IsFailure Tree = ⊥
IsFailure Specifier = ⊥
IsFailure Syntax = ⊥
IsFailure Defect = ⊥
IsFailure (Source fault) = ⊥
IsFailure (Convert fault) = ⊥
IsFailure (Info fault) = ⊥
IsFailure Output = Unit {0}
IsFailure Closed = Unit {0}
IsFailure OutOfMemory = Unit {0}

-- The JSON of a report on a document, and whether the check passes.
abbrev pub IsChecked : Format → Bool → List ℕ → Bool → List ℕ → Type 0
IsChecked format is_strict document passes text = (report : Report)
    × IsReportOn format document report
    × (IsTrue passes ↔ LetsPass is_strict report)
    × (text ≡ report_text report)

-- The result of a command for a document: the answer, or the JSON of a report and whether the check passes.
abbrev pub IsResult : Command → List ℕ → Bool → List ℕ → Type 0
IsResult (Answer format) document passes text = IsTrue passes × IsAnswerText format document text
IsResult (Check format is_strict) document passes text = IsChecked format is_strict document passes text

-- Why there is no result: the document has this fault, or, for a check, an allocation failed.
abbrev pub IsNoResult : Command → List ℕ → Fault → Type 0
IsNoResult (Answer format) document fault = IsDocumentFault format document fault
IsNoResult (Check format is_strict) document fault = fault ≡ OutOfMemory

-- The result and a line feed.
abbrev pub PrintsResult : Command → List ℕ → Bool → List ℕ → Type 0
PrintsResult command document passes line = (text : List ℕ) × IsResult command document passes text
    × (line ≡ text ++ codes "\n")

-- Why a run on a document doesn't print the whole result: a read or a write failed, or there is no result.
abbrev pub IsRunFault : Command → List ℕ → Fault → Type 0
IsRunFault command document Input = Unit {0}
IsRunFault command document Output = Unit {0}
IsRunFault command document Closed = Unit {0}
IsRunFault command document fault = IsNoResult command document fault

-- What a fault leaves in the output: nothing; or, if a write failed, a beginning of a line that is printed.
pub record LeavesFront (Prints : Bool → List ℕ → Type 0) (before after : Option (List ℕ)) (fault : Fault)
    : Type 0 where
  pub unchanged : ¬ IsWriteFault fault → Keeps before after
  pub front : IsWriteFault fault → (passes : Bool) × (line : List ℕ) × Prints passes line
      × AppendsFront before after line

-- Either a line was appended to the output, and the error output is unchanged. Or there was a fault: its
-- line, or a beginning of that line, was appended to the error output, and the output is unchanged or, if a
-- write to the output failed, has a beginning of a line.
pub data IsRun (Prints : Bool → List ℕ → Type 0) (Fails : Fault → Type 0)
    (output_before output_after errors_before errors_after : Option (List ℕ)) (status : ℕ) : Type 0 where
  printed : (passes : Bool) (line : List ℕ) → Prints passes line
      → status ≡ (if passes then 0 else 1)
      → Appends output_before output_after line
      → Keeps errors_before errors_after
      → IsRun Prints Fails output_before output_after errors_before errors_after status
  failed : (fault : Fault) → Fails fault → status ≡ 1
      → LeavesFront Prints output_before output_after fault
      → AppendsFront errors_before errors_after (error_line fault)
      → IsRun Prints Fails output_before output_after errors_before errors_after status

-- A run on one document, which is the input if its bytes are known.
abbrev pub IsDocumentRun : Command → Option (List ℕ) → Option (List ℕ) → Option (List ℕ) → Option (List ℕ)
    → Option (List ℕ) → ℕ → Type 0
IsDocumentRun command input output_before output_after errors_before errors_after status =
    (document : List ℕ) × IfSome input (λ left. document ≡ left)
    × IsRun (PrintsResult command document) (IsRunFault command document)
    output_before output_after errors_before errors_after status

-- A run that prints a text of the program about itself.
abbrev pub IsTextRun : List ℕ → Option (List ℕ) → Option (List ℕ) → Option (List ℕ) → Option (List ℕ) → ℕ
    → Type 0
IsTextRun text = IsRun (λ passes line. IsTrue passes × (line ≡ text)) IsWriteFault

-- A run with wrong words: only the usage, or a beginning of it, was printed, on the error output.
pub record IsWrongRun (usage : List ℕ)
    (output_before output_after errors_before errors_after : Option (List ℕ)) (status : ℕ) : Type 0 where
  pub is : status ≡ 2
  pub unchanged : Keeps output_before output_after
  pub usage_printed : AppendsFront errors_before errors_after (usage ++ codes "\n")
