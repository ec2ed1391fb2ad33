-- The lines of an input, and what is printed for each of them.
use Rattle.std.specs.Io.KnownBytes.{Appends, Keeps}
use Rattle.std.specs.Prelude.{◌≡◌, ◌++◌, ◌&&◌, ◌==◌, ℕ, List, [], ◌∷◌, codes, Bool, true, false, Option}
use Rattle.std.specs.Prelude.{IfSome, if◌then◌else◌}
use Rattle.std.specs.String.{string_bytes}
use Rattle.modinfo.specs.Fault.{name_of_fault}
use Rattle.modinfo.specs.Run.{AppendsFront, IsFailure, IsNoResult, IsResult, error_line}
use Rattle.modinfo.specs.declared.fault.Fault.{Fault}
use Rattle.modinfo.specs.declared.command.Printed.{Printed}
use Rattle.modinfo.specs.declared.command.Command.{Command}
use Rattle.modinfo.specs.declared.command.Command.TheVariants.{Answer, Check}

-- The lines, with this byte before the first line.
abbrev pub before_first : ℕ → List (List ℕ) → List (List ℕ)
before_first byte [] = (byte ∷ []) ∷ []
before_first byte (line ∷ lines) = (byte ∷ line) ∷ lines

-- The parts of a text that a byte ends, without that byte. What follows the last such byte is one if it isn't
-- empty.
abbrev pub ended_by : ℕ → List ℕ → List (List ℕ)
ended_by end [] = []
ended_by end (byte ∷ text) =
    if byte == end then [] ∷ ended_by end text else before_first byte (ended_by end text)

-- The lines of a text, without their line feeds.
abbrev pub lines_of : List ℕ → List (List ℕ)
lines_of text = ended_by 10 text

-- The line with an answer or a report.
abbrev pub framed : Command → List ℕ → List ℕ
framed (Answer format) text = codes "{\"answer\":" ++ text ++ codes "}\n"
framed (Check format is_strict) text = text ++ codes "\n"

-- The line with a fault.
abbrev pub fault_line : Fault → List ℕ
fault_line fault = codes "{\"fault\":\"" ++ name_of_fault fault ++ codes "\"}\n"

-- Whether a line without an answer or a report passes: only a check can fail a run.
abbrev pub passes_without : Command → Bool
passes_without (Answer format) = true
passes_without (Check format is_strict) = false

-- The printed result is that of a command for a document.
abbrev pub IsPrinted : Command → List ℕ → Printed → Type 0
IsPrinted command document printed =
    IsResult command document printed.is_passed (string_bytes printed.line)

-- What is printed for one line of the input, and whether the line passes.
pub data PrintsLine (command : Command) (line : List ℕ) : Bool → List ℕ → Type 0 where
  with_result : {passes : Bool} (text : List ℕ) → IsResult command line passes text
      → PrintsLine command line passes (framed command text)
  with_fault : (fault : Fault) → IsNoResult command line fault
      → PrintsLine command line (passes_without command) (fault_line fault)

-- What is printed for lines, or for the names of files, in the same order. They pass if each passes.
pub data PrintsEach (Prints : List ℕ → Bool → List ℕ → Type 0) : List (List ℕ) → Bool → List ℕ → Type 0 where
  none : PrintsEach Prints [] true []
  more : {line : List ℕ} {lines : List (List ℕ)} {passes all_pass : Bool} {printed rest : List ℕ}
      → Prints line passes printed → PrintsEach Prints lines all_pass rest
      → PrintsEach Prints (line ∷ lines) (passes && all_pass) (printed ++ rest)

abbrev pub PrintsLines : Command → List (List ℕ) → Bool → List ℕ → Type 0
PrintsLines command = PrintsEach (PrintsLine command)

-- What is printed for each line of the input was appended to the output.
abbrev pub LeavesLines : Command → Option (List ℕ) → Option (List ℕ) → Option (List ℕ) → Bool → Type 0
LeavesLines command input before after passes = (lines : List (List ℕ))
    × IfSome input (λ left. lines ≡ lines_of left)
    × (printed : List ℕ) × PrintsLines command lines passes printed × Appends before after printed

-- A read, a write or an allocation failed, and a beginning of what is printed for the first lines was
-- appended.
abbrev pub LeavesFirstLines : Command → Option (List ℕ) → Option (List ℕ) → Option (List ℕ) → Fault → Type 0
LeavesFirstLines command input before after fault = IsFailure fault
    × (lines : List (List ℕ)) × IfSome input (λ left. (rest : List (List ℕ))
    × (lines_of left ≡ lines ++ rest))
    × (passes : Bool) × (printed : List ℕ) × PrintsLines command lines passes printed
    × AppendsFront before after printed

-- A run that reads lines. The error output is unchanged, or got the line with the fault, or the beginning of
-- that line if a write failed.
pub data IsLinesRun (command : Command)
    (input output_before output_after errors_before errors_after : Option (List ℕ)) (status : ℕ)
    : Type 0 where
  printed : (passes : Bool) → LeavesLines command input output_before output_after passes
      → status ≡ (if passes then 0 else 1)
      → Keeps errors_before errors_after
      → IsLinesRun command input output_before output_after errors_before errors_after status
  failed : (fault : Fault) → LeavesFirstLines command input output_before output_after fault
      → status ≡ 1
      → AppendsFront errors_before errors_after (error_line fault)
      → IsLinesRun command input output_before output_after errors_before errors_after status
