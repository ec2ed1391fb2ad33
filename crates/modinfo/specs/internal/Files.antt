-- Printing the lines of files.
use Rattle.std.specs.Prelude.{ℕ, List, Bool, Option}
use Rattle.std.specs.Io.KnownBytes.{Appends}
use Rattle.modinfo.specs.Files.{PrintsFile}
use Rattle.modinfo.specs.Lines.{PrintsEach}
use Rattle.modinfo.specs.Run.{AppendsFront}

-- What is printed for these names was appended to the output.
abbrev pub LeavesEach : Option (List ℕ) → List (List ℕ) → Option (List ℕ) → Option (List ℕ) → Bool → Type 0
LeavesEach folder names before after passes = (printed : List ℕ)
    × PrintsEach (PrintsFile folder) names passes printed × Appends before after printed

-- A beginning of what is printed for these names was appended to the output.
abbrev pub LeavesFirst : Option (List ℕ) → List (List ℕ) → Option (List ℕ) → Option (List ℕ) → Type 0
LeavesFirst folder first before after = (passes : Bool) × (printed : List ℕ)
    × PrintsEach (PrintsFile folder) first passes printed × AppendsFront before after printed
