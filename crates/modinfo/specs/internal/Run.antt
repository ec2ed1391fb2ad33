-- What a step of a run leaves in the output.
use Rattle.std.specs.Prelude.{ℕ, List, Bool, Option}
use Rattle.std.specs.Io.KnownBytes.{Appends}
use Rattle.modinfo.specs.Run.{LeavesFront}
use Rattle.modinfo.specs.declared.fault.Fault.{Fault}

-- A line that passes or not was appended to the output.
abbrev pub Leaves : (Bool → List ℕ → Type 0) → Option (List ℕ) → Option (List ℕ) → Bool → Type 0
Leaves Prints before after passes = (line : List ℕ) × Prints passes line × Appends before after line

-- There was a fault.
abbrev pub LeavesFault : (Bool → List ℕ → Type 0) → (Fault → Type 0) → Option (List ℕ) → Option (List ℕ)
    → Fault → Type 0
LeavesFault Prints Fails before after fault = Fails fault × LeavesFront Prints before after fault
