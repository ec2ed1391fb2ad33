-- What a run leaves in the output after a fault.
use Rattle.std.proofs.Common.{ℕ, List, Bool, Option}
use Rattle.std.proofs.KnownBytes.{Keeps-refl}
use Rattle.modinfo.specs.Fault.{IsWriteFault}
use Rattle.modinfo.specs.Run.{AppendsFront, LeavesFront}
use Rattle.modinfo.specs.declared.fault.Fault.{Fault}

-- No write failed, and the output is unchanged.
pub nothing_left : (Prints : Bool → List ℕ → Type 0) (output : Option (List ℕ)) (fault : Fault)
    → ¬ IsWriteFault fault → LeavesFront Prints output output fault
nothing_left Prints output fault apart = record {
  unchanged = λ is_apart. Keeps-refl output;
  front = λ same. absurd (apart same);
}

-- A write failed, after a beginning of a line.
pub front_left : (Prints : Bool → List ℕ → Type 0) (before after : Option (List ℕ)) (fault : Fault)
    (passes : Bool) (line : List ℕ) → Prints passes line → IsWriteFault fault → AppendsFront before after line
    → LeavesFront Prints before after fault
front_left Prints before after fault passes line prints same front = record {
  unchanged = λ apart. absurd (apart same);
  front = λ is. (passes, line, prints, front);
}
