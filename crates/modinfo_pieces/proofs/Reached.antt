-- Steps after steps.
use Rattle.std.proofs.Common.{Option}
use Rattle.modinfo_pieces.specs.Steps.{Ends, Reaches}
use Rattle.modinfo_pieces.specs.Steps.Reaches.{here, step}

reaches_on : {S : Type 0} (next : S → Option S) (from at to : S) → Reaches next from at → Reaches next at to
    → Reaches next from to
reaches_on next from at to before here = before
reaches_on next from at to before (step after is) = step (reaches_on next from at _ before after) is

pub ends_on : {S : Type 0} (next : S → Option S) (from at end : S) → Reaches next from at → Ends next at end
    → Ends next from end
ends_on next from at end before after =
    record { reached = reaches_on next from at end before after.reached; is_last = after.is_last }
