-- White space so far.
use Rattle.std.proofs.Common.{length, ◌-◌}
use Rattle.modinfo_pieces.specs.Spaces.{space_step}
use Rattle.modinfo_pieces.specs.Steps.{Reaches}
use Rattle.modinfo_pieces.proofs.scan.spaces.space_end.Given as goal

abbrev pub invariant-spaces : goal.invariant-spaces
invariant-spaces l = Reaches (space_step l.text) l.from l.at

abbrev pub decreases-spaces : goal.decreases-spaces
decreases-spaces l = length l.text - l.at
