-- Characters of the regular expression so far.
use Rattle.std.proofs.Common.{length, ◌-◌}
use Rattle.modinfo_pieces.specs.Literals.{body_start, body_step}
use Rattle.modinfo_pieces.specs.Steps.{Reaches}
use Rattle.modinfo_pieces.proofs.scan.literals.body_end.Given as goal

abbrev pub invariant-bytes : goal.invariant-bytes
invariant-bytes l =
    Reaches (body_step l.text) (body_start l.from) (record { at = l.at; in_class = l.in_class })

abbrev pub decreases-bytes : goal.decreases-bytes
decreases-bytes l = length l.text - l.at
