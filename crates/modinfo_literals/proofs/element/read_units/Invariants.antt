-- The elements so far, with their units; each element leaves less of the text.
use Rattle.std.proofs.Common.{length}
use denote.Text.{Utf8}
use denote.Shadow.{shadow}
use Rattle.std.specs.Str.{chars}
use Rattle.modinfo_literals.proofs.Reading.{IsSoFar}
use Rattle.modinfo_literals.proofs.element.read_units.Given as goal

abbrev pub invariant-loop-piece : goal.invariant-loop-piece
invariant-loop-piece l = shadow (Utf8 l.end) × IsSoFar l.form (chars l.text) (chars l.end) l.units.items

abbrev pub decreases-loop-piece : goal.decreases-loop-piece
decreases-loop-piece l = length (chars l.end)
