-- Bytes of the word so far.
use Rattle.std.proofs.Common.{length, ◌-◌}
use Rattle.modinfo_pieces.specs.Words.{word_step}
use Rattle.modinfo_pieces.specs.Steps.{Reaches}
use Rattle.modinfo_pieces.proofs.scan.words.rest_end.Given as goal

abbrev pub invariant-bytes : goal.invariant-bytes
invariant-bytes l = Reaches (word_step l.text) l.from l.at

abbrev pub decreases-bytes : goal.decreases-bytes
decreases-bytes l = length l.text - l.at
