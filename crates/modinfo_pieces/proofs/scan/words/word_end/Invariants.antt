-- Bytes of the word so far.
use Rattle.std.proofs.Common.{length, ◌-◌}
use Rattle.modinfo_pieces.specs.Words.{word_step}
use Rattle.modinfo_pieces.specs.Steps.{Reaches}
use Rattle.modinfo_pieces.proofs.scan.words.word_end.Given as goal

abbrev pub invariant-letters : goal.invariant-letters
invariant-letters l = Reaches (word_step l.text) l.from l.at

abbrev pub decreases-letters : goal.decreases-letters
decreases-letters l = length l.text - l.at
