-- What is left of the text.
use Rattle.std.proofs.Common.{length, ◌-◌}
use Rattle.modinfo_lexer.proofs.classes.end_of_class.Given as goal

abbrev pub decreases-fours : goal.decreases-fours
decreases-fours l = length l.text - l.at

abbrev pub decreases-bytes : goal.decreases-bytes
decreases-bytes l = length l.text - l.at
