-- What is left of the text.
use Rattle.std.proofs.Common.{length, ◌-◌}
use Rattle.modinfo_lexer.proofs.scan.numbers.digits_end.Given as goal

abbrev pub decreases-digits : goal.decreases-digits
decreases-digits l = length l.text - l.at
