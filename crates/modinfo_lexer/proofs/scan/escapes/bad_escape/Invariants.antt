-- What is left of the range.
use Rattle.std.proofs.Common.{◌-◌}
use Rattle.modinfo_lexer.proofs.scan.escapes.bad_escape.Given as goal

abbrev pub decreases-bytes : goal.decreases-bytes
decreases-bytes l = l.end - l.at
