-- The digits begin where they begin before the offset so far.
use Rattle.std.proofs.Common.{◌≡◌}
use Rattle.modinfo_pieces.specs.Filed.{digits_start}
use Rattle.modinfo_pieces.proofs.filed.digits_start.Given as goal

abbrev pub invariant-digits : goal.invariant-digits
invariant-digits l = digits_start l.text l.from ≡ digits_start l.text l.at

abbrev pub decreases-digits : goal.decreases-digits
decreases-digits l = l.at
