-- What was read so far: a front of the digits, with the rest of the text.
use Rattle.std.proofs.Common.{length}
use denote.Text.{Utf8}
use denote.Shadow.{shadow}
use Rattle.std.specs.Str.{chars}
use Rattle.modinfo_literals.proofs.Digits.{IsSoFar}
use Rattle.modinfo_literals.proofs.escape.read_digits.Given as goal

abbrev pub invariant-loop-digit : goal.invariant-loop-digit
invariant-loop-digit l =
    shadow (Utf8 l.rest) × IsSoFar l.base l.most (chars l.text) l.value l.count (chars l.rest)

abbrev pub decreases-loop-digit : goal.decreases-loop-digit
decreases-loop-digit l = length l.rest
