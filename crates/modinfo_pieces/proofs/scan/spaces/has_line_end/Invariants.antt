-- No line terminator so far.
use Rattle.std.proofs.Common.{◌≡◌, ◌≤◌, false, ◌-◌}
use Rattle.modinfo_pieces.specs.Spaces.{has_line_end}
use Rattle.modinfo_pieces.proofs.scan.spaces.has_line_end.Given as goal

abbrev pub invariant-bytes : goal.invariant-bytes
invariant-bytes l = record {
  goes_on : l.from ≤ l.at;
  within : l.at - l.from ≤ l.to - l.from;
  none : has_line_end l.text l.from (l.at - l.from) ≡ false;
}

abbrev pub decreases-bytes : goal.decreases-bytes
decreases-bytes l = l.to - l.at
