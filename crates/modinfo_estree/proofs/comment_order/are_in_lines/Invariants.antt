-- The ranges so far are in lines, one after the other.
use Rattle.std.proofs.Common.{◌≡◌, drop}
use Rattle.modinfo_estree.specs.Comments.{are_in_lines}
use Rattle.modinfo_estree.proofs.comment_order.are_in_lines.Given as goal

abbrev pub invariant-loop-range : goal.invariant-loop-range
invariant-loop-range l =
    are_in_lines l.text l.from (drop l.range-index l.ranges) ≡ are_in_lines l.text 0 l.fn.ranges
