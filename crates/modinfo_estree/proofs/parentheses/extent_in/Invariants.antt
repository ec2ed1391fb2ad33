-- The parentheses that are left to find are around the range that was found so far.
use Rattle.std.proofs.Common.{◌≡◌}
use Rattle.modinfo_estree.specs.Parentheses.{extent_in_call, with_parentheses}
use Rattle.modinfo_estree.specs.Source.{source_of}
use Rattle.modinfo_estree.proofs.parentheses.extent_in.Given as goal

abbrev pub invariant-loop-left : goal.invariant-loop-left
invariant-loop-left l =
    with_parentheses (source_of l.fn.source) l.left l.fn.bounds l.extent
    ≡ extent_in_call (source_of l.fn.source) l.fn.bounds l.fn.range

abbrev pub decreases-loop-left : goal.decreases-loop-left
decreases-loop-left l = l.left
