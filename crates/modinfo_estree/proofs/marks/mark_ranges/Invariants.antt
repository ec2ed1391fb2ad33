-- The bytes of the ranges so far are marked.
use Rattle.std.proofs.Common.{take}
use Rattle.std.specs.List.{list_any}
use Rattle.modinfo_estree.specs.Tokens.{has_byte}
use Rattle.modinfo_estree.specs.internal.Marks.{AreMarked}
use Rattle.modinfo_estree.proofs.ByteMarks.{IsPast}
use Rattle.modinfo_estree.proofs.marks.mark_ranges.Given as goal

abbrev pub invariant-loop-range : goal.invariant-loop-range
invariant-loop-range l = record {
  marked : AreMarked (λ at. list_any (has_byte at) (take l.range-index l.ranges)) l.fn.marks.items
      l.marks.items;
  past : IsPast l.ranges l.range-index l.last;
}
