-- The bytes of the range so far are marked.
use Rattle.std.proofs.Common.{◌≤◌, max}
use Rattle.modinfo_estree.specs.Tokens.{has_byte}
use Rattle.modinfo_estree.specs.internal.Marks.{AreMarked}
use Rattle.modinfo_estree.proofs.marks.mark_range.Given as goal

abbrev pub invariant-loop-at : goal.invariant-loop-at
invariant-loop-at l = record {
  marked : AreMarked (λ k. has_byte k (record { start = l.fn.range.start; end = l.at })) l.fn.marks.items
      l.marks.items;
  stop : l.at ≤ max l.at-end l.fn.range.start;
}
