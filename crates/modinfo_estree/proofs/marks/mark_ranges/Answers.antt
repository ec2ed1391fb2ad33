use Rattle.std.proofs.Common.{◌+◌, get_or, refl, subst, sym, take}
use Rattle.std.proofs.lemmas.List.{get_or_default, take_all}
use Rattle.std.specs.List.{list_any}
use Rattle.deno_graph_base.specs.declared.text.position.SourceRange.{SourceRange}
use Rattle.modinfo_estree.specs.Tokens.{has_byte}
use Rattle.modinfo_estree.specs.internal.Marks.{AreMarked}
use Rattle.modinfo_estree.proofs.ByteMarks.{IsPast, mark_more, none_marked, nothing_past, past_range}
use Rattle.modinfo_estree.proofs.ByteMarks.{still_past}
use Rattle.modinfo_estree.proofs.marks.mark_ranges.Goals as goal
use Rattle.modinfo_estree.proofs.marks.mark_ranges.Goals.{then-range-last, else-range-last}

abbrev nowhere : SourceRange
nowhere = record { start = 0; end = 0 }

pub loop-range-init : goal.loop-range-init
loop-range-init c = record {
  marked = none_marked (λ at. list_any (has_byte at) (take 0 c.args.ranges.now)) c.args.marks.now.items
      (λ at. refl);
  past = nothing_past c.args.ranges.now _ c.new-last.ensures;
}

pub loop-range-preserved : goal.loop-range-preserved
loop-range-preserved c =
    let ranges = c.args.ranges.now in
    let i = c.loop-range.range-index in
    let r : SourceRange = get_or ranges i nowhere in
    let within = c.loop-range-test.true in
    let is = get_or_default ranges i nowhere r within in
    let inv = c.loop-range.invariant in
    record {
      marked = mark_more ranges i r c.loop-range.last c.part_after.result c.args.marks.now.items
          c.loop-range.marks.items c.mark_range.new.marks.items within is inv.past c.part_after.ensures
          inv.marked c.mark_range.ensures;
      past = elim c.if-range-last.branch [
        | then-range-last w ↦ subst (IsPast ranges (i + 1)) (sym w.last-is) (past_range ranges i r within is)
        | else-range-last w ↦
            subst (IsPast ranges (i + 1)) (sym w.last-is) (still_past ranges i c.loop-range.last inv.past)
      ];
    }

pub returns : goal.returns
returns c =
    let old = c.args.marks.now.items in
    subst (λ ranges. AreMarked (λ at. list_any (has_byte at) ranges) old c.loop-range.marks.items)
    (take_all c.loop-range.range-index c.args.ranges.now c.loop-range-test.false)
    c.loop-range.invariant.marked
