use Rattle.std.proofs.Common.{subst, sym, ◌∙◌}
use Rattle.std.specs.List.Sorted.{IsPermutation}
use Rattle.modinfo_estree.proofs.ByteMarks.{all_marked}
use Rattle.modinfo_estree.proofs.marks.marks_in.Goals as goal

pub returns : goal.returns
returns c =
    let comments = c.args.comments.now in
    let sorted = c.sort_by_key.new.self.items in
    let moved = subst (λ ranges. IsPermutation ranges sorted) c.in_ok-ranges.ensures.items
    c.sort_by_key.ensures.permutation in
    let passed = subst (IsPermutation comments) (sym c.as_slice.ensures.value) moved in
    record {
      gaps = all_marked c.args.text.now comments c.as_slice.result.now c.in_ok-marks.marks.items
          c.mark_ranges.new.marks.items passed c.in_ok-marks.ensures.gaps c.mark_ranges.ensures;
      breaks = c.mark_ranges.ensures.breaks ∙ c.in_ok-marks.ensures.breaks;
    }
