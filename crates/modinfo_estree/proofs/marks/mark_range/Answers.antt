use Rattle.std.proofs.Common.{◌≡◌, ◌<◌, ◌+◌, ◌==◌, ◌||◌, ℕ, length, min, arith}
use Rattle.modinfo_estree.specs.Tokens.{has_byte}
use Rattle.modinfo_estree.proofs.ByteMarks.{mark_byte, marked_also, none_marked, range_all, range_more}
use Rattle.modinfo_estree.proofs.ByteMarks.{range_none, tested}
use Rattle.modinfo_estree.proofs.marks.mark_range.Goals as goal

pub loop-at-init : goal.loop-at-init
loop-at-init c =
    let start = c.args.range.start in
    record {
      marked = none_marked (λ k. has_byte k (record { start = start; end = start })) c.args.marks.now.items
          (λ k. range_none start k);
      stop = omega arith;
    }

pub loop-at-preserved : goal.loop-at-preserved
loop-at-preserved c =
    let start = c.args.range.start in
    let i = c.loop-at.at in
    let old = c.args.marks.now.items in
    let marks = c.loop-at.marks.items in
    let inv = c.loop-at.invariant in
    let so_far = λ (k : ℕ). has_byte k (record { start = start; end = i }) in
    let more = λ (k : ℕ). has_byte k (record { start = start; end = i + 1 }) in
    let new = c.in_comment.result in
    let within : i < length marks =
    omega (arith, inv.marked.size, c.loop-at-test.true, c.min-at-end.ensures, c.len.ensures) in
    let byte = mark_byte marks i c.index.result.now new within c.index.ensures c.in_comment.ensures.gap
    c.in_comment.ensures.line in
    record {
      marked = tested (λ k. so_far k || (k == i)) more old _
          (marked_also so_far (λ k. k == i) old marks _ inv.marked byte)
          (λ k _. range_more start i k c.loop-at.auto.at);
      stop = omega (arith, c.loop-at-test.true);
    }

pub returns : goal.returns
returns c =
    let start = c.args.range.start in
    let end = c.args.range.end in
    let i = c.loop-at.at in
    let old = c.args.marks.now.items in
    let inv = c.loop-at.invariant in
    let stop : c.min-at-end.result ≡ min end (length old) =
    omega (arith, c.min-at-end.ensures, c.len.ensures) in
    tested (λ k. has_byte k (record { start = start; end = i })) (λ k. has_byte k c.args.range) old
    c.loop-at.marks.items inv.marked
    (λ k within. range_all start end i (length old) k c.loop-at.auto.at (omega (arith, inv.stop, stop))
    (omega (arith, stop, c.loop-at-test.false)) within)
