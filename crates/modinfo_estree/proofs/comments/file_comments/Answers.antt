use Rattle.std.proofs.Common.{subst}
use Rattle.std.proofs.lemmas.List.{take_all}
use Rattle.deno_graph_base.specs.declared.text.position.SourceRange.{SourceRange}
use Rattle.modinfo_estree.specs.internal.Comments.{AreAllFiled, IsFiled}
use Rattle.modinfo_estree.proofs.Filings.{all_filed, filed_more, none_filed}
use Rattle.modinfo_estree.proofs.comments.file_comments.Goals as goal

abbrev nowhere : SourceRange
nowhere = record { start = 0; end = 0 }

pub loop-range-init : goal.loop-range-init
loop-range-init c =
    none_filed c.args.text.now c.args.tokens.now c.args.ends.now c.args.is_empty c.args.ranges.now
    c.new-comments.result

pub loop-range-preserved : goal.loop-range-preserved
loop-range-preserved c =
    let text = c.args.text.now in
    let tokens = c.args.tokens.now in
    let ends = c.args.ends.now in
    let is_empty = c.args.is_empty in
    let ranges = c.args.ranges.now in
    let found = c.in_ok-comment.comment in
    let old = c.loop-range.comments in
    let filed = subst (λ place. IsFiled place found old c.file.new.comments)
    c.place_of-place.ensures c.in_ok-file.ensures in
    filed_more text tokens ends is_empty ranges c.loop-range.range-index nowhere found
    c.new-comments.result old c.file.new.comments c.loop-range-test.true c.in_ok-comment.ensures
    c.loop-range.invariant filed

pub returns : goal.returns
returns c =
    let text = c.args.text.now in
    let tokens = c.args.tokens.now in
    let ends = c.args.ends.now in
    let is_empty = c.args.is_empty in
    all_filed text tokens ends is_empty c.args.ranges.now c.new-comments.result
    c.loop-range.comments c.new-comments.ensures.leading c.new-comments.ensures.trailing
    (subst
    (λ ranges. AreAllFiled text tokens ends is_empty ranges c.new-comments.result c.loop-range.comments)
    (take_all c.loop-range.range-index c.args.ranges.now c.loop-range-test.false)
    c.loop-range.invariant)
