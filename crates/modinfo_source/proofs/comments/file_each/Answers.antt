-- Each turn files one more comment.
use Rattle.std.proofs.Common.{arith}
use Rattle.modinfo_source.proofs.FiledComments.{AreFiled-all, AreFiled-more, AreFiled-none}
use Rattle.modinfo_source.proofs.comments.file_each.Goals as goal

pub loop-comment-init : goal.loop-comment-init
loop-comment-init c =
    AreFiled-none c.args.text.now c.args.filed.now _ c.new-comments.ensures.leading
    c.new-comments.ensures.trailing

pub loop-comment-preserved : goal.loop-comment-preserved
loop-comment-preserved c =
    AreFiled-more c.args.text.now c.args.filed.now c.loop-comment.comment-index _ c.loop-comment.comments _
    c.loop-comment-test.true c.loop-comment.invariant c.in_ok-file.ensures

pub returns : goal.returns
returns c =
    AreFiled-all c.args.text.now c.args.filed.now c.loop-comment.comment-index _ (omega arith)
    c.loop-comment.invariant
