-- The comments so far are filed.
use Rattle.std.proofs.Common.{take}
use Rattle.modinfo_source.specs.Comments.{AreFiled}
use Rattle.modinfo_source.proofs.comments.file_each.Given as goal

abbrev pub invariant-loop-comment : goal.invariant-loop-comment
invariant-loop-comment l = AreFiled l.text (take l.comment-index l.filed) l.comments
