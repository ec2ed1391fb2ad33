-- The comments at the ranges so far were filed.
use Rattle.std.proofs.Common.{take}
use Rattle.modinfo_estree.specs.internal.Comments.{AreAllFiled}
use Rattle.modinfo_estree.proofs.comments.file_comments.Given as goal

abbrev pub invariant-loop-range : goal.invariant-loop-range
invariant-loop-range l =
    AreAllFiled l.text l.tokens l.ends l.is_empty (take l.range-index l.ranges) l.initial.comments
    l.comments
