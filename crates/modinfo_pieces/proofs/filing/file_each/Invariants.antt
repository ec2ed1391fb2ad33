-- The comments so far are filed.
use Rattle.std.proofs.Common.{◌≡◌, ◌++◌, map, take}
use Rattle.modinfo_pieces.specs.Filed.{filed_before}
use Rattle.modinfo_pieces.proofs.filing.file_each.Given as goal

abbrev pub invariant-loop-comment : goal.invariant-loop-comment
invariant-loop-comment l =
    l.filed.items ≡ l.fn.filed.items ++ map (filed_before l.text l.token) (take l.comment-index l.waiting)
