-- The comments so far were filed, and the others are left.
use Rattle.std.proofs.Common.{◌≡◌, List, [], ◌∷◌, ◌++◌}
use Rattle.deno_graph_source.specs.declared.tree.comments.DependencyComment.{DependencyComment}
use Rattle.modinfo_document.specs.Comments.{entry_with}
use Rattle.modinfo_document.specs.internal.Comments.{AreAppendedOn}
use Rattle.modinfo_document.proofs.comments.file_entry.Given as goal

abbrev pub invariant-loop-comment : goal.invariant-loop-comment
invariant-loop-comment l = (filed : List DependencyComment)
    × (l.initial.comment-iterator.rest.items ≡ filed ++ l.comment-iterator.rest.items)
    × AreAppendedOn l.fn.side l.fn.comments l.comments (entry_with l.position filed ∷ [])
