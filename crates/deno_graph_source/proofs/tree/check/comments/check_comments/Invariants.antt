-- The text has the comments so far.
use Rattle.std.proofs.Common.{take}
use Rattle.std.specs.List.{All}
use Rattle.deno_graph_source.specs.Source.{IsSpelled}
use Rattle.deno_graph_source.proofs.tree.check.comments.check_comments.Given as goal

abbrev pub invariant-loop-comment : goal.invariant-loop-comment
invariant-loop-comment l = All (λ comment. IsSpelled l.text comment.now) (take l.comment-index l.comments)
