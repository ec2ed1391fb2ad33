-- No comment so far has the pragma.
use Rattle.std.proofs.Common.{take, All}
use Rattle.deno_graph_module_info.specs.Pragma.{HasPragma}
use Rattle.deno_graph_module_info.specs.internal.HeadPragma.{head_pragma}
use Rattle.deno_graph_module_info.proofs.head_pragmas.first_specifier.Given as goal

abbrev pub invariant-loop-comment : goal.invariant-loop-comment
invariant-loop-comment l =
    All (λ comment. ¬ HasPragma (head_pragma l.pragma) comment) (take l.comment-index l.head.comments.now)
