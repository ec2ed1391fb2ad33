-- The JSDoc comments so far.
use Rattle.std.proofs.Common.{take, map}
use Rattle.deno_graph_module_info.specs.internal.CommentImportSteps.{AreJsDocOf}
use Rattle.deno_graph_module_info.proofs.jsdoc.imports.jsdoc_by_start.Given as goal

abbrev pub invariant-loop-comment : goal.invariant-loop-comment
invariant-loop-comment l =
    AreJsDocOf (map (λ c. c.now) (take l.comment-index l.comments)) (map (λ c. c.now) l.chosen.items)
