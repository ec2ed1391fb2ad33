-- The imports in the comments so far, and the end of the last of these comments.
use Rattle.std.proofs.Common.{map}
use Rattle.deno_graph_jsdoc.specs.JsDocImport.{import_of}
use Rattle.deno_graph_module_info.proofs.ReadComments.{AreRead}
use Rattle.deno_graph_module_info.proofs.jsdoc.imports.imports_of.Given as goal

abbrev pub invariant-loop-comment : goal.invariant-loop-comment
invariant-loop-comment l =
    AreRead (map (λ c. c.now) l.comments) l.comment-items l.comment-index
    (map import_of l.imports.items) l.end
