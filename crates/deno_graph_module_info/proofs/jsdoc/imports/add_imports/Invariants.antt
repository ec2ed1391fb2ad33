-- The list has the imports so far.
use Rattle.std.proofs.Common.{◌+◌, take, map}
use Rattle.std.specs.List.{Contains}
use Rattle.deno_graph_jsdoc.specs.JsDocImport.{import_of, moved}
use Rattle.deno_graph_module_info.specs.internal.CommentImportSteps.{GainsImports}
use Rattle.deno_graph_module_info.proofs.jsdoc.imports.add_imports.Given as goal

abbrev pub invariant-loop-import : goal.invariant-loop-import
invariant-loop-import l =
    GainsImports (map import_of l.fn.imports.items)
    (Contains (map (λ x. moved (l.comment.range.start + 2) (import_of x))
    (take l.import-index l.import-items))) (map import_of l.imports.items)
