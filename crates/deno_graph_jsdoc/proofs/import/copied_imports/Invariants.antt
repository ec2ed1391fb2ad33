-- The copies so far are equal to the imports so far.
use Rattle.std.proofs.Common.{◌≡◌, map, take}
use Rattle.deno_graph_jsdoc.specs.JsDocImport.{import_of}
use Rattle.deno_graph_jsdoc.proofs.import.copied_imports.Given as goal

abbrev pub invariant-loop-import : goal.invariant-loop-import
invariant-loop-import l = map import_of l.copies.items ≡ map import_of (take l.import-index l.imports)
