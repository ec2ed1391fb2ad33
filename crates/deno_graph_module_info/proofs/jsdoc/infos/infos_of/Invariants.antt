-- The infos of the imports so far.
use Rattle.std.proofs.Common.{◌≡◌, take, map}
use Rattle.std.specs.List.{All}
use Rattle.deno_graph_jsdoc.specs.JsDocImport.{import_of}
use Rattle.deno_graph_module_info.specs.JsDocInfo.{info_of}
use Rattle.deno_graph_module_info.specs.Spelled.{CoversInSameQuotes}
use Rattle.deno_graph_module_info.proofs.jsdoc.infos.infos_of.Given as goal

abbrev pub invariant-loop-import : goal.invariant-loop-import
invariant-loop-import l =
    (l.infos.items ≡ map (λ import. info_of l.text_info (import_of import))
    (take l.import-index l.import-items))
    × All (λ info. CoversInSameQuotes l.text_info info.specifier) l.infos.items
