-- Each step adds the info of one import.
use Rattle.std.proofs.Common.{◌<◌, ◌≤◌, List, length, map, sym, subst, rules}
use Rattle.std.proofs.lemmas.List.Elements.{All-push}
use Rattle.std.specs.List.{All}
use Rattle.deno_graph_jsdoc.specs.JsDocImport.{import_of}
use Rattle.deno_graph_jsdoc.specs.declared.import.JsDocImport.{JsDocImport}
use Rattle.deno_graph_module_info.specs.Spelled.{CoversInSameQuotes}
use Rattle.deno_graph_module_info.specs.CommentImports.{IsQuotedAt}
use Rattle.deno_graph_info.specs.declared.analysis.js_doc_import_info.JsDocImportInfo.{JsDocImportInfo}
use Rattle.deno_graph_module_info.proofs.InfoLemmas.{at_item, infos_more, infos_all}
use Rattle.deno_graph_module_info.proofs.jsdoc.infos.infos_of.Goals as goal

pub info_of-requires : goal.info_of-requires
info_of-requires c =
    let inside : c.loop-import.import-index < length c.deref-import-items.result.now = search rules in
    at_item (IsQuotedAt c.args.text_info.now) c.deref-import-items.result.now c.loop-import.import-index _
    inside
    (subst (λ (xs : List JsDocImport). All (IsQuotedAt c.args.text_info.now) (map import_of xs))
    (sym c.deref-import-items.ensures.value)
    (c.in_ok-imports.ensures.quoted c.args.text_info.now c.requires.spelled))

pub loop-import-preserved : goal.loop-import-preserved
loop-import-preserved c =
    let inside : c.loop-import.import-index < length c.deref-import-items.result.now = search rules in (
      infos_more c.args.text_info.now c.deref-import-items.result.now c.loop-import.import-index _
          c.loop-import.infos.items c.push.new.self.items c.in_ok-info_of.field-0 inside
          c.in_ok-info_of.ensures.info c.loop-import.invariant.0 c.in_ok-push.ensures.items,
      subst (All (λ (info : JsDocImportInfo). CoversInSameQuotes c.args.text_info.now info.specifier))
          (sym c.in_ok-push.ensures.items)
          (All-push (λ (info : JsDocImportInfo). CoversInSameQuotes c.args.text_info.now info.specifier)
          c.loop-import.infos.items c.in_ok-info_of.field-0 c.loop-import.invariant.1
          c.in_ok-info_of.ensures.covers),
    )

pub returns-clause-list : goal.returns-clause-list
returns-clause-list c =
    let done : length c.deref-import-items.result.now ≤ c.loop-import.import-index = search rules in (
      map import_of c.in_ok-imports.imports.items,
      c.in_ok-imports.ensures.all,
      infos_all c.args.text_info.now c.deref-import-items.result.now c.in_ok-imports.imports.items
          c.loop-import.import-index c.loop-import.infos.items done
          c.deref-import-items.ensures.value c.loop-import.invariant.0,
    )
