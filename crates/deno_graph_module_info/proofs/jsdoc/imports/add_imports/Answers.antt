-- Each step adds one import that the scan found.
use Rattle.std.proofs.Common.{◌≡◌, ◌+◌, ◌<◌, ◌≤◌, ◌∷◌, ◌++◌, ◌∙◌, None, List, [], ap, length, map, sym, subst}
use Rattle.std.proofs.Common.{arith, rules}
use Rattle.std.proofs.lemmas.List.{map-append}
use Rattle.std.specs.Str.{IsUtf8, chars}
use Rattle.deno_graph_jsdoc.specs.JsDocImports.{AreImportsIn}
use Rattle.deno_graph_jsdoc.specs.internal.Pass.{GainsImport}
use Rattle.deno_graph_jsdoc.specs.JsDocImport.{Import, import_of}
use Rattle.deno_graph_jsdoc.specs.declared.import.JsDocImport.{JsDocImport}
use Rattle.deno_graph_module_info.proofs.Gathered.{import_in_text, insert_all, insert_next}
use Rattle.deno_graph_module_info.proofs.ImportRanges.{inner_bounds}
use Rattle.deno_graph_module_info.proofs.Pushed.{GainsImport-push, next_after}
use Rattle.deno_graph_module_info.proofs.jsdoc.imports.add_imports.Goals as goal
use Rattle.deno_graph_module_info.proofs.jsdoc.imports.add_imports.Goals.{After-deref-import-items}

inners : (c : After-deref-import-items)
    → AreImportsIn (chars c.args.comment.now.text) (map import_of c.deref-import-items.result.now)
inners c =
    subst (λ (xs : List JsDocImport). AreImportsIn (chars c.args.comment.now.text) (map import_of xs))
    (sym c.deref-import-items.ensures.value)
    (subst (λ t. AreImportsIn (chars t)
    (map import_of c.in_ok-found.found.imports.items)) c.as_str.ensures c.in_ok-found.ensures.imports)

utf8 : (c : After-deref-import-items) → IsUtf8 c.args.comment.now.text
utf8 c = subst IsUtf8 c.as_str.ensures c.as_str.utf8

-- a default value of a list's element
abbrev no_import : JsDocImport
no_import = record {
  specifier = record { ref_ptr = (0, 0); now = [] };
  specifier_range = record { start = 0; end = 0 };
  resolution_mode = None;
}

pub moved-requires-clause-order : goal.moved-requires-clause-order
moved-requires-clause-order c =
    let here = (goal.at.moved-requires-clause-order c).After-deref-import-items in
    let inside : c.loop-import.import-index < length c.deref-import-items.result.now = search rules in
    (inner_bounds c.args.comment.now.text _ (utf8 here)
    (import_in_text 0 c.deref-import-items.result.now c.loop-import.import-index _
    (chars c.args.comment.now.text) inside (inners here))).0

pub moved-requires-clause-fits : goal.moved-requires-clause-fits
moved-requires-clause-fits c =
    let here = (goal.at.moved-requires-clause-fits c).After-deref-import-items in
    let inside : c.loop-import.import-index < length c.deref-import-items.result.now = search rules in
    let bound = (inner_bounds c.args.comment.now.text _ (utf8 here)
    (import_in_text 0 c.deref-import-items.result.now c.loop-import.import-index no_import
    (chars c.args.comment.now.text) inside (inners here))).1 in
    omega (arith, bound, c.requires.fits)

pub loop-import-preserved : goal.loop-import-preserved
loop-import-preserved c =
    let here = (goal.at.loop-import-preserved c).After-deref-import-items in
    let inside : c.loop-import.import-index < length c.deref-import-items.result.now = search rules in
    let by = c.args.comment.now.range.start + 2 in
    let items = c.deref-import-items.result.now in
    let k = c.loop-import.import-index in
    let now = map import_of c.loop-import.imports.items in
    let import = import_of c.moved.result in
    let pushed : map import_of c.push.new.self.items ≡ now ++ import ∷ [] =
    ap (map import_of) c.in_ok-push.ensures.items
    ∙ map-append import_of c.loop-import.imports.items (c.moved.result ∷ []) in
    let later = next_after by items k no_import (map import_of c.args.imports.now.items) now
    (chars c.args.comment.now.text) inside (inners here) c.requires.before c.loop-import.invariant in
    insert_next by items k no_import (map import_of c.args.imports.now.items) now
    (map import_of c.push.new.self.items) import inside c.moved.ensures c.loop-import.invariant
    (subst (GainsImport now import) (sym pushed)
    (GainsImport-push now import c.loop-import.invariant.ascending (λ other has.
    subst (λ (i : Import). other.start < i.start) (sym c.moved.ensures) (later other has))))

pub returns-clause-gains : goal.returns-clause-gains
returns-clause-gains c =
    let here = (goal.at.returns-clause-gains c).After-deref-import-items in
    let done : length c.deref-import-items.result.now ≤ c.loop-import.import-index = search rules in
    insert_all (c.args.comment.now.range.start + 2) c.deref-import-items.result.now c.loop-import.import-index
    (map import_of c.args.imports.now.items)
    (map import_of c.loop-import.imports.items) (chars c.args.comment.now.text) done
    (inners here) c.loop-import.invariant
