-- The infos of a list of imports.
use Rattle.std.proofs.Common.{◌≡◌, ℕ, ◌+◌, ◌<◌, ◌≤◌, List, [], ◌∷◌, ◌++◌, length, take, map, get_or, sym, ap}
use Rattle.std.proofs.Common.{◌∙◌, subst, arith}
use Rattle.std.proofs.lemmas.List.{get_or-map, length-map, map-append, take_all, take_more}
use Rattle.std.proofs.lemmas.Simd.{map-map}
use Rattle.std.specs.List.{All}
use Rattle.deno_graph_jsdoc.specs.JsDocImport.{Import, import_of}
use Rattle.deno_graph_jsdoc.specs.declared.import.JsDocImport.{JsDocImport}
use Rattle.deno_graph_module_info.specs.JsDocInfo.{info_of}
use Rattle.deno_graph_info.specs.declared.analysis.js_doc_import_info.JsDocImportInfo.{JsDocImportInfo}

-- a property of all imports, for one of them
pub at_item : (P : Import → Type 0) (items : List JsDocImport) (k : ℕ) (d : JsDocImport) → k < length items
    → All P (map import_of items) → P (import_of (get_or items k d))
at_item P items k d inside all =
    subst P (get_or-map import_of items k d (import_of d) inside)
    (all k (import_of d) (omega (arith, inside, length-map items import_of)))

module _ (text : List ℕ) where
  abbrev pub infos : List JsDocImport → List JsDocImportInfo
  infos items = map (λ (i : JsDocImport). info_of text (import_of i)) items

  pub infos_more : (items : List JsDocImport) (k : ℕ) (d : JsDocImport) (old new : List JsDocImportInfo)
      (info : JsDocImportInfo) → k < length items
      → info ≡ info_of text (import_of (get_or items k d)) → old ≡ infos (take k items)
      → new ≡ old ++ info ∷ [] → new ≡ infos (take (k + 1) items)
  infos_more items k d old new info inside is was more =
      more ∙ (λ i. was i ++ is i ∷ [])
      ∙ sym (ap infos (take_more items k d inside)
      ∙ map-append (λ (i : JsDocImport). info_of text (import_of i)) (take k items)
      (get_or items k d ∷ []))

  pub infos_all : (items all : List JsDocImport) (k : ℕ) (new : List JsDocImportInfo) → length items ≤ k
      → items ≡ all → new ≡ infos (take k items) → new ≡ map (info_of text) (map import_of all)
  infos_all items all k new done same is =
      is ∙ ap infos (take_all k items done ∙ same) ∙ sym (map-map (info_of text) import_of all)
