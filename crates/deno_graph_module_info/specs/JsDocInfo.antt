-- The JSDoc imports of a `ModuleInfo`.
use Rattle.std.specs.Prelude.{◌≡◌, ◌+◌, ◌-◌, ℕ, Bool, true, false, List, [], map, encode_utf8_all}
use Rattle.deno_graph_jsdoc.specs.JsDocImport.{Import}
use Rattle.deno_graph_module_info.specs.CommentImports.{AreImports}
use Rattle.deno_graph_info.specs.declared.analysis.js_doc_import_info.JsDocImportInfo.{JsDocImportInfo}
use Rattle.deno_graph_source.specs.declared.tree.comments.DependencyComment.{DependencyComment}
use Rattle.deno_graph_base.specs.Position.{position_at}

-- the info of an import: its specifier, the positions of the specifier with its two quotes, its mode;
-- the specifier of an import is after a quote, so its start isn't 0
abbrev pub info_of : List ℕ → Import → JsDocImportInfo
info_of text import = record {
  specifier = record {
    text = encode_utf8_all import.specifier;
    range = record { start = position_at text (import.start - 1); end = position_at text (import.end + 1) };
  };
  resolution_mode = import.mode;
}

-- the infos are those of all JSDoc imports in the comments, and there are none if the flag is false
abbrev pub IsJsDocList : Bool → List ℕ → List DependencyComment → List JsDocImportInfo → Type 0
IsJsDocList false text comments infos = infos ≡ []
IsJsDocList true text comments infos =
    (imports : List Import) × AreImports comments imports × (infos ≡ map (info_of text) imports)
