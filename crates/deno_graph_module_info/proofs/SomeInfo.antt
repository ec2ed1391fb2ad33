-- A valid source has a `ModuleInfo`.
use Rattle.std.proofs.Common.{ℕ, Bool, true, false, List, [], All, map, refl}
use Rattle.std.specs.Str.{IsUtf8}
use Rattle.deno_graph_source.specs.Comments.{FiledComments, comments_of}
use Rattle.deno_graph_source.specs.Source.{IsSpelled, IsValid}
use Rattle.deno_graph_source.specs.declared.tree.comments.DependencyComment.{DependencyComment}
use Rattle.deno_graph_source.specs.declared.tree.media_type.MediaType.{MediaType}
use Rattle.deno_graph_source.specs.declared.tree.node.Program.{Program}
use Rattle.deno_graph_info.specs.declared.analysis.dependency.DependencyDescriptor.{DependencyDescriptor}
use Rattle.deno_graph_info.specs.declared.analysis.js_doc_import_info.JsDocImportInfo.{JsDocImportInfo}
use Rattle.deno_graph_info.specs.declared.analysis.module_info.ModuleInfo.{ModuleInfo}
use Rattle.deno_graph_dep.specs.Descriptor.{Descriptor}
use Rattle.deno_graph_dep.proofs.SomeDescriptor.{some_dependencies}
use Rattle.deno_graph_module_info.specs.CommentImports.{AreApart, reads_jsdoc}
use Rattle.deno_graph_module_info.specs.HeadTail.{head_comments, tail_comments}
use Rattle.deno_graph_module_info.specs.JsDocInfo.{IsJsDocList, info_of}
use Rattle.deno_graph_module_info.specs.ModuleInfo.{AreDescribed, Describes, IsModuleInfo, comments_before}
use Rattle.deno_graph_module_info.specs.ModuleInfo.{dependency_of}
use Rattle.deno_graph_module_info.specs.Pragma.{comments_for_jsx, comments_for_types}
use Rattle.deno_graph_module_info.specs.Pragma.{jsx_import_source_pragma, jsx_import_source_types_pragma}
use Rattle.deno_graph_module_info.specs.Pragma.{self_types_pragma, source_mapping_url_pragma}
use Rattle.deno_graph_module_info.proofs.Collected.{imports_of}
use Rattle.deno_graph_module_info.proofs.SomeNamed.{names_first, names_last, names_types, partners}
use Rattle.deno_graph_module_info.proofs.SomeNamed.{references}
use Rattle.deno_graph_module_info.proofs.SomeScript.{some_script}

described : (source : List ℕ) (item : Descriptor)
    → (dependency : DependencyDescriptor) × Describes source item dependency
described source item =
    let types = names_types source (comments_before item) in
    (dependency_of source item types.0, record { types = types.0; names_types = types.1; is = refl })

some_described : (source : List ℕ) (program : Program) (comments : FiledComments)
    → IsValid source program comments
    → (dependencies : List DependencyDescriptor) × AreDescribed source program comments dependencies
some_described source program comments valid =
    let items = some_dependencies comments program valid.shapes in
    let each = partners (Describes source) (described source) items.0 in
    (each.0, record { items = items.0; are_dependencies = items.1; describe = each.1 })

some_imports : (reads : Bool) (text : List ℕ) (comments : List DependencyComment)
    → All (IsSpelled text) comments → AreApart comments
    → All (λ (comment : DependencyComment). IsUtf8 comment.text) comments
    → (infos : List JsDocImportInfo) × IsJsDocList reads text comments infos
some_imports false text comments spelled apart utf8 = ([], refl)
some_imports true text comments spelled apart utf8 =
    let imports = imports_of text comments spelled apart utf8 in
    (map (info_of text) imports.0, (imports.0, imports.1, refl))

pub some_info : (source : List ℕ) (media_type : MediaType) (program : Program) (comments : FiledComments)
    → IsValid source program comments
    → All (λ (comment : DependencyComment). IsUtf8 comment.text) (comments_of comments)
    → (info : ModuleInfo) × IsModuleInfo source media_type program comments info
some_info source media_type program comments valid utf8 =
    let head = head_comments program comments in
    let script = some_script program.body in
    let dependencies = some_described source program comments valid in
    let found = references source head in
    let self_types = names_first source self_types_pragma (comments_for_types media_type head) in
    let jsx = names_first source jsx_import_source_pragma (comments_for_jsx media_type head) in
    let jsx_types = names_first source jsx_import_source_types_pragma (comments_for_jsx media_type head) in
    let jsdoc = some_imports (reads_jsdoc media_type) source
    (comments_of comments) valid.spelled valid.apart utf8 in
    let map_url = names_last source source_mapping_url_pragma (tail_comments program comments) in (
      record {
        is_script = script.0;
        dependencies = dependencies.0;
        ts_references = found.0;
        self_types_specifier = self_types.0;
        jsx_import_source = jsx.0;
        jsx_import_source_types = jsx_types.0;
        jsdoc_imports = jsdoc.0;
        source_map_url = map_url.0;
      },
      record {
        is_script = script.1;
        dependencies = dependencies.1;
        ts_references = found.1;
        self_types_specifier = self_types.1;
        jsx_import_source = jsx.1;
        jsx_import_source_types = jsx_types.1;
        jsdoc_imports = jsdoc.1;
        source_map_url = map_url.1;
      },
    )
