-- The `ModuleInfo` of a source.
use Rattle.std.specs.Prelude.{◌≡◌, ◌↔◌, ℕ, List, map, All, IfSome, IsTrue, Option}
use Rattle.std.specs.List.{AllZip}
use Rattle.deno_graph_source.specs.Comments.{FiledComments, comments_of}
use Rattle.deno_graph_source.specs.Source.{IsSpelled}
use Rattle.deno_graph_source.specs.declared.tree.comments.DependencyComment.{DependencyComment}
use Rattle.deno_graph_source.specs.declared.tree.media_type.MediaType.{MediaType}
use Rattle.deno_graph_source.specs.declared.tree.node.Program.{Program}
use Rattle.deno_graph_info.specs.declared.analysis.dependency.DependencyDescriptor.{DependencyDescriptor}
use Rattle.deno_graph_info.specs.declared.analysis.dependency.DependencyDescriptor.TheVariants.{Static}
use Rattle.deno_graph_info.specs.declared.analysis.dependency.DependencyDescriptor.TheVariants.{Dynamic}
use Rattle.deno_graph_info.specs.declared.analysis.dynamic_argument.DynamicArgument.{DynamicArgument}
use Rattle.deno_graph_info.specs.declared.analysis.dynamic_argument.DynamicArgument.TheVariants as argument
use Rattle.deno_graph_info.specs.declared.analysis.dynamic_argument.DynamicTemplatePart.{DynamicTemplatePart}
use Rattle.deno_graph_info.specs.declared.analysis.dynamic_argument.DynamicTemplatePart.TheVariants as part
use Rattle.deno_graph_info.specs.declared.analysis.dynamic_dependency.DynamicDependencyDescriptor.{DynamicDependencyDescriptor}
use Rattle.deno_graph_info.specs.declared.analysis.module_info.ModuleInfo.{ModuleInfo}
use Rattle.deno_graph_info.specs.declared.analysis.specifier_with_range.SpecifierWithRange.{SpecifierWithRange}
use Rattle.deno_graph_info.specs.declared.analysis.static_dependency.StaticDependencyDescriptor.{StaticDependencyDescriptor}
use Rattle.deno_graph_dep.specs.Argument.{Form, ArgumentPart, text, parts, expression, known, unknown}
use Rattle.deno_graph_dep.specs.Dependencies.{AreDependencies}
use Rattle.deno_graph_dep.specs.Descriptor.{Descriptor, StaticDescriptor, DynamicDescriptor}
use Rattle.deno_graph_dep.specs.Descriptor.{static_descriptor, dynamic_descriptor, HasTextRanges}
use Rattle.deno_graph_module_info.specs.JsDocInfo.{IsJsDocList}
use Rattle.deno_graph_module_info.specs.CommentImports.{reads_jsdoc}
use Rattle.deno_graph_module_info.specs.HeadTail.{head_comments, tail_comments}
use Rattle.deno_graph_module_info.specs.Pragma.{comments_for_jsx, comments_for_types}
use Rattle.deno_graph_module_info.specs.Pragma.{jsx_import_source_pragma, jsx_import_source_types_pragma}
use Rattle.deno_graph_module_info.specs.Pragma.{positions_of, self_types_pragma, source_mapping_url_pragma}
use Rattle.deno_graph_module_info.specs.Pragma.{NamesFirst, NamesLast, NamesDependencyTypes}
use Rattle.deno_graph_module_info.specs.References.{AreReferences, CoversReference}
use Rattle.deno_graph_module_info.specs.Script.{IsScript}
use Rattle.deno_graph_module_info.specs.Spelled.{CoversAsWritten, CoversBare, CoversInSameQuotes}
use Rattle.deno_graph_module_info.specs.Spelled.{CoversQuoted}

-- the descriptor of a static dependency with these types
abbrev pub static_dependency_of :
    List ℕ → StaticDescriptor → Option SpecifierWithRange → StaticDependencyDescriptor
static_dependency_of source item types = record {
  kind = item.kind;
  types_specifier = types;
  specifier = item.specifier;
  specifier_range = positions_of source item.specifier_range;
  is_side_effect = item.is_side_effect;
  import_attributes = item.import_attributes;
}

-- a part of an argument as a part of a `DynamicArgument`
abbrev pub template_part_of : ArgumentPart → DynamicTemplatePart
template_part_of (known known_text) = part.String known_text
template_part_of unknown = part.Expr

-- an argument as a `DynamicArgument`
abbrev pub argument_of_form : Form → DynamicArgument
argument_of_form (text known_text) = argument.String known_text
argument_of_form (parts ps) = argument.Template (map template_part_of ps)
argument_of_form expression = argument.Expr

-- the descriptor of a dynamic dependency with these types
abbrev pub dynamic_dependency_of :
    List ℕ → DynamicDescriptor → Option SpecifierWithRange → DynamicDependencyDescriptor
dynamic_dependency_of source item types = record {
  kind = item.kind;
  types_specifier = types;
  argument = argument_of_form item.argument;
  argument_range = positions_of source item.argument_range;
  import_attributes = item.import_attributes;
}

-- the descriptor of a dependency with these types
abbrev pub dependency_of : List ℕ → Descriptor → Option SpecifierWithRange → DependencyDescriptor
dependency_of source (static_descriptor item) types = Static (static_dependency_of source item types)
dependency_of source (dynamic_descriptor item) types = Dynamic (dynamic_dependency_of source item types)

-- the comments before a dependency
abbrev pub comments_before : Descriptor → List DependencyComment
comments_before (static_descriptor item) = item.leading_comments
comments_before (dynamic_descriptor item) = item.leading_comments

-- the ranges of a dependency are ranges of the text, and the text has the comments before the
-- dependency
pub record FitsText (source : List ℕ) (item : Descriptor) : Type 0 where
  pub ranges : HasTextRanges source item
  pub comments : All (IsSpelled source) (comments_before item)

-- the descriptor is that of the dependency, with the types that the comments before the dependency
-- name
pub record Describes (source : List ℕ) (item : Descriptor)
    (dependency : DependencyDescriptor) : Type 0 where
  pub types : Option SpecifierWithRange
  pub names_types : NamesDependencyTypes source (comments_before item) types
  pub is : dependency ≡ dependency_of source item types

-- the specifier of the types of a dependency, if there is one
abbrev pub types_of : DependencyDescriptor → Option SpecifierWithRange
types_of (Static dependency) = dependency.types_specifier
types_of (Dynamic dependency) = dependency.types_specifier

-- the range of the specifier of a dependency's types covers the specifier, as the source spells it
abbrev pub CoversTypes : List ℕ → DependencyDescriptor → Type 0
CoversTypes source dependency = IfSome (types_of dependency) (CoversAsWritten source)

-- The descriptors are those of the dependencies of a program, each once and in tree order.
pub record AreDescribed (source : List ℕ) (program : Program) (comments : FiledComments)
    (dependencies : List DependencyDescriptor) : Type 0 where
  pub items : List Descriptor
  pub are_dependencies : AreDependencies comments program.body items
  pub describe : AllZip (Describes source) items dependencies

-- The `ModuleInfo` of a source: its dependencies, whether it is a script, and what the comments at
-- its head, at its tail and before its dependencies name, and its JSDoc comments import.
pub record IsModuleInfo (source : List ℕ) (media_type : MediaType)
    (program : Program) (comments : FiledComments) (info : ModuleInfo) : Type 0 where
  pub is_script : IsTrue info.is_script ↔ IsScript program.body
  pub dependencies : AreDescribed source program comments info.dependencies
  pub ts_references : AreReferences source (head_comments program comments) info.ts_references
  pub self_types_specifier :
      NamesFirst source self_types_pragma
      (comments_for_types media_type (head_comments program comments))
      info.self_types_specifier
  pub jsx_import_source :
      NamesFirst source jsx_import_source_pragma
      (comments_for_jsx media_type (head_comments program comments))
      info.jsx_import_source
  pub jsx_import_source_types :
      NamesFirst source jsx_import_source_types_pragma
      (comments_for_jsx media_type (head_comments program comments))
      info.jsx_import_source_types
  pub jsdoc_imports :
      IsJsDocList (reads_jsdoc media_type) source (comments_of comments) info.jsdoc_imports
  pub source_map_url :
      NamesLast source source_mapping_url_pragma (tail_comments program comments) info.source_map_url

-- each range of a specifier that a comment names covers exactly the specifier in the source, with its
-- quotes if it is quoted
pub record HasExactRanges (source : List ℕ) (info : ModuleInfo) : Type 0 where
  pub dependencies : All (CoversTypes source) info.dependencies
  pub ts_references : All (CoversReference source) info.ts_references
  pub self_types_specifier : IfSome info.self_types_specifier (CoversQuoted source)
  pub jsx_import_source : IfSome info.jsx_import_source (CoversBare source)
  pub jsx_import_source_types : IfSome info.jsx_import_source_types (CoversBare source)
  pub jsdoc_imports : All (λ import. CoversInSameQuotes source import.specifier) info.jsdoc_imports
  pub source_map_url : IfSome info.source_map_url (CoversBare source)
