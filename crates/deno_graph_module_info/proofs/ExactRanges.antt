-- The ranges of the `ModuleInfo` of a valid source are exact.
use Rattle.std.proofs.Common.{◌≡◌, ℕ, ◌-◌, ⊎_elim, Bool, true, false, List, [], ◌∷◌, ◌++◌, length, Option}
use Rattle.std.proofs.Common.{Some, None, All, IfSome, refl, sym, subst, ◌∙◌, slice_get, get_or, codes}
use Rattle.std.proofs.Common.{if◌then◌else◌}
use Rattle.std.specs.List.{AllZip, Contains, flat_map}
use Rattle.std.specs.Option.{option_to_list}
use Rattle.std.specs.Str.{IsUtf8, chars}
use Rattle.std.proofs.lemmas.Bool.{false≢true}
use Rattle.std.proofs.lemmas.Option.{get_or_from_slice_get, slice_get_within}
use Rattle.std.proofs.lemmas.List.Elements.{All-nil, All-cons, All-head, All-tail, All-map, All-append}
use Rattle.std.proofs.lemmas.List.Elements.{All-from_recursion, All-contains, Contains-get_or}
use Rattle.deno_graph_info.specs.declared.analysis.dependency.DependencyDescriptor.{DependencyDescriptor}
use Rattle.deno_graph_info.specs.declared.analysis.specifier_with_range.SpecifierWithRange.{SpecifierWithRange}
use Rattle.deno_graph_info.specs.declared.analysis.js_doc_import_info.JsDocImportInfo.{JsDocImportInfo}
use Rattle.deno_graph_info.specs.declared.analysis.module_info.ModuleInfo.{ModuleInfo}
use Rattle.deno_graph_info.specs.declared.analysis.type_script_reference.TypeScriptReference.{TypeScriptReference}
use Rattle.deno_graph_info.specs.declared.analysis.type_script_reference.TypeScriptReference.TheVariants.{Path}
use Rattle.deno_graph_info.specs.declared.analysis.type_script_reference.TypeScriptReference.TheVariants.{Types}
use Rattle.deno_graph_jsdoc.specs.JsDocImport.{Import}
use Rattle.deno_graph_jsdoc.proofs.ImportsIn.{has_specifier}
use Rattle.deno_graph_pragmas.specs.Finders as finder
use Rattle.deno_graph_pragmas.specs.Split.{TextPart, IsCaptured, IsInQuotes}
use Rattle.deno_graph_pragmas.proofs.Captured.{captured_slice, attribute_in_quotes, pragma_in_quotes}
use Rattle.deno_graph_source.specs.Comments.{FiledComments, comments_of}
use Rattle.deno_graph_source.specs.MediaType.{is_typed}
use Rattle.deno_graph_source.specs.Source.{IsSpelled, IsValid}
use Rattle.deno_graph_source.specs.declared.tree.comments.DependencyComment.{DependencyComment}
use Rattle.deno_graph_source.specs.declared.tree.media_type.MediaType.{MediaType}
use Rattle.deno_graph_source.specs.declared.tree.node.Program.{Program}
use Rattle.deno_graph_dep.specs.Descriptor.{Descriptor, static_descriptor, dynamic_descriptor}
use Rattle.deno_graph_module_info.specs.CommentImports.{IsImportOf, reads_jsdoc}
use Rattle.deno_graph_module_info.specs.internal.HeadPragma.{Covers}
use Rattle.deno_graph_module_info.specs.HeadTail.{head_comments, tail_comments}
use Rattle.deno_graph_module_info.specs.JsDocInfo.{IsJsDocList, info_of}
use Rattle.deno_graph_module_info.specs.ModuleInfo.{CoversTypes, Describes, HasExactRanges, IsModuleInfo}
use Rattle.deno_graph_module_info.specs.ModuleInfo.{comments_before, dependency_of, types_of}
use Rattle.deno_graph_module_info.specs.Pragma.{Names, NamesDependencyTypesIn, NamesFirst, NamesLast, Pragma}
use Rattle.deno_graph_module_info.specs.Pragma.{dependency_types_pragmas, has_jsx, jsx_import_source_pragma}
use Rattle.deno_graph_module_info.specs.Pragma.{jsx_import_source_types_pragma, quoted, quoteless}
use Rattle.deno_graph_module_info.specs.Pragma.{self_types_pragma, source_mapping_url_pragma}
use Rattle.deno_graph_module_info.specs.References.{CoversReference, IsReferenceOf, RefersTo}
use Rattle.deno_graph_module_info.specs.References.{path_reference_pragma, types_reference_pragma}
use Rattle.deno_graph_module_info.specs.Spelled.{CoversAsWritten, CoversInSameQuotes}
use Rattle.deno_graph_module_info.proofs.InSource.{in_source, in_same_quotes}
use Rattle.deno_graph_module_info.proofs.ItemComments.{all_head, all_tail, all_before_dependencies}
use Rattle.deno_graph_module_info.proofs.Named.{covers_as_written}
use Rattle.deno_graph_module_info.proofs.ImportRanges.{quoted_at}

-- Lists

-- an element between two parts of a list is an element of the list
pub at_middle : {X : Type 0} (P : X → Type 0) (xs before after : List X) (x : X)
    → xs ≡ before ++ x ∷ after → All P xs → P x
at_middle P xs before after x whole all = here before (subst (All P) whole all)
  where
    here : (front : List _) → All P (front ++ x ∷ after) → P x
    here [] all = All-head P x after all
    here (y ∷ front) all = here front (All-tail P y (front ++ x ∷ after) all)

all_if : {X : Type 0} (P : X → Type 0) (b : Bool) (xs : List X) → All P xs
    → All P (if b then xs else []) × All P (if b then [] else xs)
all_if P true xs all = (all, All-nil P)
all_if P false xs all = (All-nil P, all)

some_of_all : {X : Type 0} (P : X → Type 0) (xs : List X) (k : ℕ) → All P xs → IfSome (slice_get xs k) P
some_of_all P xs k all = by (slice_get xs k) refl
  where
    by : (found : Option _) → slice_get xs k ≡ found → IfSome found P
    by None is = tt
    by (Some x) is = subst P (get_or_from_slice_get xs k x x is) (all k x (slice_get_within xs k x is))

-- A pragma

-- the part that a pragma captures is in quotes, unless the pragma has no quotes
abbrev Quotes : Pragma → Type 0
Quotes pragma = (text : List ℕ) (part : TextPart) → IsUtf8 text → IsCaptured pragma.pattern text part
    → pragma.is_quoteless ≡ false → IsInQuotes text part

attribute_quotes : (name : List ℕ) → Quotes (quoted (finder.attribute name))
attribute_quotes name text part utf8 is quotes = attribute_in_quotes name text part utf8 is

pragma_quotes : (name : List ℕ) → Quotes (quoted (finder.quoted_pragma name))
pragma_quotes name text part utf8 is quotes = pragma_in_quotes name text part utf8 is

no_quotes : (pragma : Pragma) → pragma.is_quoteless ≡ true → Quotes pragma
no_quotes pragma bare text part utf8 is quotes = absurd (false≢true (sym quotes ∙ bare))

type_quotes : All Quotes dependency_types_pragmas
type_quotes = All-from_recursion Quotes dependency_types_pragmas (
  pragma_quotes (codes "@ts-types"),
  (pragma_quotes (codes "@deno-types"), (no_quotes (quoteless finder.quoteless_deno_types_pattern) refl, tt)),
)

module _ (source : List ℕ) where
  -- the source has the comment, and the comment's text is UTF-8
  abbrev pub Fits : DependencyComment → Type 0
  Fits comment = IsSpelled source comment × IsUtf8 comment.text

  names_cover : (pragma : Pragma) (comment : DependencyComment) (specifier : SpecifierWithRange)
      → Quotes pragma → Fits comment → Names source pragma comment specifier
      → Covers source pragma.is_quoteless specifier
  names_cover pragma comment specifier quotes fits names =
      let slice = captured_slice pragma.pattern comment.text names.part fits.1 names.is_captured in
      let there = in_source source comment names.part pragma.is_quoteless fits.0 slice
      (quotes comment.text names.part fits.1 names.is_captured) in
      subst (Covers source pragma.is_quoteless) (sym names.is_specifier) there.covers

  first_covers : (pragma : Pragma) (comments : List DependencyComment) (specifier : Option SpecifierWithRange)
      → Quotes pragma → All Fits comments → NamesFirst source pragma comments specifier
      → IfSome specifier (Covers source pragma.is_quoteless)
  first_covers pragma comments None quotes fit names = tt
  first_covers pragma comments (Some specifier) quotes fit (comment, first, names) =
      names_cover pragma comment specifier quotes
      (at_middle Fits comments first.before first.after comment first.whole fit) names

  last_covers : (pragma : Pragma) (comments : List DependencyComment) (specifier : Option SpecifierWithRange)
      → Quotes pragma → All Fits comments → NamesLast source pragma comments specifier
      → IfSome specifier (Covers source pragma.is_quoteless)
  last_covers pragma comments None quotes fit names = tt
  last_covers pragma comments (Some specifier) quotes fit (comment, last, names) =
      names_cover pragma comment specifier quotes
      (at_middle Fits comments last.before last.after comment last.whole fit) names

  -- The types of a dependency

  types_cover : (last : Option DependencyComment) (specifier : Option SpecifierWithRange) → IfSome last Fits
      → NamesDependencyTypesIn source last specifier → IfSome specifier (CoversAsWritten source)
  types_cover None specifier fits none = subst (λ s. IfSome s (CoversAsWritten source)) (sym none) tt
  types_cover (Some comment) None fits names = tt
  types_cover (Some comment) (Some specifier) fits (pragma, first, names) =
      covers_as_written source pragma.is_quoteless specifier (names_cover pragma comment specifier
      (at_middle Quotes dependency_types_pragmas first.before first.after pragma first.whole type_quotes)
      fits names)

  types_are : (item : Descriptor) (types : Option SpecifierWithRange)
      → types_of (dependency_of source item types) ≡ types
  types_are (static_descriptor item) types = refl
  types_are (dynamic_descriptor item) types = refl

  dependency_covers : (item : Descriptor) (dependency : DependencyDescriptor)
      → All Fits (comments_before item)
      → Describes source item dependency → CoversTypes source dependency
  dependency_covers item dependency fit describes =
      subst (CoversTypes source) (sym describes.is)
      (subst (λ types. IfSome types (CoversAsWritten source)) (sym (types_are item describes.types))
      (types_cover (slice_get (comments_before item) (length (comments_before item) - 1)) describes.types
      (some_of_all Fits (comments_before item) (length (comments_before item) - 1) fit)
      describes.names_types))

  dependencies_cover : (items : List Descriptor) (dependencies : List DependencyDescriptor)
      → All (λ item. All Fits (comments_before item)) items
      → AllZip (Describes source) items dependencies → All (CoversTypes source) dependencies
  dependencies_cover [] [] fit describe = All-nil (CoversTypes source)
  dependencies_cover [] (d ∷ ds) fit describe = absurd describe
  dependencies_cover (item ∷ items) [] fit describe = absurd describe
  dependencies_cover (item ∷ items) (d ∷ ds) fit describe =
      All-cons (CoversTypes source) d ds
      (dependency_covers item d (All-head (λ i. All Fits (comments_before i)) item items fit) describe.0)
      (dependencies_cover items ds (All-tail (λ i. All Fits (comments_before i)) item items fit) describe.1)

  -- References

  refers_cover : (comment : DependencyComment) (reference : Option TypeScriptReference) → Fits comment
      → RefersTo source comment reference → IfSome reference (CoversReference source)
  refers_cover comment None fits refers = tt
  refers_cover comment (Some (Path specifier)) fits refers =
      names_cover path_reference_pragma comment specifier (attribute_quotes (codes "path")) fits refers
  refers_cover comment (Some (Types specifier mode)) fits refers =
      names_cover types_reference_pragma comment specifier (attribute_quotes (codes "types")) fits refers.1

  reference_covers : (comment : DependencyComment) (reference : Option TypeScriptReference) → Fits comment
      → IsReferenceOf source comment reference → IfSome reference (CoversReference source)
  reference_covers comment reference fits is =
      ⊎_elim (λ none. subst (λ r. IfSome r (CoversReference source)) (sym none.1) tt)
      (λ refers. refers_cover comment reference fits refers.1) is

  of_option : (reference : Option TypeScriptReference) → IfSome reference (CoversReference source)
      → All (CoversReference source) (option_to_list reference)
  of_option None covers = All-nil (CoversReference source)
  of_option (Some reference) covers =
      All-cons (CoversReference source) reference [] covers (All-nil (CoversReference source))

  references_cover : (comments : List DependencyComment) (each : List (Option TypeScriptReference))
      → All Fits comments → AllZip (IsReferenceOf source) comments each
      → All (CoversReference source) (flat_map option_to_list each)
  references_cover [] [] fit are = All-nil (CoversReference source)
  references_cover [] (r ∷ each) fit are = absurd are
  references_cover (comment ∷ comments) [] fit are = absurd are
  references_cover (comment ∷ comments) (r ∷ each) fit are =
      All-append (CoversReference source) (option_to_list r) (flat_map option_to_list each)
      (of_option r (reference_covers comment r (All-head Fits comment comments fit) are.0))
      (references_cover comments each (All-tail Fits comment comments fit) are.1)

  -- JSDoc imports

  import_covers : (comment : DependencyComment) (import : Import) → Fits comment → IsImportOf comment import
      → CoversInSameQuotes source (info_of source import).specifier
  import_covers comment import fits is =
      in_same_quotes source import (quoted_at source comment fits.0 is.jsdoc.0 fits.1 import is.inner
      (has_specifier (chars comment.text) is.inner is.is_inner) is.is_moved)

  imports_cover : (reads : Bool) (comments : List DependencyComment) (infos : List JsDocImportInfo)
      → All Fits comments → IsJsDocList reads source comments infos
      → All (λ info. CoversInSameQuotes source info.specifier) infos
  imports_cover false comments infos fit none =
      subst (All (λ info. CoversInSameQuotes source info.specifier)) (sym none)
      (All-nil (λ info. CoversInSameQuotes source info.specifier))
  imports_cover true comments infos fit (imports, are, is) =
      subst (All (λ info. CoversInSameQuotes source info.specifier)) (sym is)
      (All-map (λ info. CoversInSameQuotes source info.specifier) (info_of source) imports
      (λ k d below. covers (get_or imports k d) (Contains-get_or imports k d below)))
    where
      covers : (import : Import) → Contains imports import
          → CoversInSameQuotes source (info_of source import).specifier
      covers import there =
          let of = (are.exact import).0 there in
          import_covers of.0 import (All-contains Fits comments of.0 fit of.1) of.2

-- the `ModuleInfo` of a valid source has exact ranges
pub exact_ranges : (source : List ℕ) (media_type : MediaType) (program : Program) (comments : FiledComments)
    (info : ModuleInfo) → IsValid source program comments
    → All (λ (comment : DependencyComment). IsUtf8 comment.text) (comments_of comments)
    → IsModuleInfo source media_type program comments info → HasExactRanges source info
exact_ranges source media_type program comments info valid utf8 is =
    let fit : All (Fits source) (comments_of comments) =
    λ k d below. (valid.spelled k d below, utf8 k d below) in
    let head = head_comments program comments in
    let head_fit = all_head (Fits source) comments fit program in
    let jsx_fit = (all_if (Fits source) (has_jsx media_type) head head_fit).0 in
    let are = is.dependencies in
    let references = is.ts_references in
    record {
      dependencies = dependencies_cover source are.items info.dependencies
          (all_before_dependencies (Fits source) program comments are.items fit are.are_dependencies)
          are.describe;
      ts_references = subst (All (CoversReference source)) (sym references.those)
          (references_cover source head references.each head_fit references.of_comments);
      self_types_specifier = first_covers source self_types_pragma _ info.self_types_specifier
          (pragma_quotes (codes "@ts-self-types"))
          (all_if (Fits source) (is_typed media_type) head head_fit).1 is.self_types_specifier;
      jsx_import_source = first_covers source jsx_import_source_pragma _ info.jsx_import_source
          (no_quotes jsx_import_source_pragma refl) jsx_fit is.jsx_import_source;
      jsx_import_source_types = first_covers source jsx_import_source_types_pragma _
          info.jsx_import_source_types (no_quotes jsx_import_source_types_pragma refl) jsx_fit
          is.jsx_import_source_types;
      jsdoc_imports = imports_cover source (reads_jsdoc media_type) (comments_of comments)
          info.jsdoc_imports fit is.jsdoc_imports;
      source_map_url = last_covers source source_mapping_url_pragma (tail_comments program comments)
          info.source_map_url (no_quotes source_mapping_url_pragma refl)
          (all_tail (Fits source) comments fit program) is.source_map_url;
    }
