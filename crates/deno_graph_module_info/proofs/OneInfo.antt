-- A source has at most one `ModuleInfo`.
use Rattle.std.proofs.Common.{◌≡◌, ℕ, ◌-◌, inl, inr, ◌↔◌, Bool, true, false, IsTrue, List, [], ◌∷◌, ◌++◌}
use Rattle.std.proofs.Common.{length, Option, Some, None, All, refl, sym, ap, ◌∙◌, subst, slice_get}
use Rattle.std.specs.List.{AllZip, flat_map}
use Rattle.std.specs.Option.{option_to_list}
use Rattle.std.proofs.lemmas.Bool.{false≢true}
use Rattle.std.proofs.lemmas.List.Elements.{All-from_recursion, All-head, All-tail}
use Rattle.deno_graph_info.specs.declared.analysis.dependency.DependencyDescriptor.{DependencyDescriptor}
use Rattle.deno_graph_info.specs.declared.analysis.specifier_with_range.SpecifierWithRange.{SpecifierWithRange}
use Rattle.deno_graph_info.specs.declared.analysis.module_info.ModuleInfo.{ModuleInfo}
use Rattle.deno_graph_info.specs.declared.analysis.type_script_reference.TypeScriptReference.{TypeScriptReference}
use Rattle.deno_graph_info.specs.declared.analysis.type_script_reference.TypeScriptReference.TheVariants.{Path}
use Rattle.deno_graph_info.specs.declared.analysis.type_script_reference.TypeScriptReference.TheVariants.{Types}
use Rattle.deno_graph_base.specs.ResolutionMode.{mode_named}
use Rattle.deno_graph_base.specs.declared.values.resolution_mode.TypeScriptTypesResolutionMode.{TypeScriptTypesResolutionMode}
use Rattle.deno_graph_pragmas.specs.Finders.{EachFinder}
use Rattle.deno_graph_pragmas.specs.Split.{HasOnePart, TextPart}
use Rattle.deno_graph_source.specs.Comments.{FiledComments, comments_of}
use Rattle.deno_graph_source.specs.declared.tree.comments.DependencyComment.{DependencyComment}
use Rattle.deno_graph_source.specs.declared.tree.media_type.MediaType.{MediaType}
use Rattle.deno_graph_source.specs.declared.tree.node.Program.{Program}
use Rattle.deno_graph_dep.specs.Descriptor.{Descriptor}
use Rattle.deno_graph_dep.proofs.Unique.{AreDependencies-unique}
use Rattle.deno_graph_module_info.specs.CommentImports.{reads_jsdoc}
use Rattle.deno_graph_module_info.specs.HeadTail.{head_comments, tail_comments}
use Rattle.deno_graph_module_info.specs.ModuleInfo.{Describes, IsModuleInfo, comments_before, dependency_of}
use Rattle.deno_graph_module_info.specs.Pragma.{HasPragma, Names, NamesDependencyTypesIn, NamesFirst}
use Rattle.deno_graph_module_info.specs.Pragma.{NamesLast, Pragma, comments_for_jsx, comments_for_types}
use Rattle.deno_graph_module_info.specs.Pragma.{dependency_types_pragmas, jsx_import_source_pragma}
use Rattle.deno_graph_module_info.specs.Pragma.{jsx_import_source_types_pragma, self_types_pragma}
use Rattle.deno_graph_module_info.specs.Pragma.{source_mapping_url_pragma, specifier_of_part}
use Rattle.deno_graph_module_info.specs.References.{IsModeOf, IsReferenceOf, RefersTo, path_reference_pragma}
use Rattle.deno_graph_module_info.specs.References.{types_reference_pragma}
use Rattle.deno_graph_module_info.proofs.ExactRanges.{at_middle}
use Rattle.deno_graph_module_info.proofs.JsDocComments.{one_info_list}

-- The first and the last element of a list with a property

one_first : {X : Type 0} (P : X → Type 0) (front other_front after other_after : List X) (x y : X)
    → front ++ x ∷ after ≡ other_front ++ y ∷ other_after → All (λ z. ¬ P z) front
    → All (λ z. ¬ P z) other_front → P x → P y → x ≡ y
one_first P [] [] after other_after x y same none other_none has also = cc
one_first P [] (z ∷ front) after other_after x y same none other_none has also =
    let heads : x ≡ z = cc in
    absurd (All-head (λ w. ¬ P w) z front other_none (subst P heads has))
one_first P (z ∷ front) [] after other_after x y same none other_none has also =
    let heads : y ≡ z = cc in
    absurd (All-head (λ w. ¬ P w) z front none (subst P heads also))
one_first P (z ∷ front) (w ∷ other) after other_after x y same none other_none has also =
    let tails : front ++ x ∷ after ≡ other ++ y ∷ other_after = cc in
    one_first P front other after other_after x y tails (All-tail (λ v. ¬ P v) z front none)
    (All-tail (λ v. ¬ P v) w other other_none) has also

one_last : {X : Type 0} (P : X → Type 0) (front other_front after other_after : List X) (x y : X)
    → front ++ x ∷ after ≡ other_front ++ y ∷ other_after → All (λ z. ¬ P z) after
    → All (λ z. ¬ P z) other_after → P x → P y → x ≡ y
one_last P [] [] after other_after x y same none other_none has also = cc
one_last P [] (z ∷ front) after other_after x y same none other_none has also =
    let tails : after ≡ front ++ y ∷ other_after = cc in
    absurd (at_middle (λ w. ¬ P w) after front other_after y tails none also)
one_last P (z ∷ front) [] after other_after x y same none other_none has also =
    let tails : other_after ≡ front ++ x ∷ after = cc in
    absurd (at_middle (λ w. ¬ P w) other_after front after x tails other_none has)
one_last P (z ∷ front) (w ∷ other) after other_after x y same none other_none has also =
    let tails : front ++ x ∷ after ≡ other ++ y ∷ other_after = cc in
    one_last P front other after other_after x y tails none other_none has also

-- A pragma

-- a text has at most one part that the pragma captures
abbrev One : Pragma → Type 0
One pragma = HasOnePart pragma.pattern

one_name : (source : List ℕ) (pragma : Pragma) (comment : DependencyComment) (a b : SpecifierWithRange)
    → One pragma → Names source pragma comment a → Names source pragma comment b → a ≡ b
one_name source pragma comment a b one is also =
    is.is_specifier ∙ (ap (λ part. specifier_of_part source comment part pragma.is_quoteless)
    (one comment.text is.part also.part is.is_captured also.is_captured) ∙ sym also.is_specifier)

module _ (source : List ℕ) (pragma : Pragma) (one : One pragma) (comments : List DependencyComment) where
  one_first_name : (a b : Option SpecifierWithRange) → NamesFirst source pragma comments a
      → NamesFirst source pragma comments b → a ≡ b
  one_first_name None None is also = refl
  one_first_name None (Some b) is (comment, first, names) = absurd
      (at_middle (λ c. ¬ HasPragma pragma c) comments first.before first.after comment first.whole is
      first.has)
  one_first_name (Some a) None (comment, first, names) also = absurd
      (at_middle (λ c. ¬ HasPragma pragma c) comments first.before first.after comment first.whole also
      first.has)
  one_first_name (Some a) (Some b) (comment, first, names) (other, also_first, also_names) =
      let same = one_first (HasPragma pragma) first.before also_first.before first.after also_first.after
      comment other (sym first.whole ∙ also_first.whole) first.none_before also_first.none_before first.has
      also_first.has in
      ap Some (one_name source pragma comment a b one names
      (subst (λ c. Names source pragma c b) (sym same) also_names))

  one_last_name : (a b : Option SpecifierWithRange) → NamesLast source pragma comments a
      → NamesLast source pragma comments b → a ≡ b
  one_last_name None None is also = refl
  one_last_name None (Some b) is (comment, last, names) = absurd
      (at_middle (λ c. ¬ HasPragma pragma c) comments last.before last.after comment last.whole is last.has)
  one_last_name (Some a) None (comment, last, names) also = absurd
      (at_middle (λ c. ¬ HasPragma pragma c) comments last.before last.after comment last.whole also last.has)
  one_last_name (Some a) (Some b) (comment, last, names) (other, also_last, also_names) =
      let same = one_last (HasPragma pragma) last.before also_last.before last.after also_last.after
      comment other (sym last.whole ∙ also_last.whole) last.none_after also_last.none_after last.has
      also_last.has in
      ap Some (one_name source pragma comment a b one names
      (subst (λ c. Names source pragma c b) (sym same) also_names))

module _ (parts : EachFinder HasOnePart) (source : List ℕ) where
  -- The types of a dependency

  one_types_each : All One dependency_types_pragmas
  one_types_each =
      All-from_recursion One dependency_types_pragmas
      (parts.ts_types, (parts.deno_types, (parts.quoteless_deno_types, tt)))

  one_of_types : (last : Option DependencyComment) (a b : Option SpecifierWithRange)
      → NamesDependencyTypesIn source last a → NamesDependencyTypesIn source last b → a ≡ b
  one_of_types None a b is also = is ∙ sym also
  one_of_types (Some comment) None None is also = refl
  one_of_types (Some comment) None (Some b) is (pragma, first, names) = absurd
      (at_middle (λ p. ¬ HasPragma p comment) dependency_types_pragmas first.before first.after pragma
      first.whole is first.has)
  one_of_types (Some comment) (Some a) None (pragma, first, names) also = absurd
      (at_middle (λ p. ¬ HasPragma p comment) dependency_types_pragmas first.before first.after pragma
      first.whole also first.has)
  one_of_types (Some comment) (Some a) (Some b) (pragma, first, names) (other, also_first, also_names) =
      let same = one_first (λ p. HasPragma p comment) first.before also_first.before first.after
      also_first.after pragma other (sym first.whole ∙ also_first.whole) first.none_before
      also_first.none_before first.has also_first.has in
      let one = at_middle One dependency_types_pragmas first.before first.after pragma first.whole
      one_types_each in
      ap Some (one_name source pragma comment a b one names
      (subst (λ p. Names source p comment b) (sym same) also_names))

  one_dependency : (item : Descriptor) (a b : DependencyDescriptor) → Describes source item a
      → Describes source item b → a ≡ b
  one_dependency item a b is also =
      let comments = comments_before item in
      is.is ∙ (ap (dependency_of source item) (one_of_types (slice_get comments (length comments - 1))
      is.types also.types is.names_types also.names_types) ∙ sym also.is)

  -- References

  one_mode : (text : List ℕ) (a b : Option TypeScriptTypesResolutionMode) → IsModeOf text a
      → IsModeOf text b → a ≡ b
  one_mode text a b (inl is) (inl also) = is.1 ∙ sym also.1
  one_mode text a b (inl is) (inr also) = absurd (is.0 also.1.split)
  one_mode text a b (inr is) (inl also) = absurd (also.0 is.1.split)
  one_mode text a b (inr is) (inr also) =
      is.2 ∙ (ap (λ (part : TextPart). mode_named part.text)
      (parts.resolution_mode text is.0 also.0 is.1 also.1) ∙ sym also.2)

  -- a comment has the pragma by which it names a specifier, if the pragma counts in all comments
  has_named : (pragma : Pragma) (comment : DependencyComment) (specifier : SpecifierWithRange)
      → pragma.is_in_blocks_alone ≡ false → Names source pragma comment specifier → HasPragma pragma comment
  has_named pragma comment specifier everywhere names = record {
    kind = λ alone. absurd (false≢true (sym everywhere ∙ alone));
    split = names.is_captured.split;
  }

  one_referred : (comment : DependencyComment) (a b : Option TypeScriptReference)
      → RefersTo source comment a → RefersTo source comment b → a ≡ b
  one_referred comment None None is also = refl
  one_referred comment None (Some (Path s)) is also =
      absurd (is.0 (has_named path_reference_pragma comment s refl also))
  one_referred comment None (Some (Types s mode)) is also =
      absurd (is.1 (has_named types_reference_pragma comment s refl also.1))
  one_referred comment (Some (Path s)) None is also =
      absurd (also.0 (has_named path_reference_pragma comment s refl is))
  one_referred comment (Some (Types s mode)) None is also =
      absurd (also.1 (has_named types_reference_pragma comment s refl is.1))
  one_referred comment (Some (Path s)) (Some (Types t mode)) is also =
      absurd (also.0 (has_named path_reference_pragma comment s refl is))
  one_referred comment (Some (Types s mode)) (Some (Path t)) is also =
      absurd (is.0 (has_named path_reference_pragma comment t refl also))
  one_referred comment (Some (Path s)) (Some (Path t)) is also =
      ap (λ u. Some (Path u)) (one_name source path_reference_pragma comment s t parts.path_reference is also)
  one_referred comment (Some (Types s mode)) (Some (Types t other)) is also =
      let names = one_name source types_reference_pragma comment s t parts.types_reference is.1 also.1 in
      let modes = one_mode comment.text mode other is.2 also.2 in
      λ i. Some (Types (names i) (modes i))

  one_reference : (comment : DependencyComment) (a b : Option TypeScriptReference)
      → IsReferenceOf source comment a → IsReferenceOf source comment b → a ≡ b
  one_reference comment a b (inl is) (inl also) = is.1 ∙ sym also.1
  one_reference comment a b (inl is) (inr also) = absurd (is.0 also.0)
  one_reference comment a b (inr is) (inl also) = absurd (also.0 is.0)
  one_reference comment a b (inr is) (inr also) = one_referred comment a b is.1 also.1

-- lists of partners, if each element has at most one partner
one_list : {X Y : Type 0} (R : X → Y → Type 0) → ((x : X) (a b : Y) → R x a → R x b → a ≡ b) → (xs : List X)
    (ys zs : List Y) → AllZip R xs ys → AllZip R xs zs → ys ≡ zs
one_list R one [] [] [] is also = refl
one_list R one [] [] (z ∷ zs) is also = absurd also
one_list R one [] (y ∷ ys) zs is also = absurd is
one_list R one (x ∷ xs) [] zs is also = absurd is
one_list R one (x ∷ xs) (y ∷ ys) [] is also = absurd also
one_list R one (x ∷ xs) (y ∷ ys) (z ∷ zs) is also =
    let first = one x y z is.0 also.0 in
    let rest = one_list R one xs ys zs is.1 also.1 in
    λ i. first i ∷ rest i

one_truth : (P : Type 0) (a b : Bool) → IsTrue a ↔ P → IsTrue b ↔ P → a ≡ b
one_truth P true true is also = refl
one_truth P true false is also = absurd (false≢true (also.1 (is.0 refl)))
one_truth P false true is also = absurd (false≢true (is.1 (also.0 refl)))
one_truth P false false is also = refl

pub one_info : (parts : EachFinder HasOnePart) (source : List ℕ)
    (media_type : MediaType) (program : Program) (comments : FiledComments) (info other : ModuleInfo)
    → IsModuleInfo source media_type program comments info
    → IsModuleInfo source media_type program comments other → info ≡ other
one_info parts source media_type program comments info other is also =
    let head = head_comments program comments in
    let jsx_comments = comments_for_jsx media_type head in
    let items = AreDependencies-unique comments program.body is.dependencies.items also.dependencies.items
    is.dependencies.are_dependencies also.dependencies.are_dependencies in
    let dependencies = one_list (Describes source) (one_dependency parts source) also.dependencies.items
    info.dependencies other.dependencies
    (subst (λ items. AllZip (Describes source) items info.dependencies) items is.dependencies.describe)
    also.dependencies.describe in
    let each = one_list (IsReferenceOf source) (one_reference parts source) head is.ts_references.each
    also.ts_references.each is.ts_references.of_comments also.ts_references.of_comments in
    let references : info.ts_references ≡ other.ts_references =
    is.ts_references.those ∙ (ap (flat_map option_to_list) each ∙ sym also.ts_references.those) in
    let script = one_truth _ info.is_script other.is_script is.is_script also.is_script in
    let self_types = one_first_name source self_types_pragma parts.ts_self_types
    (comments_for_types media_type head) info.self_types_specifier other.self_types_specifier
    is.self_types_specifier also.self_types_specifier in
    let jsx = one_first_name source jsx_import_source_pragma parts.jsx_import_source jsx_comments
    info.jsx_import_source other.jsx_import_source is.jsx_import_source also.jsx_import_source in
    let jsx_types = one_first_name source jsx_import_source_types_pragma parts.jsx_import_source_types
    jsx_comments info.jsx_import_source_types other.jsx_import_source_types is.jsx_import_source_types
    also.jsx_import_source_types in
    let jsdoc = one_info_list (reads_jsdoc media_type) source (comments_of comments) info.jsdoc_imports
    other.jsdoc_imports is.jsdoc_imports also.jsdoc_imports in
    let map_url = one_last_name source source_mapping_url_pragma parts.source_mapping_url
    (tail_comments program comments) info.source_map_url other.source_map_url is.source_map_url
    also.source_map_url in
    λ i. record {
      is_script = script i;
      dependencies = dependencies i;
      ts_references = references i;
      self_types_specifier = self_types i;
      jsx_import_source = jsx i;
      jsx_import_source_types = jsx_types i;
      jsdoc_imports = jsdoc i;
      source_map_url = map_url i;
    }
