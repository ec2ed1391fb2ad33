-- The specifiers and the references that comments name exist.
use Rattle.std.proofs.Common.{◌≡◌, ℕ, ◌⊎◌, inl, inr, ⊎_elim, Bool, true, false, List, [], ◌∷◌, Option, Some}
use Rattle.std.proofs.Common.{None, All, IsTrue, refl, ap, slice_get, ◌-◌, length}
use Rattle.std.specs.List.{AllZip, flat_map}
use Rattle.std.specs.Option.{option_to_list}
use Rattle.std.proofs.lemmas.Bool.{false≢true}
use Rattle.std.proofs.lemmas.List.Elements.{All-cons, All-nil}
use Rattle.deno_graph_source.specs.declared.tree.comments.CommentKind.{CommentKind}
use Rattle.deno_graph_source.specs.declared.tree.comments.CommentKind.TheVariants.{Line, Block}
use Rattle.deno_graph_source.specs.declared.tree.comments.DependencyComment.{DependencyComment}
use Rattle.deno_graph_info.specs.declared.analysis.specifier_with_range.SpecifierWithRange.{SpecifierWithRange}
use Rattle.deno_graph_info.specs.declared.analysis.type_script_reference.TypeScriptReference.{TypeScriptReference}
use Rattle.deno_graph_info.specs.declared.analysis.type_script_reference.TypeScriptReference.TheVariants.{Path}
use Rattle.deno_graph_info.specs.declared.analysis.type_script_reference.TypeScriptReference.TheVariants.{Types}
use Rattle.deno_graph_base.specs.ResolutionMode.{mode_named}
use Rattle.deno_graph_base.specs.declared.values.resolution_mode.TypeScriptTypesResolutionMode.{TypeScriptTypesResolutionMode}
use Rattle.deno_graph_pragmas.specs.Finders as finder
use Rattle.deno_graph_pragmas.specs.Split.{HasSplit}
use Rattle.deno_graph_module_info.specs.Pragma.{HasPragma, IsFirstWith, IsLastWith, Names, NamesByFirst}
use Rattle.deno_graph_module_info.specs.Pragma.{NamesDependencyTypes, NamesDependencyTypesIn, NamesFirst}
use Rattle.deno_graph_module_info.specs.Pragma.{NamesLast, Pragma, dependency_types_pragmas}
use Rattle.deno_graph_module_info.specs.Pragma.{specifier_of_part}
use Rattle.deno_graph_module_info.specs.References.{AreReferences, IsModeOf, IsReferenceOf}
use Rattle.deno_graph_module_info.specs.References.{IsTripleSlashReference, RefersTo, path_reference_pragma}
use Rattle.deno_graph_module_info.specs.References.{types_reference_pragma}
use Rattle.deno_graph_pragmas.proofs.SomeSplit.{Decided, decide_split, some_part}

-- The first and the last element of a list

first_with : {X : Type 0} (P : X → Type 0) → ((x : X) → Decided (P x)) → (xs : List X)
    → ((x : X) × IsFirstWith P xs x) ⊎ All (λ y. ¬ P y) xs
first_with P decide [] = inr (All-nil (λ y. ¬ P y))
first_with {X} P decide (x ∷ xs) = by (decide x) (first_with P decide xs)
  where
    by : Decided (P x) → ((y : X) × IsFirstWith P xs y) ⊎ All (λ y. ¬ P y) xs
        → ((y : X) × IsFirstWith P (x ∷ xs) y) ⊎ All (λ y. ¬ P y) (x ∷ xs)
    by (inl has) rest = inl (
      x,
      record { before = []; after = xs; whole = refl; none_before = All-nil (λ y. ¬ P y); has = has },
    )
    by (inr none) (inl found) = inl (
      found.0,
      record {
        before = x ∷ found.1.before;
        after = found.1.after;
        whole = ap (λ t. x ∷ t) found.1.whole;
        none_before = All-cons (λ y. ¬ P y) x found.1.before none found.1.none_before;
        has = found.1.has;
      },
    )
    by (inr none) (inr all) = inr (All-cons (λ y. ¬ P y) x xs none all)

last_with : {X : Type 0} (P : X → Type 0) → ((x : X) → Decided (P x)) → (xs : List X)
    → ((x : X) × IsLastWith P xs x) ⊎ All (λ y. ¬ P y) xs
last_with P decide [] = inr (All-nil (λ y. ¬ P y))
last_with {X} P decide (x ∷ xs) = by (decide x) (last_with P decide xs)
  where
    by : Decided (P x) → ((y : X) × IsLastWith P xs y) ⊎ All (λ y. ¬ P y) xs
        → ((y : X) × IsLastWith P (x ∷ xs) y) ⊎ All (λ y. ¬ P y) (x ∷ xs)
    by here (inl found) = inl (
      found.0,
      record {
        before = x ∷ found.1.before;
        after = found.1.after;
        whole = ap (λ t. x ∷ t) found.1.whole;
        none_after = found.1.none_after;
        has = found.1.has;
      },
    )
    by (inl has) (inr all) =
        inl (x, record { before = []; after = xs; whole = refl; none_after = all; has = has })
    by (inr none) (inr all) = inr (All-cons (λ y. ¬ P y) x xs none all)

-- A pragma

decide_block : (kind : CommentKind) → Decided (kind ≡ Block)
decide_block Block = inl refl
decide_block Line = inr (λ e. cc)

decide_line : (kind : CommentKind) → Decided (kind ≡ Line)
decide_line Line = inl refl
decide_line Block = inr (λ e. cc)

decide_kind : (b : Bool) (kind : CommentKind) → Decided (b ≡ true → kind ≡ Block)
decide_kind false kind = inl (λ e. absurd (false≢true e))
decide_kind true kind = ⊎_elim (λ is. inl (λ e. is)) (λ none. inr (λ h. none (h refl))) (decide_block kind)

decide_pragma : (pragma : Pragma) (comment : DependencyComment) → Decided (HasPragma pragma comment)
decide_pragma pragma comment =
    by (decide_kind pragma.is_in_blocks_alone comment.kind) (decide_split pragma.pattern comment.text)
  where
    by : Decided (IsTrue pragma.is_in_blocks_alone → comment.kind ≡ Block)
        → Decided (HasSplit pragma.pattern comment.text) → Decided (HasPragma pragma comment)
    by (inl kind) (inl split) = inl (record { kind = kind; split = split })
    by (inl kind) (inr none) = inr (λ has. none has.split)
    by (inr none) split = inr (λ has. none has.kind)

some_name : (source : List ℕ) (pragma : Pragma) (comment : DependencyComment) → HasPragma pragma comment
    → (specifier : SpecifierWithRange) × Names source pragma comment specifier
some_name source pragma comment has =
    ⊎_elim (λ part. (
      specifier_of_part source comment part.0 pragma.is_quoteless,
      record { part = part.0; is_captured = part.1; is_specifier = refl },
    ))
    (λ none. absurd (none has.split)) (some_part pragma.pattern comment.text)

pub names_first : (source : List ℕ) (pragma : Pragma) (comments : List DependencyComment)
    → (specifier : Option SpecifierWithRange) × NamesFirst source pragma comments specifier
names_first source pragma comments =
    ⊎_elim (λ found. let name = some_name source pragma found.0 found.1.has in
    (Some name.0, (found.0, found.1, name.1)))
    (λ none. (None, none)) (first_with (HasPragma pragma) (decide_pragma pragma) comments)

pub names_last : (source : List ℕ) (pragma : Pragma) (comments : List DependencyComment)
    → (specifier : Option SpecifierWithRange) × NamesLast source pragma comments specifier
names_last source pragma comments =
    ⊎_elim (λ found. let name = some_name source pragma found.0 found.1.has in
    (Some name.0, (found.0, found.1, name.1)))
    (λ none. (None, none)) (last_with (HasPragma pragma) (decide_pragma pragma) comments)

names_by_first : (source : List ℕ) (pragmas : List Pragma) (comment : DependencyComment)
    → (specifier : Option SpecifierWithRange) × NamesByFirst source pragmas comment specifier
names_by_first source pragmas comment =
    ⊎_elim (λ found. let name = some_name source found.0 comment found.1.has in
    (Some name.0, (found.0, found.1, name.1))) (λ none. (None, none))
    (first_with (λ pragma. HasPragma pragma comment) (λ pragma. decide_pragma pragma comment) pragmas)

pub names_types : (source : List ℕ) (comments : List DependencyComment)
    → (specifier : Option SpecifierWithRange) × NamesDependencyTypes source comments specifier
names_types source comments = by (slice_get comments (length comments - 1))
  where
    by : (last : Option DependencyComment)
        → (specifier : Option SpecifierWithRange) × NamesDependencyTypesIn source last specifier
    by None = (None, refl)
    by (Some comment) = names_by_first source dependency_types_pragmas comment

-- References

decide_reference : (comment : DependencyComment) → Decided (IsTripleSlashReference comment)
decide_reference comment =
    by (decide_line comment.kind) (decide_split finder.triple_slash_reference_pattern comment.text)
  where
    by : Decided (comment.kind ≡ Line) → Decided (HasSplit finder.triple_slash_reference_pattern comment.text)
        → Decided (IsTripleSlashReference comment)
    by (inl kind) (inl split) = inl (record { kind = kind; split = split })
    by (inl kind) (inr none) = inr (λ is. none is.split)
    by (inr none) split = inr (λ is. none is.kind)

mode_of : (text : List ℕ) → (mode : Option TypeScriptTypesResolutionMode) × IsModeOf text mode
mode_of text =
    ⊎_elim (λ part. (mode_named part.0.text, inr (part.0, part.1, refl)))
    (λ none. (None, inl (none, refl))) (some_part finder.resolution_mode_pattern text)

refers : (source : List ℕ) (comment : DependencyComment)
    → (reference : Option TypeScriptReference) × RefersTo source comment reference
refers source comment =
    by (decide_pragma path_reference_pragma comment) (decide_pragma types_reference_pragma comment)
  where
    by : Decided (HasPragma path_reference_pragma comment)
        → Decided (HasPragma types_reference_pragma comment)
        → (reference : Option TypeScriptReference) × RefersTo source comment reference
    by (inl path) types =
        let name = some_name source path_reference_pragma comment path in (Some (Path name.0), name.1)
    by (inr none) (inl types) =
        let name = some_name source types_reference_pragma comment types in
        let mode = mode_of comment.text in
        (Some (Types name.0 mode.0), (none, name.1, mode.1))
    by (inr none) (inr neither) = (None, (none, neither))

reference_of : (source : List ℕ) (comment : DependencyComment)
    → (reference : Option TypeScriptReference) × IsReferenceOf source comment reference
reference_of source comment =
    ⊎_elim (λ is. let to = refers source comment in (to.0, inr (is, to.1)))
    (λ none. (None, inl (none, refl))) (decide_reference comment)

-- a list has a list of partners if each element has a partner
pub partners : {X Y : Type 0} (R : X → Y → Type 0) → ((x : X) → (y : Y) × R x y) → (xs : List X)
    → (ys : List Y) × AllZip R xs ys
partners R each [] = ([], tt)
partners R each (x ∷ xs) =
    let first = each x in let rest = partners R each xs in (first.0 ∷ rest.0, (first.1, rest.1))

pub references : (source : List ℕ) (comments : List DependencyComment)
    → (found : List TypeScriptReference) × AreReferences source comments found
references source comments =
    let each = partners (IsReferenceOf source) (reference_of source) comments in
    (flat_map option_to_list each.0, record { each = each.0; of_comments = each.1; those = refl })
