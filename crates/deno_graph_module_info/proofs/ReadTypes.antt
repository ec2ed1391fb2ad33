-- An entry of the cache has the types that the comment at its range names: a text has at most one
-- comment at a range.
use Rattle.std.proofs.Common.{◌≡◌, ℕ, ◌-◌, All, length, slice_get, Bool, true, false, cond, List, [], ◌∷◌}
use Rattle.std.proofs.Common.{drop, get_or, Option, Some, IfSome, unwrap_or, refl, sym, ap, ◌∙◌, subst, arith}
use Rattle.std.proofs.lemmas.Bool.{false≢true}
use Rattle.std.proofs.lemmas.Grind.{common_steps}
use Rattle.std.proofs.lemmas.List.{append_cancel_right}
use Rattle.std.proofs.lemmas.List.Elements.{All-contains}
use Rattle.deno_graph_source.proofs.NodePaths.{Contains-from_slice_get}
use Rattle.std.specs.BTreeMap.{BTreeMap, get, is_at}
use Rattle.std.specs.Map.{lookup}
use Rattle.std.specs.Option.{is_some}
use Rattle.std.specs.Ordering.{is_eq}
use Rattle.deno_graph_source.specs.Source.{IsSpelled, spelling}
use Rattle.deno_graph_source.specs.declared.tree.comments.CommentKind.{CommentKind}
use Rattle.deno_graph_source.specs.declared.tree.comments.CommentKind.TheVariants.{Line, Block}
use Rattle.deno_graph_source.specs.declared.tree.comments.DependencyComment.{DependencyComment}
use Rattle.deno_graph_base.specs.SourceRange.{slice_of}
use Rattle.deno_graph_info.specs.declared.analysis.specifier_with_range.SpecifierWithRange.{SpecifierWithRange}
use Rattle.deno_graph_module_info.specs.Pragma.{dependency_types_pragmas, NamesByFirst}
use Rattle.deno_graph_module_info.specs.internal.ReadTypes.{range_cmp, AreRead}
use Rattle.deno_graph_module_info.specs.Spelled.{CoversAsWritten}
use Rattle.deno_graph_module_info.proofs.InSource.{same_range}

-- comments with the same spelling have the same kind and the same text
same_spelling : (j k : CommentKind) (s t : List ℕ) → spelling j s ≡ spelling k t → (j ≡ k) × (s ≡ t)
same_spelling Line Line s t is = (refl, ap (drop 2) is)
same_spelling Line Block s t is = absurd (omega (arith, ap (λ xs. get_or xs 1 0) is))
same_spelling Block Line s t is = absurd (omega (arith, ap (λ xs. get_or xs 1 0) is))
same_spelling Block Block s t is = (refl, append_cancel_right s t (42 ∷ 47 ∷ []) (ap (drop 2) is))

-- a text has at most one comment at a range
same_comment : (source : List ℕ) (one other : DependencyComment) → IsSpelled source one
    → IsSpelled source other → one.range.start ≡ other.range.start → one.range.end ≡ other.range.end
    → one ≡ other
same_comment source one other spelled other_spelled start end =
    let range : one.range ≡ other.range = same_range one.range other.range start end in
    let alike = same_spelling one.kind other.kind one.text other.text
    (sym spelled.slice ∙ ap (slice_of source) range ∙ other_spelled.slice) in
    λ i. record { kind = alike.0 i; range = range i; text = alike.1 i }

same_ends : (a b : ℕ × ℕ) → is_eq (range_cmp a b) ≡ true → (a.0 ≡ b.0) × (a.1 ≡ b.1)
same_ends a b is = grind (arith, common_steps, is)

-- the empty cache
pub read_none : (source : List ℕ) (read : BTreeMap (ℕ × ℕ) (Option SpecifierWithRange))
    → read.entries ≡ [] → AreRead source read
read_none source read empty comment types spelled is =
    let none = ap (lookup (is_at (range_cmp (comment.range.start, comment.range.end)))) (sym empty) in
    absurd (false≢true (ap is_some (none ∙ is)))

-- the cache with one more comment
pub read_more : (source : List ℕ) (old new : BTreeMap (ℕ × ℕ) (Option SpecifierWithRange))
    (comment : DependencyComment) (types : Option SpecifierWithRange) → IsSpelled source comment
    → NamesByFirst source dependency_types_pragmas comment types
    → IfSome types (CoversAsWritten source)
    → ((range : ℕ × ℕ) → get range_cmp new range
    ≡ cond (is_at (range_cmp (comment.range.start, comment.range.end)) range)
    (Some types) (get range_cmp old range))
    → AreRead source old → AreRead source new
read_more source old new comment types spelled names covers updates read other found other_spelled is =
    by_range (is_at (range_cmp (comment.range.start, comment.range.end)) range) refl
  where
    range : ℕ × ℕ
    range = (other.range.start, other.range.end)

    by_range : (b : Bool) → is_at (range_cmp (comment.range.start, comment.range.end)) range ≡ b
        → NamesByFirst source dependency_types_pragmas other found
        × IfSome found (CoversAsWritten source)
    by_range true at =
        let held : Some types ≡ Some found =
        sym (subst (λ b. get range_cmp new range ≡ cond b (Some types) (get range_cmp old range)) at
        (updates range)) ∙ is in
        let same : types ≡ found = ap (λ o. unwrap_or o types) held in
        let ends = same_ends (comment.range.start, comment.range.end) range at in
        let alike : comment ≡ other =
        same_comment source comment other spelled other_spelled ends.0 ends.1 in (
          subst (λ c. NamesByFirst source dependency_types_pragmas c found) alike
              (subst (NamesByFirst source dependency_types_pragmas comment) same names),
          subst (λ t. IfSome t (CoversAsWritten source)) same covers,
        )
    by_range false at =
        read other found other_spelled
        (sym (subst (λ b. get range_cmp new range ≡ cond b (Some types) (get range_cmp old range)) at
        (updates range)) ∙ is)

-- the text has the last of comments that it has
pub spelled_last : (source : List ℕ) (comments : List DependencyComment) (comment : DependencyComment)
    → All (IsSpelled source) comments → Some comment ≡ slice_get comments (length comments - 1)
    → IsSpelled source comment
spelled_last source comments comment spelled last =
    All-contains (IsSpelled source) comments comment spelled
    (Contains-from_slice_get comments (length comments - 1) comment (sym last))
