-- The list of all imports in comments, built one comment after another.
use Rattle.std.proofs.Common.{◌≡◌, ℕ, ◌+◌, ◌==◌, ◌⊎◌, inl, inr, Bool, true, false, List, [], ◌∷◌, ◌++◌, map}
use Rattle.std.proofs.Common.{refl, sym, ap, ◌∙◌, subst, codes, append_assoc, arith}
use Rattle.std.proofs.lemmas.Bool.{eqb-true, eqb-false}
use Rattle.std.proofs.lemmas.List.{append-nil}
use Rattle.std.proofs.lemmas.List.Elements.{All-contains, Contains-append_left, Contains-push}
use Rattle.std.specs.List.{All, Contains}
use Rattle.std.specs.Str.{IsUtf8, chars}
use Rattle.deno_graph_pragmas.specs.Piece.{star}
use Rattle.deno_graph_jsdoc.specs.JsDocImports.{Ascend}
use Rattle.deno_graph_jsdoc.specs.JsDocImport.{Import, moved}
use Rattle.deno_graph_jsdoc.proofs.Collected.{gain, all_imports}
use Rattle.deno_graph_module_info.specs.CommentImports.{AreApart, AreImports, IsJsDoc}
use Rattle.deno_graph_module_info.specs.internal.CommentImportSteps.{GainsImports, IsMovedImport}
use Rattle.deno_graph_module_info.proofs.Gathered.{Gathered, Gathered-start, Gathered-more, Gathered-skip}
use Rattle.deno_graph_module_info.proofs.Gathered.{Gathered-imports, GainsImports-start, GainsImports-more}
use Rattle.deno_graph_module_info.proofs.Gathered.{GainsImports-as, moved_is_inner, inner_is_moved}
use Rattle.deno_graph_source.specs.Source.{IsSpelled}
use Rattle.deno_graph_source.specs.declared.tree.comments.CommentKind.{CommentKind}
use Rattle.deno_graph_source.specs.declared.tree.comments.CommentKind.TheVariants.{Line, Block}
use Rattle.deno_graph_source.specs.declared.tree.comments.DependencyComment.{DependencyComment}

-- the list with the imports in one more comment
gather : (by : ℕ) (inners old now done : List Import) → GainsImports old (Contains done) now
    → (new : List Import) × GainsImports old (Contains (done ++ map (moved by) inners)) new
gather by [] old now done gains =
    (now, subst (λ xs. GainsImports old (Contains xs) now) (sym (append-nil done)) gains)
gather by (inner ∷ inners) old now done gains =
    let next = gain now (moved by inner) gains.ascending in
    let more = gather by inners old next.0 (done ++ moved by inner ∷ [])
    (GainsImports-more old now next.0 done (moved by inner) gains next.1) in (
      more.0,
      subst (λ xs. GainsImports old (Contains xs) more.0)
          (append_assoc done (moved by inner ∷ []) (map (moved by) inners)) more.1,
    )

add : (comment : DependencyComment) (old : List Import) → Ascend old
    → (new : List Import) × GainsImports old (IsMovedImport comment) new
add comment old up =
    let by = comment.range.start + 2 in
    let text = chars comment.text in
    let inners = all_imports text in
    let all = gather by inners.0 old old []
    (GainsImports-start old (Contains []) up (λ import has. absurd (omega (arith, has.1)))) in (
      all.0,
      GainsImports-as old all.0 (Contains (map (moved by) inners.0)) (IsMovedImport comment)
          (moved_is_inner by inners.0 text inners.1) (inner_is_moved by inners.0 text inners.1) all.1,
    )

-- a comment is a JSDoc comment or isn't
abbrev IsJsDocText : CommentKind → List ℕ → Type 0
IsJsDocText kind text = (kind ≡ Block) × ((rest : List ℕ) × (text ≡ codes "*" ++ rest))

decided : (kind : CommentKind) (text : List ℕ) → IsJsDocText kind text ⊎ (IsJsDocText kind text → ⊥)
decided Line text = inr (λ is. let same = is.0 in cc)
decided Block [] = inr (λ is.
    let same : [] ≡ star ∷ is.1.0 = is.1.1 in
    absurd (cc))
decided Block (c ∷ cs) = by_first (c == star) refl
  where
    by_first : (b : Bool) → (c == star) ≡ b → IsJsDocText Block (c ∷ cs) ⊎ (IsJsDocText Block (c ∷ cs) → ⊥)
    by_first true is = inl (refl, (cs, ap (λ d. d ∷ cs) (eqb-true c star is)))
    by_first false is = inr (λ jsdoc.
        let same : c ∷ cs ≡ star ∷ jsdoc.1.0 = jsdoc.1.1 in
        let heads : c ≡ star = cc in
        eqb-false c star is heads)

module _ (text : List ℕ) (comments : List DependencyComment) (spelled : All (IsSpelled text) comments)
    (apart : AreApart comments)
    (utf8 : All (λ (comment : DependencyComment). IsUtf8 comment.text) comments) where
  step : (done : List DependencyComment) (comment : DependencyComment) (imports : List Import)
      → Contains comments comment → Gathered comments done imports
      → (new : List Import) × Gathered comments (done ++ comment ∷ []) new
  step done comment imports inside gathered = by_kind (decided comment.kind comment.text)
    where
      by_kind : IsJsDoc comment ⊎ (IsJsDoc comment → ⊥)
          → (new : List Import) × Gathered comments (done ++ comment ∷ []) new
      by_kind (inr none) = (imports, Gathered-skip comments done comment imports none gathered)
      by_kind (inl jsdoc) =
          let new = add comment imports gathered.ascending in (
            new.0,
            Gathered-more text comments spelled apart done comment imports new.0 inside jsdoc
                (All-contains (λ (comment : DependencyComment). IsUtf8 comment.text) comments comment utf8
                inside) gathered new.1,
          )

  collect : (done rest : List DependencyComment) → comments ≡ done ++ rest → (imports : List Import)
      → Gathered comments done imports → (all : List Import) × Gathered comments comments all
  collect done [] whole imports gathered =
      (imports, subst (λ d. Gathered comments d imports) (sym (whole ∙ append-nil done)) gathered)
  collect done (comment ∷ rest) whole imports gathered =
      let parts : comments ≡ (done ++ comment ∷ []) ++ rest = whole
      ∙ sym (append_assoc done (comment ∷ []) rest) in
      let inside = subst (λ (xs : List DependencyComment). Contains xs comment) (sym parts)
      (Contains-append_left (done ++ comment ∷ []) rest comment (Contains-push done comment)) in
      let next = step done comment imports inside gathered in
      collect (done ++ comment ∷ []) rest parts next.0 next.1

  pub imports_of : (imports : List Import) × AreImports comments imports
  imports_of =
      let all = collect [] comments refl [] (Gathered-start comments) in
      (all.0, Gathered-imports comments all.0 all.1)
