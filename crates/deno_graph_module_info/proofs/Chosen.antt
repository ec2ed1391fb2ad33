-- The JSDoc comments of a list, chosen one after another.
use Rattle.std.proofs.Common.{◌≡◌, ◌+◌, ◌<◌, ◌⊎◌, inl, inr, ℕ, List, [], ◌∷◌, ◌++◌, length, take, map, get_or}
use Rattle.std.proofs.Common.{sym, ap, ◌∙◌, subst, arith, Bor}
use Rattle.std.proofs.lemmas.List.{get_or-map, length-map, map-append, take_more}
use Rattle.std.proofs.lemmas.List.Elements.{Contains-append_left, Contains-push, Contains-push_cases}
use Rattle.std.proofs.lemmas.List.Sorted.{Contains-permutation, IsPermutation-sym}
use Rattle.std.specs.List.{Contains}
use Rattle.std.specs.List.Sorted.{IsPermutation}
use Rattle.deno_graph_module_info.specs.CommentImports.{IsJsDoc}
use Rattle.deno_graph_module_info.specs.internal.CommentImportSteps.{AreJsDocOf}
use Rattle.deno_graph_source.specs.declared.tree.comments.DependencyComment.{DependencyComment}

-- the values of borrows
abbrev pub all : List (Bor DependencyComment) → List DependencyComment
all comments = map (λ (c : Bor DependencyComment). c.now) comments

-- the comment of an iteration
pub item_in : (comments : List (Bor DependencyComment)) (k : ℕ) (item : Bor DependencyComment)
    → k < length comments → item ≡ get_or comments k item → Contains (all comments) item.now
item_in comments k item inside is = (
  k,
  omega (arith, inside, length-map comments (λ (c : Bor DependencyComment). c.now)),
  get_or-map (λ (c : Bor DependencyComment). c.now) comments k item item.now inside
      ∙ ap (λ (c : Bor DependencyComment). c.now) (sym is),
)

pub item_next : (comments : List (Bor DependencyComment)) (k : ℕ) (item : Bor DependencyComment)
    → k < length comments → item ≡ get_or comments k item
    → all (take (k + 1) comments) ≡ all (take k comments) ++ item.now ∷ []
item_next comments k item inside is =
    ap all (take_more comments k item inside)
    ∙ map-append (λ (c : Bor DependencyComment). c.now) (take k comments) (get_or comments k item ∷ [])
    ∙ ap (λ (c : Bor DependencyComment). all (take k comments) ++ c.now ∷ []) (sym is)

module _ (done chosen : List DependencyComment) (are : AreJsDocOf done chosen) where
  pub AreJsDocOf-more : (item : DependencyComment) → IsJsDoc item
      → AreJsDocOf (done ++ item ∷ []) (chosen ++ item ∷ [])
  AreJsDocOf-more item jsdoc comment = (
    (λ has. to (Contains-push_cases chosen item comment has)),
    λ both. from (Contains-push_cases done item comment both.0) both.1,
  )
    where
      to : Contains chosen comment ⊎ (item ≡ comment) → Contains (done ++ item ∷ []) comment × IsJsDoc comment
      to (inl has) =
          let both = (are comment).0 has in
          (Contains-append_left done (item ∷ []) comment both.0, both.1)
      to (inr is) = (
        subst (Contains (done ++ item ∷ [])) is (Contains-push done item),
        subst IsJsDoc is jsdoc,
      )

      from : Contains done comment ⊎ (item ≡ comment) → IsJsDoc comment
          → Contains (chosen ++ item ∷ []) comment
      from (inl has) jsdoc = Contains-append_left chosen (item ∷ []) comment ((are comment).1 (has, jsdoc))
      from (inr is) jsdoc = subst (Contains (chosen ++ item ∷ [])) is (Contains-push chosen item)

  pub AreJsDocOf-skip : (item : DependencyComment) → (IsJsDoc item → ⊥)
      → AreJsDocOf (done ++ item ∷ []) chosen
  AreJsDocOf-skip item none comment = (
    (λ has.
        let both = (are comment).0 has in
        (Contains-append_left done (item ∷ []) comment both.0, both.1)),
    λ both. from (Contains-push_cases done item comment both.0) both.1,
  )
    where
      from : Contains done comment ⊎ (item ≡ comment) → IsJsDoc comment → Contains chosen comment
      from (inl has) jsdoc = (are comment).1 (has, jsdoc)
      from (inr is) jsdoc = absurd (none (subst IsJsDoc (sym is) jsdoc))

  pub AreJsDocOf-permuted : (sorted : List DependencyComment) → IsPermutation chosen sorted
      → AreJsDocOf done sorted
  AreJsDocOf-permuted sorted moved comment = (
    (λ has. (are comment).0 (Contains-permutation sorted chosen comment
        (IsPermutation-sym chosen sorted moved) has)),
    λ both. Contains-permutation chosen sorted comment moved ((are comment).1 both),
  )
