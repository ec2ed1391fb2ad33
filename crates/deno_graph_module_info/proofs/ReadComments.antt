-- Comments in ascending order of their starts, each read once: the imports so far start before the next
-- comment.
use Rattle.std.proofs.Common.{◌≡◌, ℕ, ◌+◌, ◌<◌, ◌≤◌, ◌⊎◌, inl, inr, List, [], ◌∷◌, ◌++◌, length, take, get_or}
use Rattle.std.proofs.Common.{refl, sym, ap, ◌∙◌, subst, arith, Bor}
use Rattle.std.proofs.lemmas.List.{get_or-take, get_or_default, length-take-le, take_more}
use Rattle.std.proofs.lemmas.List.Elements.{All-contains, Contains-append_left, Contains-push}
use Rattle.std.specs.List.{All, Contains}
use Rattle.std.specs.List.Sorted.{IsNonDecreasingBy}
use Rattle.std.specs.Str.{IsUtf8}
use Rattle.deno_graph_jsdoc.specs.JsDocImport.{Import}
use Rattle.deno_graph_source.specs.Source.{IsSpelled}
use Rattle.deno_graph_source.specs.declared.tree.comments.DependencyComment.{DependencyComment}
use Rattle.deno_graph_module_info.specs.CommentImports.{AreApart, IsJsDoc}
use Rattle.deno_graph_module_info.specs.internal.CommentImportSteps.{AreJsDocOf, GainsImports, IsMovedImport}
use Rattle.deno_graph_module_info.proofs.Chosen.{all, item_in, item_next}
use Rattle.deno_graph_module_info.proofs.Gathered.{Gathered, Gathered-more, Gathered-start, complete_more}
use Rattle.deno_graph_module_info.proofs.ImportRanges.{comment_size}
use Rattle.deno_graph_module_info.proofs.Pushed.{inside_end}

-- the imports in the first `k` comments start before `end`, the end of the last of these comments
pub record AreRead (comments : List DependencyComment) (items : List (Bor DependencyComment)) (k : ℕ)
    (imports : List Import) (end : ℕ) : Type 0 where
  pub gathered : Gathered comments (all (take k items)) imports
  pub below : (import : Import) → Contains imports import → import.start < end
  pub last : (end ≡ 0)
      ⊎ ((item : Bor DependencyComment) × Contains (take k items) item × (item.now.range.end ≡ end))

pub AreRead-start : (comments : List DependencyComment) (items : List (Bor DependencyComment))
    → AreRead comments items 0 [] 0
AreRead-start comments items = record {
  gathered = Gathered-start comments;
  below = λ import has. absurd (omega (arith, has.1));
  last = inl refl;
}

-- a comment that was read before adds no import
Gathered-again : (comments done : List DependencyComment) (comment : DependencyComment)
    (imports : List Import) → Contains done comment → Gathered comments done imports
    → Gathered comments (done ++ comment ∷ []) imports
Gathered-again comments done comment imports there gathered = record {
  ascending = gathered.ascending;
  sound = gathered.sound;
  complete = complete_more done comment imports gathered.complete (gathered.complete comment there);
}

module _ (text : List ℕ) (comments : List DependencyComment) (spelled : All (IsSpelled text) comments)
    (apart : AreApart comments) (items : List (Bor DependencyComment))
    (are : AreJsDocOf comments (all items))
    (sorted : IsNonDecreasingBy (λ (c : Bor DependencyComment). c.now.range.start) items)
    (k : ℕ) (item : Bor DependencyComment) (inside : k < length items) (is : item ≡ get_or items k item) where
  here : Contains comments item.now × IsJsDoc item.now
  here = (are item.now).0 (item_in items k item inside is)

  own : IsSpelled text item.now
  own = All-contains (IsSpelled text) comments item.now spelled here.0

  next : take (k + 1) items ≡ take k items ++ item ∷ []
  next = take_more items k item inside ∙ ap (λ x. take k items ++ x ∷ []) (sym is)

  pub AreRead-more : (imports new : List Import) (end : ℕ) → end ≤ item.now.range.start
      → IsUtf8 item.now.text → GainsImports imports (IsMovedImport item.now) new
      → AreRead comments items k imports end → AreRead comments items (k + 1) new item.now.range.end
  AreRead-more imports new end order utf8 gains so_far = record {
    gathered =
        subst (λ (d : List DependencyComment). Gathered comments d new)
        (sym (item_next items k item inside is))
        (Gathered-more text comments spelled apart (all (take k items)) item.now imports new here.0 here.1
        utf8 so_far.gathered gains);
    below =
        inside_end text item.now own (here.1).0 utf8 imports new end order so_far.below gains;
    last = inr (
      item,
      subst (λ (xs : List (Bor DependencyComment)). Contains xs item) (sym next)
          (Contains-push (take k items) item),
      refl,
    );
  }

  pub AreRead-again : (imports : List Import) (end : ℕ) → item.now.range.start < end
      → AreRead comments items k imports end → AreRead comments items (k + 1) imports end
  AreRead-again imports end order so_far = by_last so_far.last
    where
      by_last : (end ≡ 0)
          ⊎ ((c : Bor DependencyComment) × Contains (take k items) c × (c.now.range.end ≡ end))
          → AreRead comments items (k + 1) imports end
      by_last (inl none) = absurd (omega (arith, none, order))
      by_last (inr (c, has, ends)) =
          let j = has.0 in
          let short = length-take-le k items in
          let within = has.1 in
          let smaller : j < k = omega (arith, within, short) in
          let at : c ≡ get_or items j c = sym (has.2) ∙ get_or-take k items j c smaller in
          let there = (are c.now).0 (item_in items j c (omega (arith, smaller, inside)) at) in
          let starts = sorted j k c (omega (arith, smaller)) inside in
          let first = ap (λ (b : Bor DependencyComment). b.now.range.start) at in
          let second = ap (λ (b : Bor DependencyComment). b.now.range.start)
          (is ∙ get_or_default items k item c inside) in
          let size = comment_size text item.now own (here.1).0 in
          let same : c.now ≡ item.now = apart c.now item.now there.0 here.0 (
            item.now.range.start,
            omega (arith, starts, first, second),
            omega (arith, order, ends),
            omega arith,
            omega (arith, size.0),
          ) in
          record {
            gathered =
                subst (λ (d : List DependencyComment). Gathered comments d imports)
                (sym (item_next items k item inside is))
                (Gathered-again comments (all (take k items)) item.now imports
                (subst (Contains (all (take k items))) same (item_in (take k items) j c within (sym has.2)))
                so_far.gathered);
            below = so_far.below;
            last = inr (
              c,
              subst (λ (xs : List (Bor DependencyComment)). Contains xs c) (sym next)
                  (Contains-append_left (take k items) (item ∷ []) c has),
              ends,
            );
          }
