-- The imports in comments, one comment after another.
use Rattle.std.proofs.Common.{◌≡◌, ℕ, ◌+◌, ◌<◌, ◌≤◌, ◌⊎◌, inl, inr, ⊎_elim, List, [], ◌∷◌, ◌++◌, length, take}
use Rattle.std.proofs.Common.{map, get_or, sym, ap, ◌∙◌, subst, arith}
use Rattle.std.proofs.lemmas.List.{get_or-map, length-map, map-append, take_all, take_more}
use Rattle.std.proofs.lemmas.List.Elements.{All-contains, Contains-append_left, Contains-get_or}
use Rattle.std.proofs.lemmas.List.Elements.{Contains-push, Contains-push_cases}
use Rattle.std.proofs.lemmas.Simd.{map-map}
use Rattle.std.specs.List.{All, AllPairs, Contains}
use Rattle.std.specs.Str.{IsUtf8, chars}
use Rattle.deno_graph_jsdoc.specs.JsDocImports.{AreImportsIn, IsImportIn}
use Rattle.deno_graph_jsdoc.specs.internal.Pass.{GainsImport}
use Rattle.deno_graph_jsdoc.specs.JsDocImport.{Import, import_of, moved}
use Rattle.deno_graph_jsdoc.specs.declared.import.JsDocImport.{JsDocImport}
use Rattle.deno_graph_jsdoc.proofs.ImportsIn.{has_specifier}
use Rattle.deno_graph_module_info.specs.CommentImports.{AreApart, AreImports, IsImportOf, IsJsDoc, IsQuotedAt}
use Rattle.deno_graph_module_info.specs.internal.CommentImportSteps.{GainsImports, IsMovedImport}
use Rattle.deno_graph_module_info.proofs.ImportRanges.{one_import, quoted_at}
use Rattle.deno_graph_source.specs.Source.{IsSpelled}
use Rattle.deno_graph_source.specs.declared.tree.comments.DependencyComment.{DependencyComment}

pub GainsImports-start : (old : List Import) (P : Import → Type 0)
    → AllPairs (λ (import later : Import). import.start < later.start) old
    → ((import : Import) → P import → ⊥)
    → GainsImports old P old
GainsImports-start old P pairs none = record {
  ascending = pairs;
  only = λ import has. inl has;
  kept = λ import has. has;
  there = λ import is. absurd (none import is);
}

pub GainsImports-more : (old new more : List Import) (xs : List Import) (x : Import)
    → GainsImports old (Contains xs) new → GainsImport new x more
    → GainsImports old (Contains (xs ++ x ∷ [])) more
GainsImports-more old new more xs x gains gain = record {
  ascending = gain.ascending;
  only = λ import has. by_new import (gain.only import has);
  kept = λ import has. gain.kept import (gains.kept import has);
  there = λ import has. by_moved import (Contains-push_cases xs x import has);
}
  where
    by_new : (import : Import) → Contains new import ⊎ (x ≡ import)
        → Contains old import ⊎ Contains (xs ++ x ∷ []) import
    by_new import (inr same) = inr (subst (Contains (xs ++ x ∷ [])) same (Contains-push xs x))
    by_new import (inl has) = by_old (gains.only import has)
      where
        by_old : Contains old import ⊎ Contains xs import
            → Contains old import ⊎ Contains (xs ++ x ∷ []) import
        by_old (inl was) = inl was
        by_old (inr is) = inr (Contains-append_left xs (x ∷ []) import is)

    by_moved : (import : Import) → Contains xs import ⊎ (x ≡ import)
        → (other : Import) × Contains more other × (other.start ≡ import.start)
    by_moved import (inl has) =
        let there = gains.there import has in
        (there.0, gain.kept there.0 there.1, there.2)
    by_moved import (inr same) =
        let there = gain.there in
        (there.0, there.1, there.2 ∙ ap (λ (i : Import). i.start) same)

pub GainsImports-as : (old new : List Import) (P Q : Import → Type 0)
    → ((import : Import) → P import → Q import) → ((import : Import) → Q import → P import)
    → GainsImports old P new → GainsImports old Q new
GainsImports-as old new P Q to from gains = record {
  ascending = gains.ascending;
  only = λ import has. by_new import (gains.only import has);
  kept = gains.kept;
  there = λ import is. gains.there import (from import is);
}
  where
    by_new : (import : Import) → Contains old import ⊎ P import → Contains old import ⊎ Q import
    by_new import (inl has) = inl has
    by_new import (inr is) = inr (to import is)

-- the imports in the first `k` comments, whose texts are UTF-8
pub record Gathered (comments : List DependencyComment) (done : List DependencyComment)
    (imports : List Import) : Type 0 where
  pub ascending : AllPairs (λ (import later : Import). import.start < later.start) imports
  pub sound : (import : Import) → Contains imports import
      → (comment : DependencyComment) × Contains comments comment × IsUtf8 comment.text
      × IsImportOf comment import
  pub complete : (comment : DependencyComment) → Contains done comment → (import : Import)
      → IsImportOf comment import → Contains imports import

pub Gathered-start : (comments : List DependencyComment) → Gathered comments [] []
Gathered-start comments = record {
  ascending = λ i j d order inside. absurd (omega arith);
  sound = λ import has. absurd (omega (arith, has.1));
  complete = λ comment has. absurd (omega (arith, has.1));
}

-- a list with the imports of each comment, for one more comment
pub complete_more : (done : List DependencyComment) (comment : DependencyComment) (imports : List Import)
    → ((other : DependencyComment) → Contains done other → (import : Import) → IsImportOf other import
    → Contains imports import)
    → ((import : Import) → IsImportOf comment import → Contains imports import)
    → (other : DependencyComment) → Contains (done ++ comment ∷ []) other → (import : Import)
    → IsImportOf other import → Contains imports import
complete_more done comment imports complete own other has import is =
    ⊎_elim (λ there. complete other there import is)
    (λ same. own import (subst (λ (c : DependencyComment). IsImportOf c import) (sym same) is))
    (Contains-push_cases done comment other has)

pub Gathered-skip : (comments done : List DependencyComment) (comment : DependencyComment)
    (imports : List Import) → (IsJsDoc comment → ⊥) → Gathered comments done imports
    → Gathered comments (done ++ comment ∷ []) imports
Gathered-skip comments done comment imports none gathered = record {
  ascending = gathered.ascending;
  sound = gathered.sound;
  complete = complete_more done comment imports gathered.complete (λ import is. absurd (none is.jsdoc));
}

module _ (text : List ℕ) (comments : List DependencyComment) (spelled : All (IsSpelled text) comments)
    (apart : AreApart comments) where
  pub Gathered-more : (done : List DependencyComment) (comment : DependencyComment)
      (imports more : List Import) → Contains comments comment → IsJsDoc comment → IsUtf8 comment.text
      → Gathered comments done imports → GainsImports imports (IsMovedImport comment) more
      → Gathered comments (done ++ comment ∷ []) more
  Gathered-more done comment imports more inside jsdoc utf8 gathered gains = record {
    ascending = gains.ascending;
    sound = sound;
    complete = complete_more done comment more
        (λ other has import is. gains.kept import (gathered.complete other has import is)) added;
  }
    where
      import_of_added : (import : Import) → IsMovedImport comment import → IsImportOf comment import
      import_of_added import (inner, is_inner, is_moved) =
          record { jsdoc = jsdoc; inner = inner; is_inner = is_inner; is_moved = is_moved }

      sound : (import : Import) → Contains more import
          → (comment : DependencyComment) × Contains comments comment × IsUtf8 comment.text
          × IsImportOf comment import
      sound import has = by_new (gains.only import has)
        where
          by_new : Contains imports import ⊎ IsMovedImport comment import
              → (comment : DependencyComment) × Contains comments comment × IsUtf8 comment.text
              × IsImportOf comment import
          by_new (inl old) = gathered.sound import old
          by_new (inr new) = (comment, inside, utf8, import_of_added import new)

      added : (import : Import) → IsImportOf comment import → Contains more import
      added import is =
          let there = gains.there import (is.inner, is.is_inner, is.is_moved) in
          let from = sound there.0 there.1 in
          subst (Contains more)
          (one_import text comments apart from.0 comment from.1 inside
          (All-contains (IsSpelled text) comments from.0 spelled from.1)
          (All-contains (IsSpelled text) comments comment spelled inside)
          from.2 utf8 there.0 import from.3 is there.2)
          there.1

pub Gathered-imports : (comments : List DependencyComment) (imports : List Import)
    → Gathered comments comments imports → AreImports comments imports
Gathered-imports comments imports gathered = record {
  ascending = gathered.ascending;
  exact = λ import. (
    (λ has.
        let from = gathered.sound import has in
        (from.0, from.1, from.3)),
    λ some. gathered.complete some.0 some.1 import some.2,
  );
}

-- the imports in all JSDoc comments are those in all comments
pub Gathered-jsdoc : (comments chosen : List DependencyComment) (imports : List Import)
    → ((comment : DependencyComment) → Contains comments comment → IsJsDoc comment → Contains chosen comment)
    → Gathered comments chosen imports → Gathered comments comments imports
Gathered-jsdoc comments chosen imports has gathered = record {
  ascending = gathered.ascending;
  sound = gathered.sound;
  complete = λ comment inside import is. gathered.complete comment (has comment inside is.jsdoc) import is;
}

pub Gathered-quoted : (comments done : List DependencyComment) (imports : List Import)
    → Gathered comments done imports → (text : List ℕ) → All (IsSpelled text) comments → (import : Import)
    → Contains imports import
    → IsQuotedAt text import
Gathered-quoted comments done imports gathered text spelled import has =
    let from = gathered.sound import has in
    quoted_at text from.0 (All-contains (IsSpelled text) comments from.0 spelled from.1)
    (from.3).jsdoc.0 from.2 import (from.3).inner
    (has_specifier (chars (from.0).text) (from.3).inner (from.3).is_inner) (from.3).is_moved

-- the inners in a text, with offsets from the start of the source
module _ (by : ℕ) (inners : List Import) (text : List ℕ) (are : AreImportsIn text inners) where
  pub moved_is_inner : (import : Import) → Contains (map (moved by) inners) import
      → (inner : Import) × IsImportIn text inner × (import ≡ moved by inner)
  moved_is_inner import (i, inside, is) =
      let within : i < length inners = omega (arith, inside, length-map inners (moved by)) in
      let inner = get_or inners i import in (
        inner,
        (are.exact inner).0 (Contains-get_or inners i import within),
        sym is
            ∙ get_or-map (moved by) inners i import import within,
      )

  pub inner_is_moved : (import : Import)
      → (inner : Import) × IsImportIn text inner × (import ≡ moved by inner)
      → Contains (map (moved by) inners) import
  inner_is_moved import (inner, is_inner, is_moved) =
      let has = (are.exact inner).1 is_inner in
      let inside = has.1 in (
        has.0,
        omega (arith, inside, length-map inners (moved by)),
        get_or-map (moved by) inners has.0 inner import inside ∙ ap (moved by) has.2 ∙ sym is_moved,
      )

-- the list with one more import
module _ (by : ℕ) (items : List JsDocImport) where
  abbrev pub placed : List JsDocImport → List Import
  placed some = map (λ (x : JsDocImport). moved by (import_of x)) some

  pub insert_next : (k : ℕ) (d : JsDocImport) (old now new : List Import) (import : Import) → k < length items
      → import ≡ moved by (import_of (get_or items k d))
      → GainsImports old (Contains (placed (take k items))) now → GainsImport now import new
      → GainsImports old (Contains (placed (take (k + 1) items))) new
  insert_next k d old now new import inside same gains gain =
      let item = get_or items k d in
      let next : placed (take (k + 1) items) ≡ placed (take k items) ++ moved by (import_of item) ∷ [] =
      ap placed (take_more items k d inside)
      ∙ map-append (λ (x : JsDocImport). moved by (import_of x)) (take k items) (item ∷ []) in
      subst (λ xs. GainsImports old (Contains xs) new) (sym next)
      (GainsImports-more old now new (placed (take k items)) (moved by (import_of item)) gains
      (subst (λ i. GainsImport now i new) same gain))

  pub insert_all : (k : ℕ) (old new : List Import) (text : List ℕ) → length items ≤ k
      → AreImportsIn text (map import_of items) → GainsImports old (Contains (placed (take k items))) new
      → GainsImports old (λ import. (inner : Import) × IsImportIn text inner × (import ≡ moved by inner)) new
  insert_all k old new text done inners gains =
      GainsImports-as old new (Contains (map (moved by) (map import_of items)))
      (λ import. (inner : Import) × IsImportIn text inner × (import ≡ moved by inner))
      (moved_is_inner by (map import_of items) text inners)
      (inner_is_moved by (map import_of items) text inners)
      (subst (λ xs. GainsImports old (Contains xs) new)
      (ap placed (take_all k items done) ∙ sym (map-map (moved by) import_of items)) gains)

  pub import_in_text : (k : ℕ) (d : JsDocImport) (text : List ℕ) → k < length items
      → AreImportsIn text (map import_of items) → IsImportIn text (import_of (get_or items k d))
  import_in_text k d text inside inners =
      (inners.exact (import_of (get_or items k d))).0
      (subst (Contains (map import_of items)) (get_or-map import_of items k d (import_of d) inside)
      (Contains-get_or (map import_of items) k (import_of d)
      (omega (arith, inside, length-map items import_of))))
