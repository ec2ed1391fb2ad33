-- Comments that are filed one after another.
use Rattle.std.proofs.Common.{inl, inr, Some, ◌≡◌, ℕ, ◌+◌, ◌<◌, ◌≤◌, ◌==◌, Bool, true, false, not, ◌&&◌, List}
use Rattle.std.proofs.Common.{[], ◌∷◌, ◌++◌, ap, ◌∙◌, append-nil, cond, filter, get_or, if◌then◌else◌, length}
use Rattle.std.proofs.Common.{map, refl, subst, sym, take, unwrap_or}
use Rattle.std.specs.List.Sorted.{IsPermutation}
use Rattle.std.proofs.lemmas.Bool.Decides.{eqb_tells}
use Rattle.std.proofs.lemmas.List.{map-append, take_all, take_more}
use Rattle.std.proofs.lemmas.List.Elements.{filter-append}
use Rattle.std.proofs.lemmas.List.Sorted.{IsPermutation-push_more, IsPermutation-refl}
use Rattle.deno_graph_source.specs.Comments.{FiledComments, Filing, comments_of, leading_at}
use Rattle.deno_graph_source.specs.ByOffset.{AddsItem, value_at}
use Rattle.deno_graph_source.specs.declared.tree.comments.DependencyComment.{DependencyComment}
use Rattle.modinfo_pieces.specs.declared.filed.FiledComment.{FiledComment}
use Rattle.modinfo_pieces.specs.declared.piece.Piece.{Piece}
use Rattle.modinfo_source.specs.Comments.{AreFiled, comment_of, comments_that, leads_at, trailing_at}
use Rattle.modinfo_source.specs.Comments.{trails_at}
use Rattle.modinfo_source.specs.internal.Filed.{Files}

-- ---- One comment

-- The comments at each position, with one more at one.
added-at : (old new : Filing) (pos : ℕ) (comment : DependencyComment) → AddsItem old new pos comment
    → (position : ℕ) → unwrap_or (value_at new position) []
    ≡ unwrap_or (value_at old position) [] ++ (if pos == position then comment ∷ [] else [])
added-at old new pos comment added position = elim (eqb_tells pos position) [
  | inl is ↦
      ap (λ found. unwrap_or found [])
      (subst (λ p. value_at new p ≡ Some (unwrap_or (value_at old p) [] ++ comment ∷ [])) is.1 added.added)
      ∙ ap (λ b. unwrap_or (value_at old position) [] ++ (if b then comment ∷ [] else [])) (sym is.0)
  | inr isnt ↦
      ap (λ found. unwrap_or found []) (added.others position (λ e. isnt.1 (sym e)))
      ∙ sym (append-nil (unwrap_or (value_at old position) []))
      ∙ ap (λ b. unwrap_or (value_at old position) [] ++ (if b then comment ∷ [] else [])) (sym isnt.0)
]

-- Of one comment those that pass a test.
one-that : (text : List ℕ) (filed : FiledComment) (passes : Bool)
    → (if passes then comment_of text filed.comment ∷ [] else [])
    ≡ map (λ (f : FiledComment). comment_of text f.comment) (cond passes (filed ∷ []) [])
one-that text filed true = refl
one-that text filed false = refl

pub Files-leading : (text : List ℕ) (filed : FiledComment) (old new : FiledComments) → filed.trails ≡ false
    → AddsItem old.leading new.leading filed.position (comment_of text filed.comment)
    → new.trailing ≡ old.trailing
    → IsPermutation (comment_of text filed.comment ∷ comments_of old) (comments_of new)
    → Files text filed old new
Files-leading text filed old new leads added others all = record {
  all = all;
  leading = λ position.
      added-at old.leading new.leading filed.position (comment_of text filed.comment) added position
      ∙ ap (λ l. leading_at old position ++ l)
      (one-that text filed (filed.position == position)
      ∙ ap (λ (b : Bool). map (λ (f : FiledComment). comment_of text f.comment)
      (cond (not b && (filed.position == position)) (filed ∷ []) [])) (sym leads));
  trailing = λ position.
      ap (λ trailing. unwrap_or (value_at trailing position) []) others
      ∙ sym (append-nil (trailing_at old position))
      ∙ ap (λ (b : Bool). trailing_at old position ++ map (λ (f : FiledComment). comment_of text f.comment)
      (cond (b && (filed.position == position)) (filed ∷ []) [])) (sym leads);
}

pub Files-trailing : (text : List ℕ) (filed : FiledComment) (old new : FiledComments) → filed.trails ≡ true
    → AddsItem old.trailing new.trailing filed.position (comment_of text filed.comment)
    → new.leading ≡ old.leading
    → IsPermutation (comment_of text filed.comment ∷ comments_of old) (comments_of new)
    → Files text filed old new
Files-trailing text filed old new trails added others all = record {
  all = all;
  leading = λ position.
      ap (λ leading. unwrap_or (value_at leading position) []) others
      ∙ sym (append-nil (leading_at old position))
      ∙ ap (λ (b : Bool). leading_at old position ++ map (λ (f : FiledComment). comment_of text f.comment)
      (cond (not b && (filed.position == position)) (filed ∷ []) [])) (sym trails);
  trailing = λ position.
      added-at old.trailing new.trailing filed.position (comment_of text filed.comment) added position
      ∙ ap (λ l. trailing_at old position ++ l)
      (one-that text filed (filed.position == position)
      ∙ ap (λ (b : Bool). map (λ (f : FiledComment). comment_of text f.comment)
      (cond (b && (filed.position == position)) (filed ∷ []) [])) (sym trails));
}

-- ---- All comments

abbrev piece_of : FiledComment → Piece
piece_of filed = filed.comment

-- Without comments none is filed.
pub AreFiled-none : (text : List ℕ) (filed : List FiledComment) (comments : FiledComments)
    → comments.leading ≡ [] → comments.trailing ≡ [] → AreFiled text (take 0 filed) comments
unfolding comments_of
AreFiled-none text filed comments leading trailing = record {
  all = rw (leading, trailing) (IsPermutation-refl []);
  leading = λ position. ap (λ l. unwrap_or (value_at l position) []) leading;
  trailing = λ position. ap (λ l. unwrap_or (value_at l position) []) trailing;
}

-- The comments that pass a test among those so far and one more.
that-more : (test : FiledComment → Bool) (text : List ℕ) (filed : List FiledComment) (i : ℕ)
    (d : FiledComment) → i < length filed → comments_that test text (take i filed)
    ++ comments_that test text (get_or filed i d ∷ []) ≡ comments_that test text (take (i + 1) filed)
that-more test text filed i d within =
    let comment : FiledComment → DependencyComment = λ f. comment_of text f.comment in
    sym (ap (λ l. map comment (filter test l)) (take_more filed i d within)
    ∙ ap (map comment) (filter-append test (take i filed) (get_or filed i d ∷ []))
    ∙ map-append comment (filter test (take i filed)) (filter test (get_or filed i d ∷ [])))

-- One more comment is filed.
pub AreFiled-more : (text : List ℕ) (filed : List FiledComment) (i : ℕ) (d : FiledComment)
    (old new : FiledComments) → i < length filed → AreFiled text (take i filed) old
    → Files text (get_or filed i d) old new → AreFiled text (take (i + 1) filed) new
AreFiled-more text filed i d old new within before files =
    let here = get_or filed i d in
    let grows : map (comment_of text) (map piece_of (take (i + 1) filed))
    ≡ map (comment_of text) (map piece_of (take i filed)) ++ comment_of text here.comment ∷ [] =
    ap (λ l. map (comment_of text) (map piece_of l)) (take_more filed i d within)
    ∙ ap (map (comment_of text)) (map-append piece_of (take i filed) (here ∷ []))
    ∙ map-append (comment_of text) (map piece_of (take i filed)) (here.comment ∷ []) in
    record {
      all = subst (λ (comments : List DependencyComment). IsPermutation comments (comments_of new))
          (sym grows)
          (IsPermutation-push_more (map (comment_of text) (map piece_of (take i filed))) (comments_of old)
          (comments_of new) (comment_of text here.comment) before.all files.all);
      leading = λ position. files.leading position
          ∙ ap (λ l. l ++ comments_that (leads_at position) text (here ∷ [])) (before.leading position)
          ∙ that-more (leads_at position) text filed i d within;
      trailing = λ position. files.trailing position
          ∙ ap (λ l. l ++ comments_that (trails_at position) text (here ∷ [])) (before.trailing position)
          ∙ that-more (trails_at position) text filed i d within;
    }

-- All comments are filed.
pub AreFiled-all : (text : List ℕ) (filed : List FiledComment) (i : ℕ) (comments : FiledComments)
    → length filed ≤ i → AreFiled text (take i filed) comments → AreFiled text filed comments
AreFiled-all text filed i comments all are =
    subst (λ (l : List FiledComment). AreFiled text l comments) (take_all i filed all) are
