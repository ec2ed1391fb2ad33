-- Filing comments one after another.
use Rattle.std.proofs.Common.{◌≡◌, ℕ, ◌+◌, ◌<◌, Bool, List, [], ◌∷◌, ◌++◌, if◌then◌else◌, length, map, take}
use Rattle.std.proofs.Common.{get_or, Result, Ok, Err, OnOk, refl, ap, subst, sym, ◌∙◌}
use Rattle.std.proofs.lemmas.Grind.{flat_map-append}
use Rattle.std.proofs.lemmas.List.{append-nil, map-append, take_more}
use Rattle.std.specs.List.{flat_map}
use Rattle.deno_graph_base.specs.declared.text.position.SourceRange.{SourceRange}
use Rattle.deno_graph_source.specs.ByOffset.{AddsItem}
use Rattle.deno_graph_source.specs.Comments.{Ascends, Filing, FiledComments}
use Rattle.deno_graph_source.specs.declared.tree.comments.CommentSide.{CommentSide}
use Rattle.deno_graph_source.specs.declared.tree.comments.CommentSide.TheVariants.{Leading, Trailing}
use Rattle.deno_graph_source.specs.declared.tree.comments.DependencyComment.{DependencyComment}
use Rattle.modinfo_document.specs.Comments.{AreThoseOf, entry_with}
use Rattle.modinfo_document.specs.declared.comments.FiledEntry.{FiledEntry}
use Rattle.modinfo_document.specs.internal.Comments.{AreAppended}
use Rattle.modinfo_document.proofs.Filed.{both_on, both_sides, empty_on, more_on, none_on}
use Rattle.modinfo_estree.specs.Comments.{comment_at_range, entries_on, entry_on, place_of, same_side}
use Rattle.modinfo_estree.specs.Comments.{sides_of}
use Rattle.modinfo_estree.specs.Tokens.{Layout}
use Rattle.modinfo_estree.specs.declared.comments.Place.{Place}
use Rattle.modinfo_estree.specs.internal.Comments.{AreAllFiled, IsFiled}

-- ---- One comment

pub on_both : {A E : Type 0} (r : Result A E) (P Q R : Type 0) → OnOk r P → OnOk r Q → (P → Q → R) → OnOk r R
on_both (Ok v) P Q R p q f = f p q
on_both (Err e) P Q R p q f = tt

-- The entry of a comment at a place whose side is known.
entry_at : (side : CommentSide) (place : Place) (comment : DependencyComment) (known : CommentSide)
    → place.side ≡ known
    → entry_on side place comment
    ≡ (if same_side known side then entry_with place.position (comment ∷ []) ∷ [] else [])
entry_at side place comment known is =
    ap (λ s. if same_side s side then entry_with place.position (comment ∷ []) ∷ [] else []) is

nothing : (old new : Filing) → new ≡ old → AreAppended old new []
nothing old new same =
    subst (λ filing. AreAppended old filing []) (sym same)
    (none_on Leading (record { leading = old; trailing = [] })).0

pub filed_leading : (place : Place) (comment : DependencyComment) (old new : FiledComments)
    → place.side ≡ Leading → AddsItem old.leading new.leading place.position comment
    → new.trailing ≡ old.trailing → Ascends new.leading → IsFiled place comment old new
filed_leading place comment old new is added other ascending =
    let one = more_on Leading old old new place.position [] comment (empty_on Leading old place.position)
    (added, other, ascending) in (
      subst (AreAppended old.leading new.leading) (sym (entry_at Leading place comment Leading is)) one.0,
      subst (AreAppended old.trailing new.trailing) (sym (entry_at Trailing place comment Leading is))
          (nothing old.trailing new.trailing other),
    )

pub filed_trailing : (place : Place) (comment : DependencyComment) (old new : FiledComments)
    → place.side ≡ Trailing → AddsItem old.trailing new.trailing place.position comment
    → new.leading ≡ old.leading → Ascends new.trailing → IsFiled place comment old new
filed_trailing place comment old new is added other ascending =
    let one = more_on Trailing old old new place.position [] comment (empty_on Trailing old place.position)
    (added, other, ascending) in (
      subst (AreAppended old.leading new.leading) (sym (entry_at Leading place comment Trailing is))
          (nothing old.leading new.leading other),
      subst (AreAppended old.trailing new.trailing) (sym (entry_at Trailing place comment Trailing is)) one.0,
    )

-- ---- One range more

abbrev alone : Filing → FiledComments
alone filing = record { leading = filing; trailing = [] }

appended_both : (old mid new : Filing) (es fs : List FiledEntry) → AreAppended old mid es
    → AreAppended mid new fs → AreAppended old new (es ++ fs)
appended_both old mid new es fs first then_ =
    (both_on Leading (alone old) (alone mid) (alone new) es fs (first, refl) (then_, refl)).0

module _ (text : List ℕ) (layout : Layout) (ends : List Bool) (is_empty : Bool) where
  -- A comment was filed.
  abbrev pub Files : DependencyComment → FiledComments → FiledComments → Type 0
  Files comment old new = IsFiled (place_of text layout ends is_empty comment) comment old new

  -- The comments at one more range.
  found_more : (ranges : List SourceRange) (i : ℕ) (d : SourceRange) (found : DependencyComment)
      → i < length ranges → found ≡ comment_at_range text (get_or ranges i d)
      → map (comment_at_range text) (take (i + 1) ranges)
      ≡ map (comment_at_range text) (take i ranges) ++ found ∷ []
  found_more ranges i d found within is =
      ap (map (comment_at_range text)) (take_more ranges i d within)
      ∙ map-append (comment_at_range text) (take i ranges) (get_or ranges i d ∷ [])
      ∙ ap (λ comment. map (comment_at_range text) (take i ranges) ++ comment ∷ []) (sym is)

  abbrev entries : CommentSide → List DependencyComment → List FiledEntry
  entries side comments = entries_on side text layout ends is_empty comments

  one_side : (side : CommentSide) (before comments : List DependencyComment) (start old new : Filing)
      → AreAppended start old (entries side before) → AreAppended old new (entries side comments)
      → AreAppended start new (entries side (before ++ comments))
  one_side side before comments start old new so_far one =
      let entry : DependencyComment → List FiledEntry = λ comment.
      entry_on side (place_of text layout ends is_empty comment) comment in
      subst (AreAppended start new) (sym (flat_map-append entry before comments))
      (appended_both start old new (flat_map entry before) (flat_map entry comments) so_far one)

  -- The entries of the comment that was found.
  found_on : (found : DependencyComment) (old new : FiledComments) → Files found old new
      → AreAppended old.leading new.leading (entries Leading (found ∷ []))
      × AreAppended old.trailing new.trailing (entries Trailing (found ∷ []))
  found_on comment old new filed =
      let place = place_of text layout ends is_empty comment in (
        subst (AreAppended old.leading new.leading) (sym (append-nil (entry_on Leading place comment)))
            filed.0,
        subst (AreAppended old.trailing new.trailing) (sym (append-nil (entry_on Trailing place comment)))
            filed.1,
      )

  pub filed_more : (ranges : List SourceRange) (i : ℕ) (d : SourceRange) (found : DependencyComment)
      (start old new : FiledComments) → i < length ranges → found ≡ comment_at_range text (get_or ranges i d)
      → AreAllFiled text layout ends is_empty (take i ranges) start old → Files found old new
      → AreAllFiled text layout ends is_empty (take (i + 1) ranges) start new
  filed_more ranges i d found start old new within is so_far filed =
      let before = map (comment_at_range text) (take i ranges) in
      let found_here = found ∷ [] in
      let more = sym (found_more ranges i d found within is) in
      let one = found_on found old new filed in (
        subst (λ all. AreAppended start.leading new.leading (entries Leading all)) more
            (one_side Leading before found_here start.leading old.leading new.leading so_far.0 one.0),
        subst (λ all. AreAppended start.trailing new.trailing (entries Trailing all)) more
            (one_side Trailing before found_here start.trailing old.trailing new.trailing so_far.1 one.1),
      )

  -- ---- No range, and all ranges

  pub none_filed : (ranges : List SourceRange) (start : FiledComments)
      → AreAllFiled text layout ends is_empty (take 0 ranges) start start
  none_filed ranges start =
      (nothing start.leading start.leading refl, nothing start.trailing start.trailing refl)

  pub all_filed : (ranges : List SourceRange) (start new : FiledComments) → start.leading ≡ []
      → start.trailing ≡ [] → AreAllFiled text layout ends is_empty ranges start new
      → AreThoseOf (sides_of text layout ends is_empty ranges) new
  unfolding sides_of
  all_filed ranges start new no_leading no_trailing filed =
      let mid : FiledComments = record { leading = new.leading; trailing = start.trailing } in
      let comments = map (comment_at_range text) ranges in
      both_sides start mid new (entries Leading comments) (entries Trailing comments) no_leading no_trailing
      (filed.0, refl) (filed.1, refl)
