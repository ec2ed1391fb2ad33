-- The comments that are filed.
use Rattle.std.proofs.Common.{◌≡◌, ℕ, Bool, false, List, [], Option, Some, None, refl}
use Rattle.std.specs.Cmp.{IsEquivalence}
use Rattle.std.specs.List.{All, Contains, slice_get}
use Rattle.std.specs.Option.{unwrap_or}
use Rattle.std.proofs.lemmas.List.Elements.{All-append, All-contains, Contains-append_left}
use Rattle.std.proofs.lemmas.List.Elements.{Contains-append_right}
use Rattle.deno_graph_source.specs.ByOffset.{all_items, item_at, value_at}
use Rattle.deno_graph_source.specs.Comments.{FiledComments, comments_of}
use Rattle.deno_graph_source.specs.FaultPlace.{comment_at, side_of}
use Rattle.deno_graph_source.specs.declared.tree.comments.DependencyComment.{DependencyComment}
use Rattle.deno_graph_source.specs.declared.tree.comments.CommentPlace.{CommentPlace}
use Rattle.deno_graph_source.specs.declared.tree.comments.CommentSide.{CommentSide}
use Rattle.deno_graph_source.specs.declared.tree.comments.CommentSide.TheVariants.{Leading, Trailing}
use Rattle.deno_graph_source.proofs.NodePaths.{Contains-from_slice_get}
use Rattle.deno_graph_source.proofs.ValidSource.{Contains-at_position}

-- the item with an index at an offset is one of the items at all offsets
Contains-item_at : {T : Type 0} (entries : List (ℕ × List T)) (pos number : ℕ) (item : T)
    → item_at entries pos number ≡ Some item → Contains (all_items entries) item
Contains-item_at {T} entries pos number item at = by_list (value_at entries pos) refl at
  where
    by_list : (o : Option (List T)) → value_at entries pos ≡ o → slice_get (unwrap_or o []) number ≡ Some item
        → Contains (all_items entries) item
    by_list None found here = cc
    by_list (Some items) found here =
        Contains-at_position entries pos items item found (Contains-from_slice_get items number item here)

filed_on : (comments : FiledComments) (side : CommentSide) (pos number : ℕ) (comment : DependencyComment)
    → item_at (side_of comments side) pos number ≡ Some comment → Contains (comments_of comments) comment
unfolding comments_of
filed_on comments Leading pos number comment at =
    Contains-append_left (all_items comments.leading) (all_items comments.trailing) comment
    (Contains-item_at comments.leading pos number comment at)
filed_on comments Trailing pos number comment at =
    Contains-append_right (all_items comments.leading) (all_items comments.trailing) comment
    (Contains-item_at comments.trailing pos number comment at)

-- the comment at a place is filed
pub Contains-comment_at : (comments : FiledComments) (place : CommentPlace) (comment : DependencyComment)
    → comment_at comments place ≡ Some comment → Contains (comments_of comments) comment
Contains-comment_at comments place comment at =
    filed_on comments place.side place.position place.number comment at

-- a comment that equals no leading and no trailing comment isn't filed
pub equals_none : (eq : DependencyComment → DependencyComment → Bool) → IsEquivalence eq
    → (comments : FiledComments) (comment : DependencyComment)
    → All (λ item. eq item comment ≡ false) (all_items comments.leading)
    → All (λ item. eq item comment ≡ false) (all_items comments.trailing)
    → Contains (comments_of comments) comment → ⊥
unfolding comments_of
equals_none eq laws comments comment before after at =
    let other = All-contains (λ item. eq item comment ≡ false) (comments_of comments) comment
    (All-append (λ item. eq item comment ≡ false) (all_items comments.leading) (all_items comments.trailing)
    before after) at in
    cc (other, laws.refl comment)
