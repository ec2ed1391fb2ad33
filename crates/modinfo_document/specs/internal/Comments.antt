-- How comments are filed, one after another.
use Rattle.std.specs.Prelude.{◌≡◌, ℕ, List, ◌++◌, IsPermutation}
use Rattle.deno_graph_source.specs.ByOffset.{AddsItem, all_items, value_at}
use Rattle.deno_graph_source.specs.Comments.{Ascends, Filing, FiledComments}
use Rattle.deno_graph_source.specs.declared.tree.comments.CommentSide.{CommentSide}
use Rattle.deno_graph_source.specs.declared.tree.comments.CommentSide.TheVariants.{Leading, Trailing}
use Rattle.deno_graph_source.specs.declared.tree.comments.DependencyComment.{DependencyComment}
use Rattle.modinfo_document.specs.declared.comments.FiledEntry.{FiledEntry}
use Rattle.modinfo_document.specs.Comments.{all_comments, comments_at, followed_by}

-- A comment was filed on one side, and the other side is unchanged.
abbrev pub AddsOn : CommentSide → FiledComments → FiledComments → ℕ → DependencyComment → Type 0
AddsOn Leading old new position comment = AddsItem old.leading new.leading position comment
    × (new.trailing ≡ old.trailing) × Ascends new.leading
AddsOn Trailing old new position comment = AddsItem old.trailing new.trailing position comment
    × (new.leading ≡ old.leading) × Ascends new.trailing

-- The comments of these entries were filed, after the earlier ones.
pub record AreAppended (old new : Filing) (entries : List FiledEntry) : Type 0 where
  pub ascending : Ascends old → Ascends new
  pub at_each : (position : ℕ) → value_at new position
      ≡ followed_by (value_at old position) (comments_at position entries)
  pub all : IsPermutation (all_items old ++ all_comments entries) (all_items new)

-- The comments of these entries were filed on one side, and the other side is unchanged.
abbrev pub AreAppendedOn : CommentSide → FiledComments → FiledComments → List FiledEntry → Type 0
AreAppendedOn Leading old new entries =
    AreAppended old.leading new.leading entries × (new.trailing ≡ old.trailing)
AreAppendedOn Trailing old new entries =
    AreAppended old.trailing new.trailing entries × (new.leading ≡ old.leading)
