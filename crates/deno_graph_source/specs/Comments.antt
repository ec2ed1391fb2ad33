-- Comments by the offsets at which they are filed.
use Rattle.std.specs.Prelude.{ℕ, List, [], ◌++◌, unwrap_or}
use Rattle.std.specs.List.Sorted.{IsStrictlySortedBy}
use Rattle.std.specs.Map.{keys_of}
use Rattle.std.specs.Ordering.{nat_cmp}
use Rattle.deno_graph_source.specs.ByOffset.{all_items, value_at}
use Rattle.deno_graph_source.specs.declared.tree.comments.DependencyComment.{DependencyComment}

-- offsets, each with the comments that are filed there, in the order of filing
abbrev pub Filing : Type 0
Filing = List (ℕ × List DependencyComment)

-- the offsets strictly ascend
abbrev pub Ascends : Filing → Type 0
Ascends filing = IsStrictlySortedBy nat_cmp (keys_of filing)

-- the comments that are filed as leading, and those that are filed as trailing
pub record FiledComments : Type 0 where
  pub leading : Filing
  pub trailing : Filing

-- every comment, as often as it was filed
unfoldable pub comments_of : FiledComments → List DependencyComment
comments_of comments = all_items comments.leading ++ all_items comments.trailing

-- the comments that are filed as leading at an offset, in the order of filing
abbrev pub leading_at : FiledComments → ℕ → List DependencyComment
leading_at comments pos = unwrap_or (value_at comments.leading pos) []
