-- How the comments at some ranges are filed, one after another.
use Rattle.std.specs.Prelude.{List, Bool, map, ℕ}
use Rattle.deno_graph_base.specs.declared.text.position.SourceRange.{SourceRange}
use Rattle.deno_graph_source.specs.Comments.{FiledComments}
use Rattle.deno_graph_source.specs.declared.tree.comments.CommentSide.TheVariants.{Leading, Trailing}
use Rattle.deno_graph_source.specs.declared.tree.comments.DependencyComment.{DependencyComment}
use Rattle.modinfo_document.specs.internal.Comments.{AreAppended}
use Rattle.modinfo_estree.specs.Comments.{comment_at_range, entries_on, entry_on}
use Rattle.modinfo_estree.specs.Tokens.{Layout}
use Rattle.modinfo_estree.specs.declared.comments.Place.{Place}

-- A comment was filed at a place, after the earlier ones.
abbrev pub IsFiled : Place → DependencyComment → FiledComments → FiledComments → Type 0
IsFiled place comment old new = AreAppended old.leading new.leading (entry_on Leading place comment)
    × AreAppended old.trailing new.trailing (entry_on Trailing place comment)

-- The comments at these ranges were filed, after the earlier ones.
abbrev pub AreAllFiled : List ℕ → Layout → List Bool → Bool → List SourceRange → FiledComments → FiledComments
    → Type 0
AreAllFiled text layout ends is_empty ranges old new =
    AreAppended old.leading new.leading
    (entries_on Leading text layout ends is_empty (map (comment_at_range text) ranges))
    × AreAppended old.trailing new.trailing
    (entries_on Trailing text layout ends is_empty (map (comment_at_range text) ranges))
