-- The values of a document that a comment is read from.
use Rattle.std.specs.Prelude.{◌≡◌, ℕ, List, Option, slice_get}
use Rattle.serde_json.specs.Data.{Data}
use Rattle.deno_graph_json.specs.Read.Partial.{◌>>=◌}
use Rattle.deno_graph_source.specs.declared.tree.comments.CommentSide.{CommentSide}
use Rattle.deno_graph_source.specs.declared.tree.comments.CommentSide.TheVariants.{Leading, Trailing}
use Rattle.modinfo_document.specs.declared.comments.FiledEntry.{FiledEntry}
use Rattle.modinfo_document.specs.Comments.{Sides, comments_at, reads_comment}

-- The entries of a side.
abbrev pub side_entries : Sides → CommentSide → List FiledEntry
side_entries sides Leading = sides.leading
side_entries sides Trailing = sides.trailing

-- The comment of this number, among those at a position, is read from the value. There is a value exactly
-- where there is such a comment.
abbrev pub IsCommentAt : List FiledEntry → ℕ → ℕ → Option Data → Type 0
IsCommentAt entries position number found = (found >>= reads_comment) ≡ slice_get
    (comments_at position entries) number
