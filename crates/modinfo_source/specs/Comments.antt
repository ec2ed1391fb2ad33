-- The comments of a source are those of its text, each filed by the tokens around it.
use Rattle.std.specs.Prelude.{◌≡◌, ℕ, ◌+◌, ◌-◌, ◌==◌, Bool, not, ◌&&◌, List, [], None, filter, map}
use Rattle.std.specs.Prelude.{slice_range, unwrap_or}
use Rattle.std.specs.List.Sorted.{IsPermutation}
use Rattle.deno_graph_source.specs.ByOffset.{value_at}
use Rattle.deno_graph_source.specs.Comments.{FiledComments, comments_of, leading_at}
use Rattle.deno_graph_source.specs.declared.tree.comments.CommentKind.{CommentKind}
use Rattle.deno_graph_source.specs.declared.tree.comments.CommentKind.TheVariants.{Block, Line}
use Rattle.deno_graph_source.specs.declared.tree.comments.DependencyComment.{DependencyComment}
use Rattle.modinfo_pieces.specs.Filed.{filed_from}
use Rattle.modinfo_pieces.specs.Places.{start}
use Rattle.modinfo_pieces.specs.Tiles.{AreTiles, is_comment}
use Rattle.modinfo_pieces.specs.declared.choice.Choice.{Choice}
use Rattle.modinfo_pieces.specs.declared.filed.FiledComment.{FiledComment}
use Rattle.modinfo_pieces.specs.declared.piece.Piece.{Piece}
use Rattle.modinfo_pieces.specs.declared.piece.PieceKind.{PieceKind}
use Rattle.modinfo_pieces.specs.declared.piece.PieceKind.TheVariants.{BlockComment}

-- The kind of a comment, by the kind of its piece.
abbrev pub kind_of : PieceKind → CommentKind
kind_of BlockComment = Block
kind_of _ = Line

-- How many bytes a comment's last mark has.
abbrev pub end_mark : PieceKind → ℕ
end_mark BlockComment = 2
end_mark _ = 0

-- The text of a comment, without its marks.
abbrev pub text_of : List ℕ → Piece → List ℕ
text_of text piece = slice_range text (piece.start + 2) (piece.end - end_mark piece.kind)

-- The comment of a piece.
abbrev pub comment_of : List ℕ → Piece → DependencyComment
comment_of text piece = record {
  kind = kind_of piece.kind;
  range = record { start = piece.start; end = piece.end };
  text = text_of text piece;
}

-- The comments are those of these pieces, each once.
abbrev pub AreFrom : List ℕ → List Piece → FiledComments → Type 0
AreFrom text pieces comments = IsPermutation (map (comment_of text) pieces) (comments_of comments)

-- A comment is filed as leading at a position, or as trailing.
abbrev pub leads_at : ℕ → FiledComment → Bool
leads_at position filed = not filed.trails && (filed.position == position)

abbrev pub trails_at : ℕ → FiledComment → Bool
trails_at position filed = filed.trails && (filed.position == position)

-- The comments of these that pass a test, in their order.
abbrev pub comments_that : (FiledComment → Bool) → List ℕ → List FiledComment → List DependencyComment
comments_that test text filed = map (λ f. comment_of text f.comment) (filter test filed)

-- The comments that are filed as trailing at a position, in the order of filing.
abbrev pub trailing_at : FiledComments → ℕ → List DependencyComment
trailing_at comments position = unwrap_or (value_at comments.trailing position) []

-- The comments are these, each once, on its side and at its position, there in this order.
pub record AreFiled (text : List ℕ) (filed : List FiledComment) (comments : FiledComments) : Type 0 where
  pub all : AreFrom text (map (λ f. f.comment) filed) comments
  pub leading : (position : ℕ) → leading_at comments position ≡ comments_that (leads_at position) text filed
  pub trailing : (position : ℕ)
      → trailing_at comments position ≡ comments_that (trails_at position) text filed

-- The text is pieces side by side, and the comments are exactly those among them, with their texts. Each is
-- filed by the tokens around it, those at one position in the order of the text.
pub record HasComments (text : List ℕ) (comments : FiledComments) : Type 0 where
  pub choices : List Choice
  pub pieces : List Piece
  pub are_tiles : AreTiles text choices pieces
  pub are_from : AreFrom text (filter is_comment pieces) comments
  pub are_filed : AreFiled text (filed_from text (start choices) None pieces) comments
