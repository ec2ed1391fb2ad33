-- A text is pieces side by side.
use Rattle.std.specs.Prelude.{◌≡◌, ℕ, Bool, true, false, List, [], ◌∷◌, ◌++◌, length}
use Rattle.modinfo_pieces.specs.Places.{IsNext, Place, start}
use Rattle.modinfo_pieces.specs.declared.choice.Choice.{Choice}
use Rattle.modinfo_pieces.specs.declared.piece.Piece.{Piece}
use Rattle.modinfo_pieces.specs.declared.piece.PieceKind.{PieceKind}
use Rattle.modinfo_pieces.specs.declared.piece.PieceKind.TheVariants.{BlockComment, LineComment}

-- Pieces lead from one place to another.
pub data Leads (text : List ℕ) (from : Place) : List Piece → Place → Type 0 where
  none : Leads text from [] from
  more : {pieces : List Piece} {place : Place} {piece : Piece} {next : Place} → Leads text from pieces place
      → IsNext text place piece next → Leads text from (pieces ++ piece ∷ []) next

-- The end of a text: each opening is closed, and each choice is met.
pub record IsEnd (text : List ℕ) (place : Place) : Type 0 where
  pub at : place.at ≡ length text
  pub around : place.around ≡ []
  pub choices : place.choices ≡ []

-- The whole text is these pieces, by these choices.
pub record AreTiles (text : List ℕ) (choices : List Choice) (pieces : List Piece) : Type 0 where
  pub end : Place
  pub leads : Leads text (start choices) pieces end
  pub is_end : IsEnd text end

-- A comment, but one as in HTML.
abbrev pub is_comment_kind : PieceKind → Bool
is_comment_kind LineComment = true
is_comment_kind BlockComment = true
is_comment_kind _ = false

abbrev pub is_comment : Piece → Bool
is_comment piece = is_comment_kind piece.kind
