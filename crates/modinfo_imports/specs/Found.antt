-- What is found among the pieces of a text.
use Rattle.std.specs.Prelude.{◌≡◌, ℕ, ◌==◌, Bool, true, false, ◌&&◌, ◌||◌, List, [], ◌∷◌, Option, Some, None}
use Rattle.std.specs.Prelude.{IsTrue, codes, if◌then◌else◌}
use Rattle.std.specs.List.{All, Contains}
use Rattle.modinfo_imports.specs.Watches.{IsWatchEnd, Watch, Watches, is_gap, watch_start}
use Rattle.modinfo_pieces.specs.Comments.{has_bytes}
use Rattle.modinfo_pieces.specs.Places.{Place, start}
use Rattle.modinfo_pieces.specs.Filed.{filed_from}
use Rattle.modinfo_pieces.specs.Tiles.{AreTiles}
use Rattle.modinfo_imports.specs.declared.claims.Mark.{Mark}
use Rattle.modinfo_pieces.specs.declared.choice.Choice.{Choice}
use Rattle.modinfo_pieces.specs.declared.filed.FiledComment.{FiledComment}
use Rattle.modinfo_pieces.specs.declared.piece.Piece.{Piece}

-- A watch goes over the pieces of a text to its end: each claim is met, and no word that a dependency begins
-- with is lost.
pub record AreWatched (text : List ℕ) (is_typed : Bool) (choices : List Choice)
    (claims : List Piece) (marks : List Mark) (pieces : List Piece) : Type 0 where
  pub end : Place
  pub watch : Watch
  pub watches : Watches text is_typed (start choices) (watch_start claims marks) pieces end watch
  pub is_watch_end : IsWatchEnd watch

-- Where the first token of these pieces begins, if there is one.
unfoldable pub first_token : List Piece → Option ℕ
first_token [] = None
first_token (piece ∷ pieces) = (if is_gap piece.kind then first_token pieces else Some piece.start)

-- The first item of a body begins at the first token, or after it if that is the `declare` of
-- `declare import a = require("b")`. Without a token there is no item.
abbrev pub begins_at : List ℕ → Option ℕ → Option ℕ → Bool
begins_at text (Some token) (Some item) =
    (token == item) || (has_bytes text token (codes "declare") && has_bytes text item (codes "import"))
begins_at text None None = true
begins_at text _ _ = false

-- A text is pieces side by side, among them exactly these comments, each filed. Each claim is a piece, and no
-- word that a dependency begins with is lost. The body's first item begins at `body`, if there is one.
pub record HasFound (text : List ℕ) (is_typed : Bool) (choices : List Choice) (claims : List Piece)
    (marks : List Mark)
    (body : Option ℕ) (comments : List FiledComment) : Type 0 where
  pub pieces : List Piece
  pub are_tiles : AreTiles text choices pieces
  pub are_watched : AreWatched text is_typed choices claims marks pieces
  pub are_pieces : All (Contains pieces) claims
  pub comments_are : comments ≡ filed_from text (start choices) None pieces
  pub begins : IsTrue (begins_at text (first_token pieces) body)
