-- The comments up to a place, as far as they can be filed there.
use Rattle.std.specs.Prelude.{◌≡◌, ℕ, Bool, false, List, [], ◌∷◌, ◌++◌, Option, Some, None, map}
use Rattle.modinfo_pieces.specs.Filed.{filed_before, first_token, is_before_semicolon, is_semicolon}
use Rattle.modinfo_pieces.specs.Filed.{waiting_of}
use Rattle.modinfo_pieces.specs.declared.filed.FiledComment.{FiledComment}
use Rattle.modinfo_pieces.specs.declared.filed.Waiting.{Waiting}
use Rattle.modinfo_pieces.specs.declared.filing.Newest.{Newest}
use Rattle.modinfo_pieces.specs.declared.piece.Piece.{Piece}
use Rattle.modinfo_pieces.specs.declared.piece.PieceKind.{PieceKind}
use Rattle.modinfo_pieces.specs.declared.piece.PieceKind.TheVariants.{BlockComment, HtmlComment, LineComment}
use Rattle.modinfo_pieces.specs.declared.piece.PieceKind.TheVariants.{Space}
use Rattle.modinfo_pieces.specs.declared.place.Context.{Context}

-- The comments before the last token, each filed; the later ones, which wait for a token; the newest, if only
-- white space follows it so far; and the last token.
pub record SoFar : Type 0 where
  pub filed : List FiledComment
  pub waiting : List Waiting
  pub newest : Option Newest
  pub token : Option Piece

-- The newest comment, once it is known whether a `;` follows it.
abbrev pub settled : List ℕ → Option Newest → Bool → List Waiting
settled text None is_before_semicolon = []
settled text (Some newest) is_before_semicolon =
    waiting_of text newest.context newest.token newest.comment is_before_semicolon ∷ []

-- All comments that wait for a token, once it is known whether a `;` follows the newest.
abbrev pub all_waiting : List ℕ → SoFar → Bool → List Waiting
all_waiting text so_far is_before_semicolon =
    so_far.waiting ++ settled text so_far.newest is_before_semicolon

-- A comment is the newest.
abbrev pub with_newest : List ℕ → Context → Piece → SoFar → SoFar
with_newest text context comment so_far = record {
  filed = so_far.filed;
  waiting = all_waiting text so_far false;
  newest = Some (record { comment = comment; context = context; token = so_far.token });
  token = so_far.token;
}

-- No comment has only white space after it.
abbrev pub without_newest : List ℕ → SoFar → SoFar
without_newest text so_far = record {
  filed = so_far.filed;
  waiting = all_waiting text so_far false;
  newest = None;
  token = so_far.token;
}

-- A token files the comments that wait.
abbrev pub with_token : List ℕ → Piece → SoFar → SoFar
with_token text token so_far = record {
  filed = so_far.filed
      ++ map (filed_before text (Some token)) (all_waiting text so_far (is_semicolon text token token.kind));
  waiting = [];
  newest = None;
  token = Some token;
}

-- No comment waits for a token.
pub record IsQuiet (so_far : SoFar) : Type 0 where
  pub waiting : so_far.waiting ≡ []
  pub newest : so_far.newest ≡ None

-- With another last token.
abbrev pub with_last : Option Piece → SoFar → SoFar
with_last token so_far =
    record { filed = so_far.filed; waiting = so_far.waiting; newest = so_far.newest; token = token }

-- After a piece of this kind. `context` is what is known where the piece begins.
abbrev pub so_far_after : List ℕ → Context → Piece → PieceKind → SoFar → SoFar
so_far_after text context piece Space so_far = so_far
so_far_after text context piece LineComment so_far = with_newest text context piece so_far
so_far_after text context piece BlockComment so_far = with_newest text context piece so_far
so_far_after text context piece HtmlComment so_far = without_newest text so_far
so_far_after text context piece _ so_far = with_token text piece so_far

-- All comments so far, each filed, by the pieces that follow.
abbrev pub filed_by : List ℕ → SoFar → List Piece → List FiledComment
filed_by text so_far after =
    so_far.filed
    ++ map (filed_before text (first_token after)) (all_waiting text so_far (is_before_semicolon text after))
