-- Comments that are filed while the pieces of a text are found.
use Rattle.std.proofs.Common.{◌≡◌, ℕ, Bool, true, false, List, [], ◌∷◌, ◌++◌, Option, Some, None, ap, ◌∙◌}
use Rattle.std.proofs.Common.{filter, map, if◌then◌else◌, cond, refl, sym, unwrap_or}
use Rattle.std.proofs.lemmas.List.{append-nil, append_assoc, map-append}
use Rattle.modinfo_pieces.specs.Filed.{filed_before, filed_from, filed_here, filed_of, first_token}
use Rattle.modinfo_pieces.specs.Filed.{is_before_semicolon, place_after, token_after, waiting_of}
use Rattle.modinfo_pieces.specs.Filing.{SoFar, all_waiting, filed_by, so_far_after}
use Rattle.modinfo_pieces.specs.Places.{IsNext, Place, context_of, start}
use Rattle.modinfo_pieces.specs.Tiles.{is_comment}
use Rattle.modinfo_pieces.specs.declared.choice.Choice.{Choice}
use Rattle.modinfo_pieces.specs.declared.filed.FiledComment.{FiledComment}
use Rattle.modinfo_pieces.specs.declared.filed.Waiting.{Waiting}
use Rattle.modinfo_pieces.specs.declared.piece.Piece.{Piece}
use Rattle.modinfo_pieces.specs.declared.piece.PieceKind.{PieceKind}
use Rattle.modinfo_pieces.specs.declared.piece.PieceKind.TheVariants as kinds
use Rattle.modinfo_pieces.specs.declared.place.Context.{Context}

-- ---- One piece

abbrev piece_of : PieceKind → ℕ → ℕ → Piece
piece_of kind start end = record { kind = kind; start = start; end = end }

module _ (text : List ℕ) (context : Context) (so_far : SoFar) (after : List Piece) where
  -- What is filed by a piece and those after it is what is filed after the piece, by those.
  abbrev GoesOn : Piece → Type 0
  GoesOn piece =
      filed_by text so_far (piece ∷ after) ++ filed_here text context so_far.token piece after
      ≡ filed_by text (so_far_after text context piece piece.kind so_far) after

  abbrev here : Waiting → FiledComment
  here = filed_before text (first_token after)

  abbrev waiting : List Waiting
  waiting = all_waiting text so_far false

  comment-goes_on : (comment : Piece)
      → (so_far.filed ++ map here waiting) ++ filed_of text context so_far.token comment after ∷ []
      ≡ so_far.filed
      ++ map here (waiting ++ waiting_of text context so_far.token comment (is_before_semicolon text after)
      ∷ [])
  comment-goes_on comment =
      append_assoc so_far.filed (map here waiting)
      (filed_of text context so_far.token comment after ∷ [])
      ∙ ap (λ l. so_far.filed ++ l) (sym (map-append here waiting
      (waiting_of text context so_far.token comment (is_before_semicolon text after) ∷ [])))

  kind-goes_on : (kind : PieceKind) (start end : ℕ) → GoesOn (piece_of kind start end)
  kind-goes_on kinds.Space start end = append-nil _
  kind-goes_on kinds.LineComment start end = comment-goes_on (piece_of kinds.LineComment start end)
  kind-goes_on kinds.BlockComment start end = comment-goes_on (piece_of kinds.BlockComment start end)
  kind-goes_on kinds.HtmlComment start end =
      append-nil _ ∙ ap (λ l. so_far.filed ++ map here l) (sym (append-nil waiting))
  kind-goes_on kinds.Hashbang start end = refl
  kind-goes_on kinds.Word start end = refl
  kind-goes_on kinds.String start end = refl
  kind-goes_on kinds.Template start end = refl
  kind-goes_on kinds.RegularExpression start end = refl
  kind-goes_on kinds.JsxText start end = refl
  kind-goes_on kinds.JsxString start end = refl
  kind-goes_on kinds.Punctuation start end = refl

  goes_on : (piece : Piece) → GoesOn piece
  goes_on piece = kind-goes_on piece.kind piece.start piece.end

  kind-token : (kind : PieceKind) (start end : ℕ) →
      (so_far_after text context (piece_of kind start end) kind so_far).token
      ≡ token_after so_far.token (piece_of kind start end)
  kind-token kinds.Space start end = refl
  kind-token kinds.LineComment start end = refl
  kind-token kinds.BlockComment start end = refl
  kind-token kinds.HtmlComment start end = refl
  kind-token kinds.Hashbang start end = refl
  kind-token kinds.Word start end = refl
  kind-token kinds.String start end = refl
  kind-token kinds.Template start end = refl
  kind-token kinds.RegularExpression start end = refl
  kind-token kinds.JsxText start end = refl
  kind-token kinds.JsxString start end = refl
  kind-token kinds.Punctuation start end = refl

  last_token : (piece : Piece)
      → (so_far_after text context piece piece.kind so_far).token ≡ token_after so_far.token piece
  last_token piece = kind-token piece.kind piece.start piece.end

-- The place after a piece is the next place.
pub IsNext-place_after : (text : List ℕ) (place : Place) (piece : Piece) (next : Place)
    → IsNext text place piece next → next ≡ place_after text place piece
IsNext-place_after text place piece next is =
    ap (λ at. record {
      at = at;
      around = next.around;
      before = next.before;
      is_after_line_end = next.is_after_line_end;
      choices = next.choices;
    }) is.at
    ∙ ap (λ around. record {
      at = piece.end;
      around = unwrap_or around [];
      before = next.before;
      is_after_line_end = next.is_after_line_end;
      choices = next.choices;
    }) (sym is.around)
    ∙ ap (λ before. record {
      at = piece.end;
      around = (place_after text place piece).around;
      before = before;
      is_after_line_end = next.is_after_line_end;
      choices = next.choices;
    }) is.before
    ∙ ap (λ line_end. record {
      at = piece.end;
      around = (place_after text place piece).around;
      before = (place_after text place piece).before;
      is_after_line_end = line_end;
      choices = next.choices;
    }) is.is_after_line_end
    ∙ ap (λ choices. record {
      at = piece.end;
      around = (place_after text place piece).around;
      before = (place_after text place piece).before;
      is_after_line_end = (place_after text place piece).is_after_line_end;
      choices = choices;
    }) is.choices

-- ---- All pieces

module _ (text : List ℕ) (choices : List Choice) where
  -- The comments of pieces that lead to a place, filed as far as can be: whatever follows the pieces, these
  -- comments and those of what follows are those of all pieces.
  abbrev pub AreFiledTo : List Piece → Place → SoFar → Type 0
  AreFiledTo pieces place so_far =
      (after : List Piece) → filed_from text (start choices) None (pieces ++ after)
      ≡ filed_by text so_far after ++ filed_from text place so_far.token after

  pub AreFiledTo-none : (place : Place) (so_far : SoFar) → place ≡ start choices
      → so_far ≡ record { filed = []; waiting = []; newest = None; token = None }
      → AreFiledTo [] place so_far
  AreFiledTo-none place so_far is nothing after = rw (is, nothing) refl

  pub AreFiledTo-more : (pieces : List Piece) (place next : Place) (context : Context) (piece : Piece)
      (so_far new : SoFar) → AreFiledTo pieces place so_far → IsNext text place piece next
      → context ≡ context_of place → new ≡ so_far_after text context piece piece.kind so_far
      → AreFiledTo (pieces ++ piece ∷ []) next new
  unfolding filed_from
  AreFiledTo-more pieces place next context piece so_far new filed step is becomes after =
      rw (becomes, IsNext-place_after text place piece next step, is)
      (ap (filed_from text (start choices) None) (append_assoc pieces (piece ∷ []) after)
      ∙ filed (piece ∷ after)
      ∙ sym (append_assoc (filed_by text so_far (piece ∷ after))
      (filed_here text (context_of place) so_far.token piece after)
      (filed_from text (place_after text place piece) (token_after so_far.token piece) after))
      ∙ ap (λ l. l ++ filed_from text (place_after text place piece) (token_after so_far.token piece) after)
      (goes_on text (context_of place) so_far after piece)
      ∙ ap (λ token. filed_by text (so_far_after text (context_of place) piece piece.kind so_far) after
      ++ filed_from text (place_after text place piece) token after)
      (sym (last_token text (context_of place) so_far after piece)))

  pub AreFiledTo-all : (pieces : List Piece) (place : Place) (so_far : SoFar)
      → AreFiledTo pieces place so_far
      → filed_by text so_far [] ≡ filed_from text (start choices) None pieces
  unfolding filed_from
  AreFiledTo-all pieces place so_far filed =
      sym (append-nil (filed_by text so_far [])) ∙ sym (filed [])
      ∙ ap (filed_from text (start choices) None) (append-nil pieces)

-- ---- Which comments are filed

comment-before : (text : List ℕ) (token : Option Piece) (comment : Piece) (end : Option ℕ) (is_after : Bool)
    → (filed_before text token (record {
      comment = comment;
      trailed_end = end;
      is_after_token = is_after;
    })).comment ≡ comment
comment-before text None comment end is_after = refl
comment-before text (Some token) comment None is_after = refl
comment-before text (Some token) comment (Some end) is_after = refl

comment-waiting : (text : List ℕ) (context : Context) (token : Option Piece) (comment : Piece)
    (is_before : Bool) → (waiting_of text context token comment is_before).comment ≡ comment
comment-waiting text context None comment is_before = refl
comment-waiting text context (Some token) comment is_before = refl

comment-filed : (text : List ℕ) (context : Context) (token : Option Piece) (comment : Piece)
    (after : List Piece) → (filed_of text context token comment after).comment ≡ comment
comment-filed text context token comment after =
    let waiting = waiting_of text context token comment (is_before_semicolon text after) in
    comment-before text (first_token after) waiting.comment waiting.trailed_end waiting.is_after_token
    ∙ comment-waiting text context token comment (is_before_semicolon text after)

abbrev comment_of : FiledComment → Piece
comment_of filed = filed.comment

-- Exactly the comments among some pieces are filed.
pub filed-comments : (text : List ℕ) (place : Place) (token : Option Piece) (pieces : List Piece)
    → map comment_of (filed_from text place token pieces) ≡ filter is_comment pieces
unfolding filed_from
filed-comments text place token [] = refl
filed-comments text place token (piece ∷ pieces) =
    let others = filed_from text (place_after text place piece) (token_after token piece) pieces in
    map-append comment_of (filed_here text (context_of place) token piece pieces) others
    ∙ cases-here (is_comment piece) (filed_of text (context_of place) token piece pieces) piece
    (comment-filed text (context_of place) token piece pieces)
    (map comment_of others) (filter is_comment pieces)
    (filed-comments text (place_after text place piece) (token_after token piece) pieces)
  where
    cases-here : (is : Bool) (filed : FiledComment) (piece : Piece) → filed.comment ≡ piece
        → (l m : List Piece) → l ≡ m
        → map comment_of (if is then filed ∷ [] else []) ++ l ≡ cond is (piece ∷ m) m
    cases-here true filed piece same l m eq = rw (same, eq) refl
    cases-here false filed piece same l m eq = eq
