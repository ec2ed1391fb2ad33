-- Where each comment of a text is filed, by the pieces around it.
use Rattle.std.specs.Prelude.{ℕ, ◌-◌, ◌==◌, Bool, true, false, not, ◌&&◌, ◌||◌, List, [], ◌∷◌, ◌++◌, Option}
use Rattle.std.specs.Prelude.{Some, None, if◌then◌else◌, length, nat_le, nat_lt, slice_index, slice_range}
use Rattle.std.specs.Prelude.{suc, take, unwrap_or, zero}
use Rattle.modinfo_pieces.specs.Places.{Place, around_after, before_after, choices_after, context_of}
use Rattle.modinfo_pieces.specs.Places.{line_end_after}
use Rattle.modinfo_pieces.specs.Tiles.{is_comment}
use Rattle.modinfo_pieces.specs.Trails.{is_keyword, is_operator, trails}
use Rattle.modinfo_pieces.specs.Words.{is_word_byte}
use Rattle.modinfo_pieces.specs.declared.filed.FiledComment.{FiledComment}
use Rattle.modinfo_pieces.specs.declared.filed.Waiting.{Waiting}
use Rattle.modinfo_pieces.specs.declared.piece.Piece.{Piece}
use Rattle.modinfo_pieces.specs.declared.piece.PieceKind.{PieceKind}
use Rattle.modinfo_pieces.specs.declared.piece.PieceKind.TheVariants.{BlockComment, HtmlComment, JsxString}
use Rattle.modinfo_pieces.specs.declared.piece.PieceKind.TheVariants.{JsxText, LineComment, Punctuation}
use Rattle.modinfo_pieces.specs.declared.piece.PieceKind.TheVariants.{RegularExpression, Space, String}
use Rattle.modinfo_pieces.specs.declared.piece.PieceKind.TheVariants.{Template, Word}
use Rattle.modinfo_pieces.specs.declared.place.Before.{Before}
use Rattle.modinfo_pieces.specs.declared.place.Before.TheVariants.{Value}
use Rattle.modinfo_pieces.specs.declared.place.Context.{Context}
use Rattle.modinfo_pieces.specs.declared.place.Opening.{Opening}
use Rattle.modinfo_pieces.specs.declared.place.Opening.TheVariants.{ClosingTag, Tag}

-- A piece of this kind is a token, or a part of one: neither white space nor a comment. A `#!` line is a
-- token.
abbrev pub is_token : PieceKind → Bool
is_token Space = false
is_token LineComment = false
is_token BlockComment = false
is_token HtmlComment = false
is_token _ = true

abbrev pub is_line : PieceKind → Bool
is_line LineComment = true
is_line _ = false

-- Words in a tag are names.
abbrev pub is_in_tag : Opening → Bool
is_in_tag Tag = true
is_in_tag ClosingTag = true
is_in_tag _ = false

-- After a `>` the end of an expression is an element's.
abbrev pub is_value : Before → Bool
is_value Value = true
is_value _ = false

-- A word is no keyword: it is in a tag, after `#`, or another word.
abbrev pub is_name : List ℕ → Piece → Opening → Bool
is_name text word inside = is_in_tag inside || ((slice_index text (word.start - 1) == 35)
    || not (is_keyword (slice_range text word.start word.end)))

-- `{`, `}` or `;`.
abbrev pub is_closing : ℕ → Bool
is_closing byte = (byte == 123) || ((byte == 125) || (byte == 59))

-- A byte of decimal digits, which `_` may separate.
abbrev pub is_digit : ℕ → Bool
is_digit byte = (nat_le 48 byte && nat_le byte 57) || (byte == 95)

-- Where the digits before an offset begin.
unfoldable pub digits_start : List ℕ → ℕ → ℕ
digits_start text zero = zero
digits_start text (suc at) = (if is_digit (slice_index text at) then digits_start text at else suc at)

-- A byte of a name, or a dot.
abbrev pub is_name_or_dot : ℕ → Bool
is_name_or_dot byte = is_word_byte byte || ((byte == 46) || nat_le 128 byte)

-- The dot at an offset is the last byte of a number, as in `1.`: digits are before it, and before them
-- neither a name nor a dot.
abbrev pub ends_number : List ℕ → ℕ → Bool
ends_number text dot =
    let start = digits_start text dot in
    (nat_lt start dot && not (slice_index text start == 95))
    && not (nat_lt 0 start && is_name_or_dot (slice_index text (start - 1)))

-- Block comments trail a token of this kind, whatever follows them. Of the parts of templates only those
-- before an expression, which end with `${`.
abbrev pub is_trailed : List ℕ → Piece → PieceKind → Opening → Bool
is_trailed text token Word inside = is_name text token inside
is_trailed text token Punctuation inside =
    is_closing (slice_index text token.start)
    || ((slice_index text token.start == 46) && ends_number text token.start)
is_trailed text token Template inside = slice_index text (token.end - 1) == 123
is_trailed text token String inside = true
is_trailed text token JsxString inside = true
is_trailed text token JsxText inside = true
is_trailed text token RegularExpression inside = true
is_trailed text token _ inside = false

-- A token of this kind is a binary operator, or its last byte. The `>` at an element's end is none.
abbrev pub is_operator_token : List ℕ → Piece → PieceKind → Before → Bool
is_operator_token text token Punctuation before =
    is_operator (take token.end text) && not (is_value before && (slice_index text token.start == 62))
is_operator_token text token _ before = false

-- A comment trails the token before it. `context` is what is known where the comment begins.
abbrev pub trails_token : List ℕ → Context → Piece → PieceKind → Bool → Bool
trails_token text context token kind is_before_semicolon =
    not context.is_after_line_end
    && trails (is_line kind) (is_operator_token text token token.kind context.before)
    (is_trailed text token token.kind context.inside) is_before_semicolon

-- What a comment goes with, but for the token after it, by the token before it.
abbrev pub waiting_of : List ℕ → Context → Option Piece → Piece → Bool → Waiting
waiting_of text context None comment is_before_semicolon =
    record { comment = comment; trailed_end = None; is_after_token = false }
waiting_of text context (Some token) comment is_before_semicolon = record {
  comment = comment;
  trailed_end = (if trails_token text context token comment.kind is_before_semicolon then Some token.end
      else None);
  is_after_token = true;
}

-- A comment before this token is filed at the end of the token that it trails, or leads this token.
abbrev pub before_token : Piece → Piece → Option ℕ → FiledComment
before_token token comment None = record { comment = comment; trails = false; position = token.start }
before_token token comment (Some end) = record { comment = comment; trails = true; position = end }

-- A comment without a token after it trails the text's end; in a text without tokens it leads the text's
-- start.
abbrev pub at_end : List ℕ → Waiting → FiledComment
at_end text waiting = record {
  comment = waiting.comment;
  trails = waiting.is_after_token;
  position = (if waiting.is_after_token then length text else 0);
}

-- Where a comment is filed, by the token after it.
abbrev pub filed_before : List ℕ → Option Piece → Waiting → FiledComment
filed_before text None waiting = at_end text waiting
filed_before text (Some token) waiting = before_token token waiting.comment waiting.trailed_end

-- The first token among some pieces.
abbrev pub first_token : List Piece → Option Piece
first_token [] = None
first_token (piece ∷ pieces) = (if is_token piece.kind then Some piece else first_token pieces)

-- A piece of this kind is a `;`.
abbrev pub is_semicolon : List ℕ → Piece → PieceKind → Bool
is_semicolon text piece Punctuation = slice_index text piece.start == 59
is_semicolon text piece _ = false

abbrev pub is_space : PieceKind → Bool
is_space Space = true
is_space _ = false

-- The first of some pieces that isn't white space is a `;`.
abbrev pub is_before_semicolon : List ℕ → List Piece → Bool
is_before_semicolon text [] = false
is_before_semicolon text (piece ∷ pieces) =
    (if is_space piece.kind then is_before_semicolon text pieces else is_semicolon text piece piece.kind)

-- Where a comment is filed, by what is known where it begins, the token before it, and the pieces after it.
abbrev pub filed_of : List ℕ → Context → Option Piece → Piece → List Piece → FiledComment
filed_of text context token comment after =
    filed_before text (first_token after)
    (waiting_of text context token comment (is_before_semicolon text after))

-- The place after a piece.
abbrev pub place_after : List ℕ → Place → Piece → Place
place_after text place piece = record {
  at = piece.end;
  around = unwrap_or (around_after text piece piece.kind (context_of place) place.around) [];
  before = before_after text piece piece.kind (context_of place);
  is_after_line_end = line_end_after text piece piece.kind place.is_after_line_end;
  choices = choices_after place.at place.choices;
}

-- The last token after a piece.
abbrev pub token_after : Option Piece → Piece → Option Piece
token_after token piece = (if is_token piece.kind then Some piece else token)

-- The comment that a piece is, filed, if the piece is one.
abbrev pub filed_here : List ℕ → Context → Option Piece → Piece → List Piece → List FiledComment
filed_here text context token piece after =
    (if is_comment piece then filed_of text context token piece after ∷ [] else [])

-- The comments among pieces from a place on, each filed, in the order of the text. `token` is the last token
-- before the place.
unfoldable pub filed_from : List ℕ → Place → Option Piece → List Piece → List FiledComment
filed_from text place token [] = []
filed_from text place token (piece ∷ pieces) =
    filed_here text (context_of place) token piece pieces
    ++ filed_from text (place_after text place piece) (token_after token piece) pieces
