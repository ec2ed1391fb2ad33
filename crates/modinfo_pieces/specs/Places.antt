-- Places between two pieces of a text, and the place after a piece.
use Rattle.std.specs.Prelude.{◌≡◌, ℕ, ◌-◌, ◌==◌, ◌<◌, ◌≤◌, Bool, true, false, ◌||◌, List, [], ◌∷◌, Option}
use Rattle.std.specs.Prelude.{Some, None, if◌then◌else◌, length, slice_index, slice_range}
use Rattle.modinfo_pieces.specs.Befores.{before_after_gap, before_after_punctuation}
use Rattle.modinfo_pieces.specs.Ends.{HasEnd}
use Rattle.modinfo_pieces.specs.Kinds.{kind_at}
use Rattle.modinfo_pieces.specs.Openings.{innermost, around_after_punctuation, around_after_template}
use Rattle.modinfo_pieces.specs.Spaces.{has_line_end}
use Rattle.modinfo_pieces.specs.WordClasses.{class_after}
use Rattle.modinfo_pieces.specs.declared.choice.Choice.{Choice}
use Rattle.modinfo_pieces.specs.declared.choice.ChoiceKind.{ChoiceKind}
use Rattle.modinfo_pieces.specs.declared.choice.ChoiceKind.TheVariants as choices
use Rattle.modinfo_pieces.specs.declared.piece.Piece.{Piece}
use Rattle.modinfo_pieces.specs.declared.piece.PieceKind.{PieceKind}
use Rattle.modinfo_pieces.specs.declared.piece.PieceKind.TheVariants.{BlockComment, Hashbang, HtmlComment}
use Rattle.modinfo_pieces.specs.declared.piece.PieceKind.TheVariants.{LineComment, Punctuation}
use Rattle.modinfo_pieces.specs.declared.piece.PieceKind.TheVariants.{RegularExpression, Space, Template}
use Rattle.modinfo_pieces.specs.declared.piece.PieceKind.TheVariants.{Word}
use Rattle.modinfo_pieces.specs.declared.place.Before.{Before}
use Rattle.modinfo_pieces.specs.declared.place.Before.TheVariants.{Free, Value}
use Rattle.modinfo_pieces.specs.declared.place.Context.{Context}
use Rattle.modinfo_pieces.specs.declared.place.Opening.{Opening}

-- A place: its offset, the openings around it, the token before, and the choices that weren't met yet.
pub record Place : Type 0 where
  pub at : ℕ
  pub around : List Opening
  pub before : Before
  pub is_after_line_end : Bool
  pub choices : List Choice

-- The start of a text.
abbrev pub start : List Choice → Place
start choices = record { at = 0; around = []; before = Free; is_after_line_end = true; choices = choices }

-- The choice for an offset, if the first of these is for the offset.
abbrev pub chosen : ℕ → List Choice → Option ChoiceKind
chosen at [] = None
chosen at (choice ∷ _) = (if choice.offset == at then Some choice.kind else None)

-- The choices after an offset.
abbrev pub choices_after : ℕ → List Choice → List Choice
choices_after at [] = []
choices_after at (choice ∷ choices) = (if choice.offset == at then choices else choice ∷ choices)

-- What is known at a place.
abbrev pub context_of : Place → Context
context_of place = record {
  inside = innermost place.around;
  before = place.before;
  is_after_line_end = place.is_after_line_end;
  chosen = chosen place.at place.choices;
}

-- A piece of this kind, with this first byte, is what was chosen.
abbrev pub is_chosen : Option ChoiceKind → PieceKind → ℕ → Bool
is_chosen None kind byte = true
is_chosen (Some choices.RegularExpression) RegularExpression byte = true
is_chosen (Some choices.HtmlComment) HtmlComment byte = true
is_chosen (Some choices.JsxElement) Punctuation byte = byte == 60
is_chosen _ _ byte = false

-- The openings after a piece, if braces, parentheses and tags nest.
abbrev pub around_after : List ℕ → Piece → PieceKind → Context → List Opening → Option (List Opening)
around_after text piece Template context around =
    around_after_template (slice_index text piece.start) (slice_index text (piece.end - 1)) around
around_after text piece Punctuation context around =
    around_after_punctuation (slice_index text (piece.start - 1)) (slice_index text piece.start) context
    around
around_after text piece _ context around = Some around

-- What a piece is for what follows.
abbrev pub before_after : List ℕ → Piece → PieceKind → Context → Before
before_after text piece Space context = before_after_gap context.before
before_after text piece LineComment context = before_after_gap context.before
before_after text piece BlockComment context = before_after_gap context.before
before_after text piece HtmlComment context = before_after_gap context.before
before_after text piece Hashbang context = Free
before_after text piece Word context = class_after context.before (slice_range text piece.start piece.end)
before_after text piece Template context =
    (if slice_index text (piece.end - 1) == 123 then Free else Value)
before_after text piece Punctuation context = before_after_punctuation (slice_index text piece.start) context
before_after text piece _ context = Value

-- Whether a line has ended since the last token.
abbrev pub line_end_after : List ℕ → Piece → PieceKind → Bool → Bool
line_end_after text piece Space is_after = is_after || has_line_end text piece.start (piece.end - piece.start)
line_end_after text piece BlockComment is_after =
    is_after || has_line_end text piece.start (piece.end - piece.start)
line_end_after text piece LineComment is_after = is_after
line_end_after text piece HtmlComment is_after = is_after
line_end_after text piece _ is_after = false

-- The piece at an offset: as far as it goes, inside the text, and what was chosen.
pub record IsPieceAt (text : List ℕ) (at : ℕ) (context : Context) (piece : Piece) : Type 0 where
  pub start : piece.start ≡ at
  pub kind : piece.kind ≡ kind_at text at context
  pub has_end : HasEnd text at piece.kind (Some piece.end)
  pub goes_on : at < piece.end
  pub is_within : piece.end ≤ length text
  pub is_chosen : is_chosen context.chosen piece.kind (slice_index text at) ≡ true

-- `piece` is the piece at a place, and `next` is the place after the piece.
pub record IsNext (text : List ℕ) (place : Place) (piece : Piece) (next : Place) : Type 0 where
  pub is_piece : IsPieceAt text place.at (context_of place) piece
  pub at : next.at ≡ piece.end
  pub around : around_after text piece piece.kind (context_of place) place.around ≡ Some next.around
  pub before : next.before ≡ before_after text piece piece.kind (context_of place)
  pub is_after_line_end : next.is_after_line_end
      ≡ line_end_after text piece piece.kind place.is_after_line_end
  pub choices : next.choices ≡ choices_after place.at place.choices
