-- Plain pieces: white space, and tokens that any token may follow. A piece is plain by its first byte, where
-- nothing was chosen and no claim and no mark begins.
use Rattle.std.specs.Prelude.{◌≡◌, ℕ, ◌+◌, ◌-◌, ◌==◌, ◌<◌, ◌≤◌, Bool, true}
use Rattle.std.specs.Prelude.{false, not, ◌||◌, List, Option, Some, None}
use Rattle.std.specs.Prelude.{codes, if◌then◌else◌, length, slice_index}
use Rattle.modinfo_imports.specs.Claims.{form_of, is_claimed}
use Rattle.modinfo_imports.specs.Duties.{is_one_of}
use Rattle.modinfo_imports.specs.Watches.{Watch, last_of, watch_after}
use Rattle.modinfo_imports.specs.declared.claims.Mark.{Mark}
use Rattle.modinfo_imports.specs.declared.duty.Duty.{Duty}
use Rattle.modinfo_imports.specs.declared.duty.Duty.TheVariants as duties
use Rattle.modinfo_imports.specs.declared.plain.Asked.{Asked}
use Rattle.modinfo_imports.specs.declared.plain.Asked.TheVariants as asks
use Rattle.modinfo_imports.specs.declared.plain.Plain.{Plain}
use Rattle.modinfo_pieces.specs.Befores.{before_after_gap}
use Rattle.modinfo_pieces.specs.Filed.{is_token}
use Rattle.modinfo_pieces.specs.Filing.{IsQuiet, SoFar, so_far_after, with_last}
use Rattle.modinfo_pieces.specs.Openings.{innermost, is_element}
use Rattle.modinfo_pieces.specs.Places.{IsNext, Place, chosen, context_of}
use Rattle.modinfo_pieces.specs.declared.choice.Choice.{Choice}
use Rattle.modinfo_pieces.specs.declared.piece.Piece.{Piece}
use Rattle.modinfo_pieces.specs.declared.piece.PieceKind.{PieceKind}
use Rattle.modinfo_pieces.specs.declared.place.Before.{Before}
use Rattle.modinfo_pieces.specs.declared.place.Context.{Context}
use Rattle.modinfo_pieces.specs.declared.place.Opening.{Opening}
use Rattle.modinfo_pieces.specs.declared.place.Opening.TheVariants.{Brace, HeadParenthesis, Parenthesis}
use Rattle.modinfo_pieces.specs.declared.place.Opening.TheVariants.{Program, Substitution}

-- One piece leads from a place to another, with what a watch has seen and the comments filed so far.
pub record IsTurn (text : List ℕ) (is_typed : Bool) (place next : Place) (watch after : Watch)
    (so_far new : SoFar) : Type 0 where
  pub piece : Piece
  pub is_next : IsNext text place piece next
  pub is_seen : watch_after text is_typed (context_of place) piece watch ≡ Some after
  pub is_filed : new ≡ so_far_after text (context_of place) piece piece.kind so_far

-- Pieces lead from a place to another.
pub data Turns (text : List ℕ) (is_typed : Bool) (from : Place) (watch : Watch) (so_far : SoFar)
    : Place → Watch → SoFar → Type 0 where
  none : Turns text is_typed from watch so_far from watch so_far
  more : {place next : Place} {seen after : Watch} {now new : SoFar}
      → Turns text is_typed from watch so_far place seen now
      → IsTurn text is_typed place next seen after now new
      → Turns text is_typed from watch so_far next after new

-- No piece leads on.
pub record IsSame (from : Place) (watch : Watch) (so_far : SoFar) (place : Place) (seen : Watch) (now : SoFar)
    : Type 0 where
  pub place_is : place ≡ from
  pub seen_is : seen ≡ watch
  pub now_is : now ≡ so_far

-- Nothing was chosen for an offset, and no claim and no mark begins there.
pub record IsUnmet (at : ℕ) (choices : List Choice) (claims : List Piece) (marks : List Mark)
    : Type 0 where
  pub unchosen : chosen at choices ≡ None
  pub unclaimed : (piece : Piece) → piece.start ≡ at → is_claimed piece claims ≡ false
  pub unmarked : (piece : Piece) → piece.start ≡ at → form_of piece marks ≡ None

-- The duty that asks this.
abbrev pub duty_of : Asked → Duty
duty_of asks.Nothing = duties.Nothing
duty_of asks.Claimed = duties.Claimed
duty_of asks.NoCall = duties.NoCall
duty_of asks.TypeOf = duties.TypeOf

-- Code is directly in the opening, and no tag.
abbrev pub is_code : Opening → Bool
is_code Program = true
is_code Parenthesis = true
is_code HeadParenthesis = true
is_code Brace = true
is_code Substitution = true
is_code opening = false

-- The bytes that are a token each, outside of an element's text.
abbrev pub is_token_byte : ℕ → Bool
is_token_byte byte = is_one_of (codes ",;:?&|%^~[]=.+-!(){<>") byte

-- Those that change no opening.
abbrev pub is_plain_byte : ℕ → Bool
is_plain_byte byte = is_one_of (codes ",;:?&|%^~[]=.+-!") byte

-- What is known at a place at which nothing was chosen.
abbrev pub plain_context : Plain → List Opening → Context
plain_context plain around = record {
  inside = innermost around;
  before = plain.before;
  is_after_line_end = plain.is_after_line_end;
  chosen = None;
}

-- The place, with these openings around.
abbrev pub place_at : Plain → List Opening → List Choice → Place
place_at plain around choices = record {
  at = plain.at;
  around = around;
  before = plain.before;
  is_after_line_end = plain.is_after_line_end;
  choices = choices;
}

-- The byte by which the next token knows the last one, with the one before the plain pieces.
abbrev pub last_at : List ℕ → Plain → ℕ → ℕ
last_at text plain last =
    (if is_token plain.kind then last_of (slice_index text (plain.start - 1)) (slice_index text plain.start)
    else last)

-- The watch, with the one before the plain pieces.
abbrev pub watch_at : List ℕ → Plain → List Duty → Watch → Watch
watch_at text plain parentheses watch = record {
  duty = duty_of plain.asked;
  parentheses = parentheses;
  last = last_at text plain watch.last;
  is_decorated = watch.is_decorated;
  claims = watch.claims;
  marks = watch.marks;
}

-- The last token, with the one before the plain pieces.
abbrev pub token_at : Plain → Option Piece → Option Piece
token_at plain token =
    (if is_token plain.kind then Some (record { kind = plain.kind; start = plain.start; end = plain.end })
    else token)

-- The comments so far, with those before the plain pieces.
abbrev pub so_far_at : Plain → SoFar → SoFar
so_far_at plain so_far = with_last (token_at plain so_far.token) so_far

-- The place after a token of this kind, with this end, that asks for this duty.
abbrev pub after_token : Plain → PieceKind → ℕ → Before → Asked → Bool → Plain
after_token plain kind end before asked in_element = record {
  at = end;
  before = before;
  is_after_line_end = false;
  in_element = in_element;
  asked = asked;
  kind = kind;
  start = plain.at;
  end = end;
}

-- The place after white space.
abbrev pub after_gap : Plain → ℕ → Bool → Plain
after_gap plain end is_after_line_end = record {
  at = end;
  before = before_after_gap plain.before;
  is_after_line_end = is_after_line_end;
  in_element = plain.in_element;
  asked = plain.asked;
  kind = plain.kind;
  start = plain.start;
  end = plain.end;
}

-- By its length and its first byte a word is no keyword that matters here, and no word before an expression.
unfoldable pub is_ordinary : List ℕ → Bool
is_ordinary word =
    let first = slice_index word 0 in
    let size = length word in
    (if (first == 114) || (first == 92) then false
    else (if size == 2 then not (is_one_of (codes "dio") first)
    else (if size == 3 then not (is_one_of (codes "fn") first)
    else (if size == 4 then not (is_one_of (codes "cevw") first)
    else (if size == 5 then not (is_one_of (codes "atwy") first)
    else (if size == 6 then not (is_one_of (codes "deimt") first)
    else (if size == 7 then not (is_one_of (codes "de") first)
    else (if size == 8 then not (first == 102) else (if size == 10 then not (first == 105) else true)))))))))

-- What is said of the openings is right, and no `#!` is at the place.
pub record IsPlain (plain : Plain) (around : List Opening) : Type 0 where
  pub is_past : 4 ≤ plain.at
  pub in_element : plain.in_element ≡ is_element (innermost around)

-- A plain piece leads from a place, inside or outside of an element's text, to another.
pub record IsPlainTurnIn (in_element : Bool) (text : List ℕ) (plain next : Plain)
    (around new_around : List Opening) (parentheses new_parentheses : List Duty) : Type 0 where
  pub goes_on : plain.at < next.at
  pub keeps : is_token next.kind ≡ false → (is_token plain.kind ≡ false) × (next.asked ≡ plain.asked)
  pub is_plain : IsPlain plain around → plain.in_element ≡ in_element → IsPlain next new_around
  pub is_turn : (is_typed : Bool) (choices : List Choice) (watch : Watch) (so_far : SoFar)
      → IsPlain plain around → plain.in_element ≡ in_element
      → IsUnmet plain.at choices watch.claims watch.marks → IsQuiet so_far
      → IsTurn text is_typed (place_at plain around choices) (place_at next new_around choices)
      (watch_at text plain parentheses watch) (watch_at text next new_parentheses watch)
      (so_far_at plain so_far) (so_far_at next so_far)

-- A plain piece leads from a place outside of an element's text to another.
abbrev pub IsPlainTurn : List ℕ → Plain → Plain → List Opening → List Opening → List Duty → List Duty → Type 0
IsPlainTurn = IsPlainTurnIn false

-- A byte is at a place, and the text doesn't end before it.
pub record IsByteAt (text : List ℕ) (plain : Plain) (byte end : ℕ) : Type 0 where
  pub byte_is : slice_index text plain.at ≡ byte
  pub end_is : end ≡ plain.at + 1
  pub within : end ≤ length text
