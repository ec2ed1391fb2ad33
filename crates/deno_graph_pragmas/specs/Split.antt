-- Splits of a text by a pattern, and the part of the text that a finder returns.
use Rattle.std.specs.Prelude.{◌≡◌, ◌≤◌, ◌+◌, ◌-◌, ℕ, Bool, List, [], ◌∷◌, ◌++◌, IsTrue, length, slice_range}
use Rattle.std.specs.Prelude.{encode_utf8_all}
use Rattle.std.specs.Str.{chars, IsCharBoundary}
use Rattle.deno_graph_pragmas.specs.Piece.{Piece, IsPiece, is_quote}

-- pieces one after another, of which one is captured
pub record Pattern : Type 0 where
  -- a split begins at the start of the text
  pub anchored : Bool
  pub front : List Piece
  pub captured : Piece
  pub back : List Piece

-- `text`, followed by `after`, is the pieces one after another
abbrev pub ArePieces : List Piece → List ℕ → List ℕ → Type 0
ArePieces [] text after = text ≡ []
ArePieces (first ∷ others) text after =
    (piece : List ℕ) × (rest : List ℕ) × (text ≡ piece ++ rest) × IsPiece first piece (rest ++ after)
    × ArePieces others rest after

-- a split of a text, as a list of characters: the text before, the pieces of the pattern, and the text after
pub record Split (pattern : Pattern) (text : List ℕ) : Type 0 where
  pub before : List ℕ
  pub front : List ℕ
  pub captured : List ℕ
  pub back : List ℕ
  pub after : List ℕ
  pub whole : text ≡ before ++ (front ++ (captured ++ (back ++ after)))
  pub anchored : IsTrue pattern.anchored → before ≡ []
  pub front_pieces : ArePieces pattern.front front (captured ++ (back ++ after))
  pub captured_piece : IsPiece pattern.captured captured (back ++ after)
  pub back_pieces : ArePieces pattern.back back after

-- the text, in bytes, has a split
abbrev pub HasSplit : Pattern → List ℕ → Type 0
HasSplit pattern text = Split pattern (chars text)

-- no split of the text begins earlier
abbrev pub IsFirst : {pattern : Pattern} {text : List ℕ} → Split pattern text → Type 0
IsFirst {pattern} {text} split = (other : Split pattern text) → length split.before ≤ length other.before

-- a part of a text in bytes, and where it begins and ends
pub record TextPart : Type 0 where
  pub text : List ℕ
  pub start : ℕ
  pub end : ℕ

-- the part is what the first split of the text captures
pub record IsCaptured (pattern : Pattern) (text : List ℕ) (part : TextPart) : Type 0 where
  pub split : Split pattern (chars text)
  pub first : IsFirst split
  pub bytes : part.text ≡ encode_utf8_all split.captured
  pub start : part.start ≡ length (encode_utf8_all (split.before ++ split.front))
  pub end : part.end ≡ length (encode_utf8_all (split.before ++ split.front ++ split.captured))

-- the part is what lies between its ends, and these are boundaries of the text
pub record IsSliceOf (text : List ℕ) (part : TextPart) : Type 0 where
  pub start : IsCharBoundary text part.start
  pub end : IsCharBoundary text part.end
  pub ordered : part.start ≤ part.end
  pub is : part.text ≡ slice_range text part.start part.end

-- the part with a character of one byte on each side
abbrev pub with_beside : ℕ → ℕ → TextPart → TextPart
with_beside left right part = record {
  text = left ∷ (part.text ++ right ∷ []);
  start = part.start - 1;
  end = part.end + 1;
}

-- a quote of either kind is directly before the part, and one directly after the part
pub record IsInQuotes (text : List ℕ) (part : TextPart) : Type 0 where
  pub left : ℕ
  pub right : ℕ
  pub left_quote : IsTrue (is_quote left)
  pub right_quote : IsTrue (is_quote right)
  pub has_front : 1 ≤ part.start
  pub is_slice : IsSliceOf text (with_beside left right part)

-- where a split begins determines what it captures
abbrev pub StartDetermines : Pattern → Type 0
StartDetermines pattern =
    (text : List ℕ) (one other : Split pattern text) → one.before ≡ other.before
    → (one.front ≡ other.front) × (one.captured ≡ other.captured)

-- a text has at most one captured part
abbrev pub HasOnePart : Pattern → Type 0
HasOnePart pattern =
    (text : List ℕ) (one other : TextPart) → IsCaptured pattern text one
    → IsCaptured pattern text other → one ≡ other
