-- The results of the finders, from what they read.
use Rattle.std.proofs.Common.{◌≡◌, ℕ, ◌+◌, ◌-◌, ◌≤◌, true, false, List, [], ◌∷◌, ◌++◌, Option, Some, None}
use Rattle.std.proofs.Common.{IsSome, IsNone, IfSome, is_some, ◌↔◌, IsTrue, length, refl, sym, ap, subst, ◌∙◌}
use Rattle.std.proofs.Common.{append_assoc, length-append, arith, zero-le}
use Rattle.std.proofs.lemmas.Bool.{false≢true}
use Rattle.std.proofs.lemmas.List.{append_cancel_right}
use Rattle.std.proofs.lemmas.Option.{none-some}
use Rattle.std.proofs.lemmas.Str.{encodes-chars, encodes-append}
use Rattle.std.specs.Option.{option_and_then}
use Rattle.std.specs.Str.{chars, IsUtf8}
use lib.Utf8.{encodes}
use Rattle.deno_graph_pragmas.specs.Match.{match_part_of, FindsFirst, FindsFirstInQuotes}
use Rattle.deno_graph_pragmas.specs.declared.finders.matches.Match.{Match}
use Rattle.deno_graph_pragmas.specs.Piece.{Piece, IsPiece}
use Rattle.deno_graph_pragmas.specs.internal.Reading.{after_piece, after_pieces, IsCapturedAt}
use Rattle.deno_graph_pragmas.specs.Split.{Pattern, ArePieces, Split, HasSplit, TextPart, IsCaptured}
use Rattle.deno_graph_pragmas.proofs.Captured.{captured_slice}
use Rattle.deno_graph_pragmas.proofs.ReadPieces.{after_piece-front, after_pieces-front}
use Rattle.deno_graph_pragmas.proofs.Splits.{IsDetermined, after_before, after_front, front_read}
use Rattle.deno_graph_pragmas.proofs.Splits.{captured_read, back_read}

-- A text without a split

-- an anchored split begins at the start of the text
pub at_start : (pattern : Pattern) (text : List ℕ) → pattern.anchored ≡ true → (split : Split pattern text)
    → after_before split ≡ text
at_start pattern text anchored split =
    ap (λ before. before ++ after_before split) (sym (split.anchored anchored)) ∙ sym split.whole

pub no_front : (pattern : Pattern) (text : List ℕ) → IsDetermined pattern → pattern.anchored ≡ true
    → after_pieces pattern.front text ≡ None → ¬ (Split pattern text)
no_front pattern text determined anchored none split =
    none-some _ (sym none ∙ ap (after_pieces pattern.front) (sym (at_start pattern text anchored split))
    ∙ front_read pattern text determined split)

-- the captured part and the pieces after it are read after the front
pub rest_read : (pattern : Pattern) (text : List ℕ) → IsDetermined pattern → (split : Split pattern text)
    → after_pieces (pattern.captured ∷ pattern.back) (after_front split) ≡ Some split.after
rest_read pattern text determined split =
    ap (option_and_then (after_pieces pattern.back)) (captured_read pattern text determined split)
    ∙ back_read pattern text determined split

pub no_rest : (pattern : Pattern) (text rest : List ℕ) → IsDetermined pattern
    → pattern.anchored ≡ true → after_pieces pattern.front text ≡ Some rest
    → after_pieces (pattern.captured ∷ pattern.back) rest ≡ None → ¬ (Split pattern text)
no_rest pattern text rest determined anchored front none split =
    let here : after_pieces pattern.front text ≡ Some (after_front split) = ap (after_pieces pattern.front)
    (sym (at_start pattern text anchored split)) ∙ front_read pattern text determined split in
    let same : rest ≡ after_front split = cc in
    none-some _ (sym none ∙ ap (after_pieces (pattern.captured ∷ pattern.back)) same
    ∙ rest_read pattern text determined split)

-- a finder returns None if the text has no split
pub none_result : {A : Type 0} {S : Type 0} (result : Option A) → result ≡ None → ¬ S → IsNone result ↔ ¬ S
none_result result is none = (λ _. none, λ _. ap is_some is)

pub some_answer : {S : Type 0} → S → (true ≡ false) ↔ ¬ S
some_answer there = (λ never. absurd (false≢true (sym never)), λ none. absurd (none there))

-- A text with a split

some_is : {A : Type 0} (o : Option A) → IsSome o → (x : A) × (o ≡ Some x)
some_is None is = absurd (false≢true is)
some_is (Some x) is = (x, refl)

made : (pattern : Pattern) (text rest before tail : List ℕ) (part : TextPart) → chars text ≡ before ++ tail
    → (IsTrue pattern.anchored → before ≡ []) → after_pieces pattern.front tail ≡ Some (chars rest)
    → IsCapturedAt pattern.captured pattern.back text rest part → Split pattern (chars text)
made pattern text rest before tail part whole anchored front read =
    let first = after_pieces-front pattern.front tail (chars rest) front in
    let second = after_piece-front pattern.captured (chars rest) read.tail read.captured in
    let more = some_is (after_pieces pattern.back read.tail) read.back_read in
    let third = after_pieces-front pattern.back read.tail more.0 more.1 in
    let same : second.0 ≡ chars part.text =
    append_cancel_right second.0 (chars part.text) read.tail (sym second.1 ∙ read.whole) in
    let all : chars rest ≡ chars part.text ++ (third.0 ++ more.0) =
    read.whole ∙ ap (λ t. chars part.text ++ t) third.1 in
    record {
      before = before;
      front = first.0;
      captured = chars part.text;
      back = third.0;
      after = more.0;
      whole = whole ∙ ap (λ t. before ++ t) (first.1 ∙ ap (λ t. first.0 ++ t) all);
      anchored = anchored;
      front_pieces = subst (ArePieces pattern.front first.0) all first.2;
      captured_piece = subst (IsPiece pattern.captured (chars part.text)) third.1
          (subst (λ t. IsPiece pattern.captured t read.tail) same second.2);
      back_pieces = third.2;
    }

-- a text is the bytes of a front of its characters, and then the rest
pub bytes_of : (text rest front : List ℕ) → IsUtf8 text → IsUtf8 rest → chars text ≡ front ++ chars rest
    → text ≡ encodes front ++ rest
bytes_of text rest front text_utf8 rest_utf8 whole =
    sym (encodes-chars text text_utf8) ∙ ap encodes whole ∙ encodes-append front (chars rest)
    ∙ ap (λ bytes. encodes front ++ bytes) (encodes-chars rest rest_utf8)

-- the rest is no longer than the text
pub length_left : (pieces : List Piece) (text rest : List ℕ) → IsUtf8 text → IsUtf8 rest
    → after_pieces pieces (chars text) ≡ Some (chars rest) → length rest ≤ length text
length_left pieces text rest text_utf8 rest_utf8 left =
    let front = after_pieces-front pieces (chars text) (chars rest) left in
    omega (
      arith,
      ap length (bytes_of text rest front.0 text_utf8 rest_utf8 front.1),
      length-append (encodes front.0) rest,
    )

-- a front is no longer than the text
pub length_front : (text front : List ℕ) (rest : List ℕ) → IsUtf8 text → IsUtf8 front
    → chars text ≡ chars front ++ rest → length front ≤ length text
length_front text front rest text_utf8 front_utf8 whole =
    let bytes : text ≡ front ++ encodes rest = sym (encodes-chars text text_utf8) ∙ ap encodes whole
    ∙ encodes-append (chars front) rest ∙ ap (λ t. t ++ encodes rest) (encodes-chars front front_utf8) in
    omega (arith, ap length bytes, length-append front (encodes rest))

pub IsCaptured-read : (pattern : Pattern) (text rest before tail : List ℕ) (part : TextPart)
    → IsUtf8 text → IsUtf8 rest → chars text ≡ before ++ tail → (IsTrue pattern.anchored → before ≡ [])
    → ((other : Split pattern (chars text)) → length before ≤ length other.before)
    → after_pieces pattern.front tail ≡ Some (chars rest)
    → IsCapturedAt pattern.captured pattern.back text rest part → IsCaptured pattern text part
unfolding made
IsCaptured-read pattern text rest before tail part text_utf8 rest_utf8 whole anchored first front read =
    let split : Split pattern (chars text) =
    made pattern text rest before tail part whole anchored front read in
    let head : chars text ≡ (before ++ split.front) ++ chars rest =
    whole ∙ ap (λ t. before ++ t) (after_pieces-front pattern.front tail (chars rest) front).1
    ∙ sym (append_assoc before split.front (chars rest)) in
    let bytes : text ≡ encodes (before ++ split.front) ++ rest =
    bytes_of text rest (before ++ split.front) text_utf8 rest_utf8 head in
    let size : length text ≡ length (encodes (before ++ split.front)) + length rest =
    ap length bytes ∙ length-append (encodes (before ++ split.front)) rest in
    let more : length (encodes (before ++ split.front ++ chars part.text))
    ≡ length (encodes (before ++ split.front)) + length part.text =
    ap length (encodes-append (before ++ split.front) (chars part.text))
    ∙ length-append (encodes (before ++ split.front)) (encodes (chars part.text))
    ∙ ap (λ t. length (encodes (before ++ split.front)) + length t) (encodes-chars part.text read.utf8) in
    record {
      split = split;
      first = first;
      bytes = sym (encodes-chars part.text read.utf8);
      start = omega (arith, read.start, size);
      end = omega (arith, read.start, read.end, size, more);
    }

-- a part after a front that is read at the start of the text is captured
pub IsCaptured-at_start : (pattern : Pattern) (text rest : List ℕ) (part : TextPart)
    → IsUtf8 text → IsUtf8 rest → after_pieces pattern.front (chars text) ≡ Some (chars rest)
    → IsCapturedAt pattern.captured pattern.back text rest part → IsCaptured pattern text part
IsCaptured-at_start pattern text rest part text_utf8 rest_utf8 front read =
    IsCaptured-read pattern text rest [] (chars text) part text_utf8 rest_utf8 refl (λ _. refl)
    (λ other. zero-le) front read

-- the piece that is read at the start of `rest` is the part
pub IsCapturedAt-front : (piece : Piece) (back : List Piece) (text rest front tail : List ℕ)
    (part : TextPart)
    → IsUtf8 front → after_piece piece (chars rest) ≡ Some tail → IsSome (after_pieces back tail)
    → chars rest ≡ chars front ++ tail → part.text ≡ front → part.start ≡ length text - length rest
    → part.end ≡ part.start + length front → IsCapturedAt piece back text rest part
IsCapturedAt-front piece back text rest front tail part utf8 captured back_read whole is start end =
    record {
      tail = tail;
      captured = captured;
      back_read = back_read;
      whole = whole ∙ ap (λ t. chars t ++ tail) (sym is);
      utf8 = subst IsUtf8 (sym is) utf8;
      start = start;
      end = end ∙ ap (λ t. part.start + length t) (sym is);
    }

-- The result of a finder if the text has no split

pub finds_none : (pattern : Pattern) (text : List ℕ) (result : Option Match)
    → result ≡ None → ¬ HasSplit pattern text
    → FindsFirst pattern text result
finds_none pattern text (Some found) is none = absurd (cc)
finds_none pattern text None is none =
    record { found = tt; none = none_result {A = Match} None refl none; slice = tt }

pub finds_none_in_quotes : (pattern : Pattern) (text : List ℕ) (result : Option Match) → result ≡ None
    → ¬ HasSplit pattern text → FindsFirstInQuotes pattern text result
finds_none_in_quotes pattern text (Some found) is none = absurd (cc)
finds_none_in_quotes pattern text None is none = record {
  found = tt;
  none = none_result {A = Match} None refl none;
  slice = tt;
  quotes = tt;
}

-- The result of a finder of an anchored pattern that has read the front

pub finds_after : (pattern : Pattern) (text rest : List ℕ) (result : Option Match) → IsUtf8 text
    → IsUtf8 rest → IsDetermined pattern → pattern.anchored ≡ true
    → after_pieces pattern.front (chars text) ≡ Some (chars rest)
    → IfSome result (λ found. IsCapturedAt pattern.captured pattern.back text rest (match_part_of found))
    → (IsNone result → after_pieces (pattern.captured ∷ pattern.back) (chars rest) ≡ None)
    → FindsFirst pattern text result
finds_after pattern text rest None text_utf8 rest_utf8 determined anchored front read none =
    finds_none pattern text None refl
    (no_rest pattern (chars text) (chars rest) determined anchored front (none refl))
finds_after pattern text rest (Some found) text_utf8 rest_utf8 determined anchored front read none =
    let part = match_part_of found in
    let is = IsCaptured-at_start pattern text rest part text_utf8 rest_utf8 front read in
    record {
      found = is;
      none = some_answer is.split;
      slice = captured_slice pattern text part text_utf8 is;
    }
