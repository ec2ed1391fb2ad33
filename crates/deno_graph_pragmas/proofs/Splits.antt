-- Reading from left to right finds the splits of a text. The start of a split determines what the split
-- captures.
use Rattle.std.proofs.Common.{◌≡◌, ℕ, List, [], ◌∷◌, ◌++◌, length, take, Some, refl, sym, ap, subst, ◌∙◌}
use Rattle.std.proofs.Common.{append_assoc}
use Rattle.std.proofs.lemmas.List.{append_cancel_left, append_cancel_right, take_at}
use Rattle.std.proofs.lemmas.Option.{same_Some}
use Rattle.deno_graph_pragmas.specs.Piece.{Piece, IsPiece}
use Rattle.deno_graph_pragmas.specs.internal.Reading.{after_piece, after_pieces}
use Rattle.deno_graph_pragmas.specs.Split.{Pattern, ArePieces, Split}
use Rattle.deno_graph_pragmas.proofs.ReadPieces.{AreApart, Ends, Ends-next, after_piece-append}
use Rattle.deno_graph_pragmas.proofs.ReadPieces.{after_pieces-append}

-- each piece of the pattern ends where the next begins, whatever follows the last piece
abbrev pub IsDetermined : Pattern → Type 0
IsDetermined pattern = (after : List ℕ) → AreApart (pattern.front ++ pattern.captured ∷ pattern.back) after

AreApart-front : (pieces : List Piece) (next : Piece) (others : List Piece) (after piece rest : List ℕ)
    → AreApart (pieces ++ next ∷ others) after → IsPiece next piece rest → AreApart pieces (piece ++ rest)
AreApart-front [] next others after piece rest apart is = tt
AreApart-front (p ∷ []) next others after piece rest apart is = Ends-next p next piece rest apart.0 is
AreApart-front (p ∷ q ∷ pieces) next others after piece rest apart is =
    (apart.0, AreApart-front (q ∷ pieces) next others after piece rest apart.1 is)

AreApart-rest : (pieces : List Piece) (next : Piece) (others : List Piece) (after : List ℕ)
    → AreApart (pieces ++ next ∷ others) after → AreApart (next ∷ others) after
AreApart-rest [] next others after apart = apart
AreApart-rest (p ∷ []) next others after apart = apart.1
AreApart-rest (p ∷ q ∷ pieces) next others after apart = AreApart-rest (q ∷ pieces) next others after apart.1

Ends-back : (p : Piece) (back : List Piece) (text after : List ℕ) → AreApart (p ∷ back) after
    → ArePieces back text after → Ends p (text ++ after)
Ends-back p [] text after apart is = subst (λ t. Ends p (t ++ after)) (sym is) apart
Ends-back p (q ∷ back) text after apart (piece, rest, whole, is, others) =
    let next : text ++ after ≡ piece ++ (rest ++ after) =
    ap (λ t. t ++ after) whole ∙ append_assoc piece rest after in
    subst (Ends p) (sym next) (Ends-next p q piece (rest ++ after) apart.0 is)

-- the text after the front of a split, and the text after the captured part
abbrev pub after_captured : {pattern : Pattern} {text : List ℕ} → Split pattern text → List ℕ
after_captured split = split.back ++ split.after

abbrev pub after_front : {pattern : Pattern} {text : List ℕ} → Split pattern text → List ℕ
after_front split = split.captured ++ after_captured split

abbrev pub after_before : {pattern : Pattern} {text : List ℕ} → Split pattern text → List ℕ
after_before split = split.front ++ after_front split

pub front_read : (pattern : Pattern) (text : List ℕ) → IsDetermined pattern → (split : Split pattern text)
    → after_pieces pattern.front (after_before split) ≡ Some (after_front split)
front_read pattern text determined split =
    let apart = AreApart-front pattern.front pattern.captured pattern.back split.after split.captured
    (after_captured split) (determined split.after) split.captured_piece in
    after_pieces-append pattern.front split.front (after_front split) apart split.front_pieces

pub captured_read : (pattern : Pattern) (text : List ℕ) → IsDetermined pattern → (split : Split pattern text)
    → after_piece pattern.captured (after_front split) ≡ Some (after_captured split)
captured_read pattern text determined split =
    let apart = AreApart-rest pattern.front pattern.captured pattern.back split.after
    (determined split.after) in
    let ends = Ends-back pattern.captured pattern.back split.back split.after apart split.back_pieces in
    after_piece-append pattern.captured split.captured (after_captured split) split.captured_piece ends

AreApart-back : (p : Piece) (back : List Piece) (after : List ℕ)
    → AreApart (p ∷ back) after → AreApart back after
AreApart-back p [] after apart = tt
AreApart-back p (q ∷ back) after apart = apart.1

pub back_read : (pattern : Pattern) (text : List ℕ) → IsDetermined pattern → (split : Split pattern text)
    → after_pieces pattern.back (after_captured split) ≡ Some split.after
back_read pattern text determined split =
    let apart = AreApart-rest pattern.front pattern.captured pattern.back split.after
    (determined split.after) in
    after_pieces-append pattern.back split.back split.after
    (AreApart-back pattern.captured pattern.back split.after apart) split.back_pieces

-- One start, one captured part

pub record SameCaptured {pattern : Pattern} {text : List ℕ} (one other : Split pattern text) : Type 0 where
  pub front : one.front ≡ other.front
  pub captured : one.captured ≡ other.captured

-- two fronts of a list that are equally long are the same
pub same_front : (one other rest left : List ℕ) → one ++ rest ≡ other ++ left → length one ≡ length other
    → (one ≡ other) × (rest ≡ left)
same_front one other rest left whole same =
    let front : one ≡ other = sym (take_at one rest (length one) refl) ∙ ap (λ t. take (length one) t) whole
    ∙ take_at other left (length one) (sym same) in
    (front, append_cancel_left one rest left (whole ∙ ap (λ t. t ++ left) (sym front)))

pub same_captured : (pattern : Pattern) (text : List ℕ) → IsDetermined pattern
    → (one other : Split pattern text) → one.before ≡ other.before → SameCaptured one other
same_captured pattern text determined one other same =
    let wholes : one.before ++ after_before one ≡ one.before ++ after_before other =
    sym one.whole ∙ other.whole ∙ ap (λ before. before ++ after_before other) (sym same) in
    let starts : after_before one ≡ after_before other =
    append_cancel_left one.before (after_before one) (after_before other) wholes in
    let fronts : after_front one ≡ after_front other =
    same_Some _ _ (sym (front_read pattern text determined one)
    ∙ ap (after_pieces pattern.front) starts ∙ front_read pattern text determined other) in
    let rests : after_captured one ≡ after_captured other =
    same_Some _ _ (sym (captured_read pattern text determined one)
    ∙ ap (after_piece pattern.captured) fronts ∙ captured_read pattern text determined other) in
    record {
      front = append_cancel_right one.front other.front (after_front one)
          (starts ∙ ap (λ rest. other.front ++ rest) (sym fronts));
      captured = append_cancel_right one.captured other.captured (after_captured one)
          (fronts ∙ ap (λ rest. other.captured ++ rest) (sym rests));
    }
