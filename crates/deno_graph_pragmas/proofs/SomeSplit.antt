-- A text has a split by a pattern or has none, and the first split captures a part.
use Rattle.std.proofs.Common.{◌≡◌, ℕ, ◌≤◌, Bool, true, false, ◌⊎◌, inl, inr, ⊎_elim, List, [], ◌∷◌, ◌++◌}
use Rattle.std.proofs.Common.{length, map, IsTrue, refl, sym, ap, subst, ◌∙◌, arith, zero-le}
use Rattle.std.specs.Prelude.{encode_utf8_all}
use Rattle.std.specs.List.{list_all}
use Rattle.std.specs.Str.{bytes_eq, chars}
use Rattle.std.proofs.lemmas.Bool.{cases_Bool, false≢true}
use Rattle.std.proofs.lemmas.Slice.Eq.{bytes_eq-Decides}
use Rattle.unicode.specs.CaseFolding.{simple_fold}
use Rattle.deno_graph_pragmas.specs.Piece.{Piece, one, any, some, run, exactly, keyword, IsPiece, IsStopped}
use Rattle.deno_graph_pragmas.specs.Split.{Pattern, ArePieces, Split, HasSplit, TextPart, IsCaptured}

abbrev pub Decided : Type 0 → Type 0
Decided A = A ⊎ (A → ⊥)

pub decide_both : {A B : Type 0} → Decided A → Decided B → Decided (A × B)
decide_both (inl a) (inl b) = inl (a, b)
decide_both (inl a) (inr none) = inr (λ both. none both.1)
decide_both (inr none) b = inr (λ both. none both.0)

pub decide_true : (b : Bool) → Decided (b ≡ true)
decide_true true = inl refl
decide_true false = inr false≢true

decide_false : (b : Bool) → Decided (b ≡ false)
decide_false false = inl refl
decide_false true = inr (λ e. false≢true (sym e))

decide_texts : (xs ys : List ℕ) → Decided (xs ≡ ys)
decide_texts xs ys =
    ⊎_elim (λ e. inl ((bytes_eq-Decides xs ys).0 e))
    (λ e. inr (λ same. false≢true (sym e ∙ (bytes_eq-Decides xs ys).1 same)))
    (cases_Bool (bytes_eq xs ys))

-- One piece

decide_one : (test : ℕ → Bool) (text after : List ℕ) → Decided (IsPiece (one test) text after)
decide_one test [] after = inr (λ is. let e = is.1 in cc)
decide_one test (c ∷ []) after = by (decide_true (test c))
  where
    by : Decided (test c ≡ true) → Decided (IsPiece (one test) (c ∷ []) after)
    by (inl passes) = inl (c, refl, passes)
    by (inr fails) = inr (λ is.
        let e = is.1 in
        let same : is.0 ≡ c = cc in
        fails (subst (λ d. test d ≡ true) same is.2))
decide_one test (c ∷ d ∷ text) after = inr (λ is. let e = is.1 in cc)

decide_stopped : (test : ℕ → Bool) (after : List ℕ) → Decided (IsStopped test after)
decide_stopped test [] = inl tt
decide_stopped test (c ∷ after) = decide_false (test c)

decide_piece : (p : Piece) (text after : List ℕ) → Decided (IsPiece p text after)
decide_piece (one test) text after = decide_one test text after
decide_piece (any test) text after = decide_true (list_all test text)
decide_piece (some test) [] after = inr (λ is. is.0 refl)
decide_piece (some test) (c ∷ text) after = by (decide_true (list_all test (c ∷ text)))
  where
    by : Decided (list_all test (c ∷ text) ≡ true) → Decided (IsPiece (some test) (c ∷ text) after)
    by (inl passes) = inl ((λ e. cc), passes)
    by (inr fails) = inr (λ is. fails is.1)
decide_piece (run test) [] after = inr (λ is. is.0 refl)
decide_piece (run test) (c ∷ text) after =
    by (decide_both (decide_true (list_all test (c ∷ text))) (decide_stopped test after))
  where
    by : Decided ((list_all test (c ∷ text) ≡ true) × IsStopped test after)
        → Decided (IsPiece (run test) (c ∷ text) after)
    by (inl passes) = inl ((λ e. cc), passes.0, passes.1)
    by (inr fails) = inr (λ is. fails (is.1, is.2))
decide_piece (exactly word) text after = decide_texts text word
decide_piece (keyword word) text after = decide_texts (map simple_fold text) (map simple_fold word)

-- A text in two parts

-- the text in two parts that have `P`
abbrev Cut : (List ℕ → List ℕ → Type 0) → List ℕ → Type 0
Cut P text = (front : List ℕ) × (rest : List ℕ) × (text ≡ front ++ rest) × P front rest

-- a cut whose front is no longer than that of any other cut
record FirstCut (P : List ℕ → List ℕ → Type 0) (text : List ℕ) : Type 0 where
  cut : Cut P text
  first : (front rest : List ℕ) → text ≡ front ++ rest → P front rest → length cut.0 ≤ length front

module _ (P : List ℕ → List ℕ → Type 0) where
  cut_of_nothing : (front rest : List ℕ) → [] ≡ front ++ rest → P front rest → P [] []
  cut_of_nothing [] rest e is = subst (P []) (sym e) is
  cut_of_nothing (c ∷ front) rest e is = absurd (cc)

  module _ (c : ℕ) (text : List ℕ) (none : P [] (c ∷ text) → ⊥) where
    -- a cut after the first character is a cut of the rest
    tail : (front rest : List ℕ) → c ∷ text ≡ front ++ rest → P front rest
        → (more : List ℕ) × (front ≡ c ∷ more) × (text ≡ more ++ rest) × P (c ∷ more) rest
    tail [] rest e is = absurd (none (subst (P []) (sym e) is))
    tail (d ∷ front) rest e is =
        let same : d ≡ c = cc in
        let tails : text ≡ front ++ rest = cc in
        (front, ap (λ x. x ∷ front) same, tails, subst (λ x. P (x ∷ front) rest) same is)

first_cut : (P : List ℕ → List ℕ → Type 0) → ((front rest : List ℕ) → Decided (P front rest))
    → (text : List ℕ) → FirstCut P text ⊎ (Cut P text → ⊥)
first_cut P decide [] = by (decide [] [])
  where
    by : Decided (P [] []) → FirstCut P [] ⊎ (Cut P [] → ⊥)
    by (inl is) = inl (record { cut = ([], [], refl, is); first = λ front rest e other. zero-le })
    by (inr none) = inr (λ cut. none (cut_of_nothing P cut.0 cut.1 cut.2 cut.3))
first_cut P decide (c ∷ text) =
    by (decide [] (c ∷ text))
    (first_cut (λ front rest. P (c ∷ front) rest) (λ front rest. decide (c ∷ front) rest) text)
  where
    by : Decided (P [] (c ∷ text))
        → FirstCut (λ front rest. P (c ∷ front) rest) text
        ⊎ (Cut (λ front rest. P (c ∷ front) rest) text → ⊥)
        → FirstCut P (c ∷ text) ⊎ (Cut P (c ∷ text) → ⊥)
    by (inl is) below = inl (record { cut = ([], c ∷ text, refl, is); first = λ front rest e other. zero-le })
    by (inr none) (inl found) = inl (record {
      cut = (c ∷ found.cut.0, found.cut.1, ap (λ t. c ∷ t) found.cut.2, found.cut.3);
      first = λ front rest e is.
          let other = tail P c text none front rest e is in
          let less = found.first other.0 rest other.2 other.3 in
          omega (arith, less, ap length other.1);
    })
    by (inr none) (inr no_more) = inr (λ cut.
        let other = tail P c text none cut.0 cut.1 cut.2 cut.3 in
        no_more (other.0, cut.1, other.2, other.3))

decide_cut : (P : List ℕ → List ℕ → Type 0) → ((front rest : List ℕ) → Decided (P front rest))
    → (text : List ℕ) → Decided (Cut P text)
decide_cut P decide text = ⊎_elim (λ found. inl found.cut) inr (first_cut P decide text)

-- Pieces one after another, and splits

decide_pieces : (pieces : List Piece) (text after : List ℕ) → Decided (ArePieces pieces text after)
decide_pieces [] [] after = inl refl
decide_pieces [] (c ∷ text) after = inr (λ e. cc)
decide_pieces (p ∷ others) text after =
    by (decide_cut (λ piece rest. IsPiece p piece (rest ++ after) × ArePieces others rest after)
    (λ piece rest. decide_both (decide_piece p piece (rest ++ after)) (decide_pieces others rest after)) text)
  where
    by : Decided (Cut (λ piece rest. IsPiece p piece (rest ++ after) × ArePieces others rest after) text)
        → Decided (ArePieces (p ∷ others) text after)
    by (inl cut) = inl (cut.0, cut.1, cut.2, cut.3.0, cut.3.1)
    by (inr none) = inr (λ are. none (are.0, are.1, are.2, (are.3, are.4)))

module _ (pattern : Pattern) where
  -- the text after the captured piece, the text after the front, and the start of a split
  abbrev Back : List ℕ → Type 0
  Back text = Cut (λ back after. ArePieces pattern.back back after) text

  abbrev Captured : List ℕ → Type 0
  Captured text = Cut (λ captured rest. IsPiece pattern.captured captured rest × Back rest) text

  abbrev Front : List ℕ → Type 0
  Front text = Cut (λ front rest. ArePieces pattern.front front rest × Captured rest) text

  abbrev Begins : List ℕ → List ℕ → Type 0
  Begins before rest = (IsTrue pattern.anchored → before ≡ []) × Front rest

  decide_front : (text : List ℕ) → Decided (Front text)
  decide_front text =
      decide_cut (λ front rest. ArePieces pattern.front front rest × Captured rest) (λ front rest.
      decide_both (decide_pieces pattern.front front rest)
      (decide_cut (λ captured more. IsPiece pattern.captured captured more × Back more) (λ captured more.
      decide_both (decide_piece pattern.captured captured more)
      (decide_cut (λ back after. ArePieces pattern.back back after) (decide_pieces pattern.back) more))
      rest)) text

  decide_anchored : (b : Bool) (before : List ℕ) → Decided (b ≡ true → before ≡ [])
  decide_anchored false before = inl (λ e. absurd (false≢true e))
  decide_anchored true [] = inl (λ e. refl)
  decide_anchored true (c ∷ before) = inr (λ h. let e = h refl in cc)

  split_of : (text before rest : List ℕ) → text ≡ before ++ rest → Begins before rest → Split pattern text
  split_of text before rest whole begins =
      let front = begins.1 in
      let captured = front.3.1 in
      let back = captured.3.1 in
      record {
        before = before;
        front = front.0;
        captured = captured.0;
        back = back.0;
        after = back.1;
        whole = whole ∙ ap (λ t. before ++ t) (front.2 ∙ ap (λ t. front.0 ++ t)
            (captured.2 ∙ ap (λ t. captured.0 ++ t) back.2));
        anchored = begins.0;
        front_pieces = subst (ArePieces pattern.front front.0) (captured.2
            ∙ ap (λ t. captured.0 ++ t) back.2) front.3.0;
        captured_piece = subst (IsPiece pattern.captured captured.0) back.2 captured.3.0;
        back_pieces = back.3;
      }

  begins_of : (text : List ℕ) (split : Split pattern text)
      → Begins split.before (split.front ++ (split.captured ++ (split.back ++ split.after)))
  begins_of text split = (
    split.anchored,
    (
      split.front,
      split.captured ++ (split.back ++ split.after),
      refl,
      (
        split.front_pieces,
        (
          split.captured,
          split.back ++ split.after,
          refl,
          (split.captured_piece, (split.back, split.after, refl, split.back_pieces)),
        ),
      ),
    ),
  )

  some_first : (text : List ℕ) → ((split : Split pattern text)
      × ((other : Split pattern text) → length split.before ≤ length other.before))
      ⊎ (Split pattern text → ⊥)
  unfolding split_of
  some_first text =
      by (first_cut Begins (λ before rest. decide_both (decide_anchored pattern.anchored before)
      (decide_front rest)) text)
    where
      by : FirstCut Begins text ⊎ (Cut Begins text → ⊥)
          → ((split : Split pattern text)
          × ((other : Split pattern text) → length split.before ≤ length other.before))
          ⊎ (Split pattern text → ⊥)
      by (inl found) = inl (
        split_of text found.cut.0 found.cut.1 found.cut.2 found.cut.3,
        λ other. found.first other.before _ other.whole (begins_of text other),
      )
      by (inr none) = inr (λ split. none (split.before, _, split.whole, begins_of text split))

-- a text has a part that the pattern captures, or no split
pub some_part : (pattern : Pattern) (text : List ℕ)
    → ((part : TextPart) × IsCaptured pattern text part) ⊎ (HasSplit pattern text → ⊥)
some_part pattern text = by (some_first pattern (chars text))
  where
    by : ((split : Split pattern (chars text))
        × ((other : Split pattern (chars text)) → length split.before ≤ length other.before))
        ⊎ (Split pattern (chars text) → ⊥)
        → ((part : TextPart) × IsCaptured pattern text part) ⊎ (HasSplit pattern text → ⊥)
    by (inl (split, first)) = inl (
      record {
        text = encode_utf8_all split.captured;
        start = length (encode_utf8_all (split.before ++ split.front));
        end = length (encode_utf8_all (split.before ++ split.front ++ split.captured));
      },
      record { split = split; first = first; bytes = refl; start = refl; end = refl },
    )
    by (inr none) = inr none

pub decide_split : (pattern : Pattern) (text : List ℕ) → Decided (HasSplit pattern text)
decide_split pattern text = ⊎_elim (λ part. inl part.1.split) inr (some_part pattern text)
