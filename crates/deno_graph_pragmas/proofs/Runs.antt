-- Runs of characters that may not be empty.
use Rattle.std.proofs.Common.{◌≡◌, ◌≢◌, ◌==◌, ◌⊎◌, inl, inr, ℕ, ◌≤◌, Bool, true, false, List, [], ◌∷◌, ◌++◌}
use Rattle.std.proofs.Common.{length, Some, None, refl, sym, ap, ◌∙◌, arith, length-append, eqb-true}
use Rattle.std.proofs.lemmas.Bool.{cond_both, cond-true, cond-false, eqb-false}
use Rattle.std.proofs.lemmas.List.{nil_from_length}
use Rattle.std.proofs.lemmas.Option.{same_Some}
use Rattle.std.proofs.lemmas.Str.{chars-nil, encodes-chars}
use Rattle.std.specs.Option.{option_map, option_and_then}
use Rattle.std.specs.Str.{chars, IsUtf8}
use lib.Utf8.{encodes}
use Rattle.deno_graph_pragmas.specs.Piece.{Piece, any, some}
use Rattle.deno_graph_pragmas.specs.internal.Reading.{skip_while, after_one, after_some, after_pieces}
use Rattle.deno_graph_pragmas.specs.internal.Reading.{IsCapturedAt}
use Rattle.deno_graph_pragmas.specs.Split.{TextPart}

length-skip_while : (test : ℕ → Bool) (text : List ℕ) → length (skip_while test text) ≤ length text
length-skip_while test [] = omega arith
length-skip_while test (c ∷ text) =
    cond_both (test c) (skip_while test text) (c ∷ text) (λ t. length t ≤ length (c ∷ text))
    (λ _. omega (arith, length-skip_while test text)) (λ _. omega arith)

after_some-front : (test : ℕ → Bool) (text front : List ℕ) → text ≡ front ++ skip_while test text → front ≢ []
    → after_some test text ≡ Some (skip_while test text)
after_some-front test [] front whole nonempty =
    absurd (nonempty (nil_from_length front (omega (arith, ap length whole, length-append front []))))
after_some-front test (c ∷ text) front whole nonempty =
    cond_both (test c) (skip_while test text) (c ∷ text)
    (λ t. c ∷ text ≡ front ++ t → option_map (skip_while test) (after_one test (c ∷ text)) ≡ Some t)
    (λ passes _. ap (option_map (skip_while test)) (cond-true (test c) (Some text) None passes))
    (λ fails same. absurd
    (nonempty (nil_from_length front (omega (arith, ap length same, length-append front (c ∷ text))))))
    whole

after_some-nil : (test : ℕ → Bool) (text : List ℕ) → text ≡ skip_while test text → after_some test text ≡ None
after_some-nil test [] same = refl
after_some-nil test (c ∷ text) same =
    cond_both (test c) (skip_while test text) (c ∷ text)
    (λ t. c ∷ text ≡ t → option_map (skip_while test) (after_one test (c ∷ text)) ≡ None)
    (λ passes all. absurd (omega (arith, ap length all, length-skip_while test text)))
    (λ fails _. ap (option_map (skip_while test)) (cond-false (test c) (Some text) None fails))
    same

-- a front of at least one byte has at least one character
pub after_some-nonempty : (test : ℕ → Bool) (text front : List ℕ) → IsUtf8 front → text ≡ chars front
    ++ skip_while test text → (length front == 0) ≡ false → after_some test text ≡ Some (skip_while test text)
after_some-nonempty test text front utf8 whole nonempty =
    after_some-front test text (chars front) whole (λ none. eqb-false (length front) 0 nonempty
    (ap length (sym (encodes-chars front utf8) ∙ ap encodes none)))

pub after_some-empty : (test : ℕ → Bool) (text front : List ℕ) → text ≡ chars front ++ skip_while test text
    → (length front == 0) ≡ true → after_some test text ≡ None
after_some-empty test text front whole empty =
    let none : chars front ≡ [] =
    ap chars (nil_from_length front (eqb-true (length front) 0 empty)) ∙ chars-nil in
    after_some-nil test text (whole ∙ ap (λ t. t ++ skip_while test text) none)

-- A piece that may be empty, and the same piece that may not

tail_is : (test : ℕ → Bool) (back : List Piece) (text rest : List ℕ) (part : TextPart)
    → (read : IsCapturedAt (any test) back text rest part)
    → chars rest ≡ chars part.text ++ skip_while test (chars rest)
tail_is test back text rest part read =
    let same : skip_while test (chars rest) ≡ read.tail = same_Some _ _ read.captured in
    read.whole ∙ ap (λ t. chars part.text ++ t) (sym same)

pub read_nonempty : (test : ℕ → Bool) (back : List Piece) (text rest : List ℕ) (part : TextPart)
    → IsCapturedAt (any test) back text rest part → (length part.text == 0) ≡ false
    → IsCapturedAt (some test) back text rest part
read_nonempty test back text rest part read nonempty = record {
  tail = read.tail;
  captured = after_some-nonempty test (chars rest) part.text read.utf8
      (tail_is test back text rest part read) nonempty ∙ read.captured;
  back_read = read.back_read;
  whole = read.whole;
  utf8 = read.utf8;
  start = read.start;
  end = read.end;
}

pub empty_read : (test : ℕ → Bool) (back : List Piece) (text rest : List ℕ) (part : TextPart)
    → IsCapturedAt (any test) back text rest part → (length part.text == 0) ≡ true
    → after_pieces (some test ∷ back) (chars rest) ≡ None
empty_read test back text rest part read empty =
    ap (option_and_then (after_pieces back))
    (after_some-empty test (chars rest) part.text (tail_is test back text rest part read) empty)

after_some-cases : (test : ℕ → Bool) (text : List ℕ) → (after_some test text ≡ None)
    ⊎ (after_some test text ≡ Some (skip_while test text))
after_some-cases test [] = inl refl
after_some-cases test (c ∷ text) =
    cond_both (test c) (skip_while test text) (c ∷ text)
    (λ t. (after_some test (c ∷ text) ≡ None) ⊎ (after_some test (c ∷ text) ≡ Some t))
    (λ passes. inr (ap (option_map (skip_while test)) (cond-true (test c) (Some text) None passes)))
    (λ fails. inl (ap (option_map (skip_while test)) (cond-false (test c) (Some text) None fails)))

pub unread_some : (test : ℕ → Bool) (back : List Piece) (text : List ℕ)
    → after_pieces (any test ∷ back) text ≡ None → after_pieces (some test ∷ back) text ≡ None
unread_some test back text none = elim (after_some-cases test text) [
  | inl missing ↦ ap (option_and_then (after_pieces back)) missing
  | inr there ↦ ap (option_and_then (after_pieces back)) there ∙ none
]
