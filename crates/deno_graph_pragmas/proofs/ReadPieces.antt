-- Reading from left to right finds the pieces of a text.
use Rattle.std.proofs.Common.{◌≡◌, ◌≢◌, ℕ, Bool, true, false, ◌==◌, List, [], ◌∷◌, ◌++◌, Option, Some, None}
use Rattle.std.proofs.Common.{refl, sym, ap, subst, ◌∙◌, eqb-true, eq-eqb, append_assoc}
use Rattle.std.proofs.lemmas.Bool.{and_parts, and_from, cond-true, cond-false, cond_both}
use Rattle.std.specs.List.{list_all}
use Rattle.std.specs.Option.{option_map, option_and_then}
use Rattle.unicode.specs.CaseFolding.{simple_fold}
use Rattle.deno_graph_pragmas.specs.Piece.{Piece, one, any, some, run, exactly, keyword, IsPiece, IsStopped}
use Rattle.deno_graph_pragmas.specs.Piece.{IsInAnyCase}
use Rattle.deno_graph_pragmas.specs.internal.Reading.{skip_while, after_one, after_some, after_exactly}
use Rattle.deno_graph_pragmas.specs.internal.Reading.{after_keyword, after_piece, after_pieces}
use Rattle.deno_graph_pragmas.specs.Split.{ArePieces}

-- One piece

pub skip_while-stopped : (test : ℕ → Bool) (text : List ℕ) → IsStopped test text → skip_while test text ≡ text
skip_while-stopped test [] stopped = refl
skip_while-stopped test (c ∷ text) stopped = cond-false (test c) _ _ stopped

pub skip_while-append : (test : ℕ → Bool) (piece rest : List ℕ) → list_all test piece ≡ true
    → IsStopped test rest → skip_while test (piece ++ rest) ≡ rest
skip_while-append test [] rest all stopped = skip_while-stopped test rest stopped
skip_while-append test (c ∷ piece) rest all stopped =
    let parts = and_parts (test c) (list_all test piece) all in
    cond-true (test c) _ _ parts.0 ∙ skip_while-append test piece rest parts.1 stopped

after_some-append : (test : ℕ → Bool) (piece rest : List ℕ) → piece ≢ [] → list_all test piece ≡ true
    → IsStopped test rest → after_some test (piece ++ rest) ≡ Some rest
after_some-append test [] rest nonempty all stopped = absurd (nonempty refl)
after_some-append test (c ∷ piece) rest nonempty all stopped =
    let parts = and_parts (test c) (list_all test piece) all in
    ap (option_map (skip_while test)) (cond-true (test c) (Some (piece ++ rest)) None parts.0)
    ∙ ap Some (skip_while-append test piece rest parts.1 stopped)

after_exactly-append : (word rest : List ℕ) → after_exactly word (word ++ rest) ≡ Some rest
after_exactly-append [] rest = refl
after_exactly-append (c ∷ word) rest = cond-true (c == c) _ _ (eq-eqb c c refl)
    ∙ after_exactly-append word rest

after_keyword-append : (word piece rest : List ℕ) → IsInAnyCase piece word
    → after_keyword word (piece ++ rest) ≡ Some rest
after_keyword-append [] [] rest same = refl
after_keyword-append [] (c ∷ piece) rest same = absurd (cc)
after_keyword-append (d ∷ word) [] rest same = absurd (cc)
after_keyword-append (d ∷ word) (c ∷ piece) rest same =
    let head : simple_fold c ≡ simple_fold d = cc in
    let tail : IsInAnyCase piece word = cc in
    cond-true (simple_fold c == simple_fold d) _ _ (eq-eqb _ _ head)
    ∙ after_keyword-append word piece rest tail

-- `rest` ends a piece of any length
abbrev pub Ends : Piece → List ℕ → Type 0
Ends (any test) rest = IsStopped test rest
Ends (some test) rest = IsStopped test rest
Ends _ rest = Unit {0}

pub after_piece-append : (p : Piece) (piece rest : List ℕ) → IsPiece p piece rest → Ends p rest
    → after_piece p (piece ++ rest) ≡ Some rest
after_piece-append (one test) piece rest (c, is, passes) ends =
    ap (λ text. after_one test (text ++ rest)) is ∙ cond-true (test c) _ _ passes
after_piece-append (any test) piece rest is ends = ap Some (skip_while-append test piece rest is ends)
after_piece-append (some test) piece rest is ends = after_some-append test piece rest is.0 is.1 ends
after_piece-append (run test) piece rest is ends = after_some-append test piece rest is.0 is.1 is.2
after_piece-append (exactly word) piece rest is ends =
    ap (λ text. after_exactly word (text ++ rest)) is ∙ after_exactly-append word rest
after_piece-append (keyword word) piece rest is ends = after_keyword-append word piece rest is

-- a piece is read at the start of `text`, and `rest` is left
abbrev pub IsReadAs : Piece → List ℕ → List ℕ → Type 0
IsReadAs p text rest = (piece : List ℕ) × (text ≡ piece ++ rest) × IsPiece p piece rest × Ends p rest

pub skip_while-front : (test : ℕ → Bool) (text : List ℕ) → IsReadAs (any test) text (skip_while test text)
skip_while-front test [] = ([], refl, refl, tt)
skip_while-front test (c ∷ text) =
    cond_both (test c) (skip_while test text) (c ∷ text) (IsReadAs (any test) (c ∷ text))
    (λ passes. let more = skip_while-front test text in
    (c ∷ more.0, ap (λ t. c ∷ t) more.1, and_from (test c) (list_all test more.0) passes more.2, more.3))
    (λ fails. ([], refl, refl, fails))

after_one-front : (test : ℕ → Bool) (text rest : List ℕ) → after_one test text ≡ Some rest
    → (c : ℕ) × (text ≡ c ∷ rest) × (test c ≡ true)
after_one-front test [] rest is = absurd (cc)
after_one-front test (c ∷ text) rest is =
    cond_both (test c) (Some text) None
    (λ o. o ≡ Some rest → (d : ℕ) × (c ∷ text ≡ d ∷ rest) × (test d ≡ true))
    (λ passes same. let tail : text ≡ rest = cc in (c, ap (λ t. c ∷ t) tail, passes))
    (λ fails same. absurd (cc))
    is

after_some-front : (test : ℕ → Bool) (text rest : List ℕ) → after_some test text ≡ Some rest
    → IsReadAs (run test) text rest
after_some-front test [] rest is = absurd (cc)
after_some-front test (c ∷ text) rest is =
    cond_both (test c) (Some text) None
    (λ o. option_map (skip_while test) o ≡ Some rest → IsReadAs (run test) (c ∷ text) rest)
    (λ passes same.
    let tail : skip_while test text ≡ rest = cc in
    let more = skip_while-front test text in (
      c ∷ more.0,
      ap (λ t. c ∷ t) (more.1 ∙ ap (λ t. more.0 ++ t) tail),
      (
        λ none. absurd (cc),
        and_from (test c) (list_all test more.0) passes more.2,
        subst (IsStopped test) tail more.3,
      ),
      tt,
    ))
    (λ fails same. absurd (cc))
    is

after_exactly-front : (word text rest : List ℕ) → after_exactly word text ≡ Some rest → text ≡ word ++ rest
after_exactly-front [] text rest is = let same : text ≡ rest = cc in same
after_exactly-front (d ∷ word) [] rest is = absurd (cc)
after_exactly-front (d ∷ word) (c ∷ text) rest is =
    cond_both (c == d) (after_exactly word text) None (λ o. o ≡ Some rest → c ∷ text ≡ d ∷ (word ++ rest))
    (λ same more. let head = eqb-true c d same in let tail = after_exactly-front word text rest more in cc)
    (λ other none. absurd (cc))
    is

after_keyword-front : (word text rest : List ℕ) → after_keyword word text ≡ Some rest
    → (piece : List ℕ) × (text ≡ piece ++ rest) × IsInAnyCase piece word
after_keyword-front [] text rest is = let same : text ≡ rest = cc in ([], same, refl)
after_keyword-front (d ∷ word) [] rest is = absurd (cc)
after_keyword-front (d ∷ word) (c ∷ text) rest is =
    cond_both (simple_fold c == simple_fold d) (after_keyword word text) None
    (λ o. o ≡ Some rest → (piece : List ℕ) × (c ∷ text ≡ piece ++ rest) × IsInAnyCase piece (d ∷ word))
    (λ same more.
    let head = eqb-true (simple_fold c) (simple_fold d) same in
    let tail = after_keyword-front word text rest more in
    let folded = tail.2 in
    (c ∷ tail.0, ap (λ t. c ∷ t) tail.1, cc))
    (λ other none. absurd (cc))
    is

pub after_piece-front : (p : Piece) (text rest : List ℕ)
    → after_piece p text ≡ Some rest → IsReadAs p text rest
after_piece-front (one test) text rest is =
    let first = after_one-front test text rest is in (first.0 ∷ [], first.1, (first.0, refl, first.2), tt)
after_piece-front (any test) text rest is =
    let same : skip_while test text ≡ rest = cc in
    subst (IsReadAs (any test) text) same (skip_while-front test text)
after_piece-front (some test) text rest is =
    let read = after_some-front test text rest is in (read.0, read.1, (read.2.0, read.2.1), read.2.2)
after_piece-front (run test) text rest is = after_some-front test text rest is
after_piece-front (exactly word) text rest is = (word, after_exactly-front word text rest is, refl, tt)
after_piece-front (keyword word) text rest is =
    let read = after_keyword-front word text rest is in (read.0, read.1, read.2, tt)

-- Pieces one after another

-- each text of the piece begins with a character that fails the test
abbrev pub IsBarrier : (ℕ → Bool) → Piece → Type 0
IsBarrier test p = (text after : List ℕ) → IsPiece p text after → (c : ℕ) × (rest : List ℕ)
    × (text ≡ c ∷ rest) × (test c ≡ false)

-- the first piece ends where the second begins
abbrev pub IsApart : Piece → Piece → Type 0
IsApart (any test) next = IsBarrier test next
IsApart (some test) next = IsBarrier test next
IsApart _ next = Unit {0}

-- each piece ends where the next begins, and the last before `after`
abbrev pub AreApart : List Piece → List ℕ → Type 0
AreApart [] after = Unit {0}
AreApart (p ∷ []) after = Ends p after
AreApart (p ∷ q ∷ others) after = IsApart p q × AreApart (q ∷ others) after

IsStopped-barrier : (test : ℕ → Bool) (q : Piece) (piece rest : List ℕ) → IsBarrier test q
    → IsPiece q piece rest → IsStopped test (piece ++ rest)
IsStopped-barrier test q piece rest barrier is =
    let first = barrier piece rest is in
    subst (λ text. IsStopped test (text ++ rest)) (sym first.2) first.3

pub Ends-next : (p q : Piece) (piece rest : List ℕ) → IsApart p q
    → IsPiece q piece rest → Ends p (piece ++ rest)
Ends-next (one test) q piece rest apart is = tt
Ends-next (any test) q piece rest apart is = IsStopped-barrier test q piece rest apart is
Ends-next (some test) q piece rest apart is = IsStopped-barrier test q piece rest apart is
Ends-next (run test) q piece rest apart is = tt
Ends-next (exactly word) q piece rest apart is = tt
Ends-next (keyword word) q piece rest apart is = tt

-- reading finds pieces one after another
pub after_pieces-append : (pieces : List Piece) (front after : List ℕ) → AreApart pieces after
    → ArePieces pieces front after → after_pieces pieces (front ++ after) ≡ Some after
after_pieces-append [] front after apart is = ap (λ text. Some (text ++ after)) is
after_pieces-append (p ∷ []) front after apart (piece, rest, whole, is, others) =
    let all : front ++ after ≡ piece ++ (rest ++ after) =
    ap (λ text. text ++ after) whole ∙ append_assoc piece rest after in
    let ends : Ends p (rest ++ after) = subst (λ text. Ends p (text ++ after)) (sym others) apart in
    ap (λ text. option_and_then Some (after_piece p text)) all ∙ ap (option_and_then Some)
    (after_piece-append p piece (rest ++ after) is ends) ∙ ap (λ text. Some (text ++ after)) others
after_pieces-append (p ∷ q ∷ others) front after apart (piece, rest, whole, is, more) =
    let all : front ++ after ≡ piece ++ (rest ++ after) =
    ap (λ text. text ++ after) whole ∙ append_assoc piece rest after in
    let next : rest ++ after ≡ more.0 ++ (more.1 ++ after) =
    ap (λ text. text ++ after) more.2 ∙ append_assoc more.0 more.1 after in
    let ends : Ends p (rest ++ after) =
    subst (Ends p) (sym next) (Ends-next p q more.0 (more.1 ++ after) apart.0 more.3) in
    ap (λ text. option_and_then (after_pieces (q ∷ others)) (after_piece p text)) all ∙ ap
    (option_and_then (after_pieces (q ∷ others))) (after_piece-append p piece (rest ++ after) is ends)
    ∙ after_pieces-append (q ∷ others) rest after apart.1 more

option_and_then-some : {A B : Type 0} (f : A → Option B) (o : Option A) (y : B) → option_and_then f o ≡ Some y
    → (x : A) × (o ≡ Some x) × (f x ≡ Some y)
option_and_then-some f None y is = absurd (cc)
option_and_then-some f (Some x) y is = (x, refl, is)

-- the text that is read is the pieces, one after another
pub after_pieces-front : (pieces : List Piece) (text after : List ℕ) → after_pieces pieces text ≡ Some after
    → (front : List ℕ) × (text ≡ front ++ after) × ArePieces pieces front after
after_pieces-front [] text after is = let same : text ≡ after = cc in ([], same, refl)
after_pieces-front (p ∷ others) text after is =
    let first = option_and_then-some (after_pieces others) (after_piece p text) after is in
    let head = after_piece-front p text first.0 first.1 in
    let tail = after_pieces-front others first.0 after first.2 in (
      head.0 ++ tail.0,
      head.1 ∙ ap (λ rest. head.0 ++ rest) tail.1 ∙ sym (append_assoc head.0 tail.0 after),
      (head.0, tail.0, refl, subst (IsPiece p head.0) tail.1 head.2, tail.2),
    )
