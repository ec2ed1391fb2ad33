-- Prefixes of the characters of a text, and the boundaries after them.
use Rattle.std.proofs.Common.{◌≡◌, ℕ, Bool, true, false, ◌&&◌, List, [], ◌∷◌, ◌++◌, length, take, drop, refl}
use Rattle.std.proofs.Common.{sym, ap, ◌∙◌, arith}
use Rattle.std.proofs.lemmas.Bool.{false≢true}
use Rattle.std.proofs.lemmas.List.{length-take-le, take-append-drop, take-append-le, take_all}
use Rattle.std.proofs.lemmas.Str.{IsCharBoundary-at_seam, IsUtf8-take, chars-append, chars-encodes}
use Rattle.std.proofs.lemmas.Str.{encodes-append, encodes-chars, scalars-chars}
use Rattle.std.specs.Str.{IsCharBoundary, IsUtf8, chars}
use lib.Utf8.{encodes, scalar, scalars}
use Rattle.deno_graph_base.specs.Position.{IsFrontSize, position_at, position_of}

and-left : (a b : Bool) → (a && b) ≡ true → a ≡ true
and-left true b h = refl
and-left false b h = absurd (false≢true h)

and-right : (a b : Bool) → (a && b) ≡ true → b ≡ true
and-right true b h = h
and-right false b h = absurd (false≢true h)

scalars-rest : (front rest : List ℕ) → scalars (front ++ rest) ≡ true → scalars rest ≡ true
scalars-rest [] rest all = all
scalars-rest (c ∷ front) rest all =
    scalars-rest front rest (and-right (scalar c) (scalars (front ++ rest)) all)

scalars-front : (front rest : List ℕ) → scalars (front ++ rest) ≡ true → scalars front ≡ true
scalars-front [] rest all = refl
scalars-front (c ∷ front) rest all =
    ap (λ b. b && scalars front) (and-left (scalar c) (scalars (front ++ rest)) all)
    ∙ scalars-front front rest (and-right (scalar c) (scalars (front ++ rest)) all)

-- a text is the bytes of a prefix and of the characters after it
halves : (text front rest : List ℕ) → IsUtf8 text → front ++ rest ≡ chars text → encodes front
    ++ encodes rest ≡ text
halves text front rest utf8 is = sym (encodes-append front rest) ∙ ap encodes is ∙ encodes-chars text utf8

pub boundary_from_front : (text front rest : List ℕ) → IsUtf8 text → front ++ rest ≡ chars text
    → IsCharBoundary text (length (encodes front))
boundary_from_front text front rest utf8 is =
    let all : scalars (front ++ rest) ≡ true = ap scalars is ∙ scalars-chars text utf8 in
    IsCharBoundary-at_seam text (encodes front) (encodes rest) (sym (halves text front rest utf8 is))
    (rest, (scalars-rest front rest all, refl))

pub front_from_boundary : (text : List ℕ) (size : ℕ) → IsUtf8 text → IsCharBoundary text size
    → IsFrontSize text size
front_from_boundary text size utf8 boundary =
    let front = IsUtf8-take text size utf8 boundary in (
      chars (take size text),
      chars (drop size text),
      sym (chars-append (take size text) (drop size text) front)
          ∙ ap chars (take-append-drop size text),
      ap length (encodes-chars (take size text) front)
          ∙ length-take-le size text boundary.0,
    )

pub position_from_front : (text front rest : List ℕ) → IsUtf8 text → front ++ rest ≡ chars text
    → position_at text (length (encodes front)) ≡ position_of front
position_from_front text front rest utf8 is =
    let all : scalars (front ++ rest) ≡ true = ap scalars is ∙ scalars-chars text utf8 in
    let bytes : take (length (encodes front)) text ≡ encodes front =
    ap (take (length (encodes front))) (sym (halves text front rest utf8 is))
    ∙ take-append-le (length (encodes front)) (encodes front) (encodes rest) (omega arith)
    ∙ take_all (length (encodes front)) (encodes front) (omega arith) in
    ap position_of (ap chars bytes ∙ chars-encodes front (scalars-front front rest all))
