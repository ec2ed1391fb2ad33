-- The first line of a text, and whether `/>` is in the line.
use Rattle.std.proofs.Common.{◌≡◌, ◌↔◌, ℕ, ◌<◌, Bool, true, List, [], ◌∷◌, ◌++◌, length, take, drop, get_or}
use Rattle.std.proofs.Common.{refl, sym, ap, subst, ◌∙◌, append_assoc, length-append, arith, inl, inr, codes}
use Rattle.std.proofs.lemmas.Bool.{and_parts, and_from, both_ways}
use Rattle.std.proofs.lemmas.List.{take_at, drop_at, get_or_at}
use Rattle.std.proofs.lemmas.List.Folds.{list_all-append}
use Rattle.std.proofs.lemmas.Str.{encodes-chars, encodes-append, chars-append, chars_past_char}
use Rattle.std.proofs.lemmas.Str.{IsUtf8-past_char, IsUtf8-take, IsUtf8-drop, IsCharBoundary-before_ascii}
use Rattle.std.specs.List.{list_all}
use Rattle.std.specs.Str.{chars, IsUtf8, IsCharBoundary}
use Rattle.std.specs.Str.Iter.{HasSubslice}
use lib.Utf8.{encodes, encode}
use Rattle.deno_graph_pragmas.specs.Piece.{is_in_line, line_feed}
use Rattle.deno_graph_pragmas.specs.internal.Reading.{IsClosedInLine, IsFirstLine}

-- Bytes and characters

HasClose : List ℕ → Type 0
HasClose line = (front : List ℕ) × (back : List ℕ) × (line ≡ front ++ (codes "/>" ++ back))

in_chars : (line : List ℕ) → IsUtf8 line → HasSubslice line (codes "/>") → HasClose (chars line)
unfolding HasClose encode
in_chars line utf8 (front, back, whole) =
    let n = length front in
    let less : n < length line = omega (arith, ap length whole, length-append front (codes "/>" ++ back)) in
    let slash : get_or line n 0 ≡ 47 = ap (λ t. get_or t n 0) whole
    ∙ get_or_at front 47 (62 ∷ back) 0 n refl in
    let boundary : IsCharBoundary line n = IsCharBoundary-before_ascii line n less (omega (arith, slash)) in
    let front_utf8 : IsUtf8 front = subst IsUtf8
    (ap (take n) whole ∙ take_at front (codes "/>" ++ back) n refl) (IsUtf8-take line n utf8 boundary) in
    let back_utf8 : IsUtf8 (47 ∷ 62 ∷ back) = subst IsUtf8
    (ap (drop n) whole ∙ drop_at front (codes "/>" ++ back) n refl) (IsUtf8-drop line n utf8 boundary) in
    let after_utf8 : IsUtf8 (62 ∷ back) =
    IsUtf8-past_char (47 ∷ 62 ∷ back) (62 ∷ back) 47 back_utf8 refl in (
      chars front,
      chars back,
      ap chars whole ∙ chars-append front (codes "/>" ++ back) front_utf8
          ∙ ap (λ t. chars front ++ t) (chars_past_char (47 ∷ 62 ∷ back) (62 ∷ back) 47 back_utf8 refl
          ∙ ap (λ t. 47 ∷ t) (chars_past_char (62 ∷ back) back 62 after_utf8 refl)),
    )

in_bytes : (line : List ℕ) → IsUtf8 line → HasClose (chars line) → HasSubslice line (codes "/>")
unfolding HasClose encode
in_bytes line utf8 (front, back, whole) = (
  encodes front,
  encodes back,
  sym (encodes-chars line utf8) ∙ ap encodes whole
      ∙ encodes-append front (codes "/>" ++ back),
)

-- The first line and the text

-- a front without a line feed is in the first line
inside : (front line rest after : List ℕ) → list_all is_in_line front ≡ true
    → line ++ line_feed ∷ rest ≡ front ++ after → (more : List ℕ) × (line ≡ front ++ more)
inside [] line rest after all whole = (line, refl)
inside (c ∷ front) [] rest after all whole =
    let feed : line_feed ≡ c = cc in
    absurd (both_ways (is_in_line c) (ap is_in_line (sym feed))
    (and_parts (is_in_line c) (list_all is_in_line front) all).0)
inside (c ∷ front) (d ∷ line) rest after all whole =
    let head : d ≡ c = cc in
    let tail : line ++ line_feed ∷ rest ≡ front ++ after = cc in
    let more =
    inside front line rest after (and_parts (is_in_line c) (list_all is_in_line front) all).1 tail in
    (more.0, ap (λ t. d ∷ t) more.1 ∙ ap (λ x. x ∷ (front ++ more.0)) head)

to_line : (text line : List ℕ) → IsFirstLine text line → IsClosedInLine text → HasClose line
unfolding HasClose
to_line text line (all, whole) (front, after, in_front, is) = elim whole [
  | inl same ↦ (front, after, sym same ∙ is)
  | inr more ↦
      let parts : line ++ line_feed ∷ more.0 ≡ (front ++ codes "/>") ++ after =
      sym more.1 ∙ is ∙ sym (append_assoc front (codes "/>") after) in
      let within = inside (front ++ codes "/>") line more.0 after
      (list_all-append is_in_line front (codes "/>")
      ∙ and_from (list_all is_in_line front) true in_front refl)
      parts in
      (front, within.0, within.1 ∙ append_assoc front (codes "/>") within.0)
]

from_line : (text line : List ℕ) → IsFirstLine text line → HasClose line → IsClosedInLine text
unfolding HasClose
from_line text line (all, whole) (front, back, is) =
    let in_front = (and_parts (list_all is_in_line front) (list_all is_in_line (codes "/>" ++ back))
    (sym (list_all-append is_in_line front (codes "/>" ++ back))
    ∙ ap (list_all is_in_line) (sym is) ∙ all)).0 in
    elim whole [
      | inl same ↦ (front, back, in_front, same ∙ is)
      | inr more ↦ (
        front,
        back ++ line_feed ∷ more.0,
        in_front,
        more.1 ∙ ap (λ t. t ++ line_feed ∷ more.0) is
            ∙ append_assoc front (codes "/>" ++ back) (line_feed ∷ more.0),
      )
    ]

pub closed_in_line : (text line : List ℕ) (closed : Bool) → IsUtf8 line
    → IsFirstLine (chars text) (chars line) → (closed ≡ true) ↔ HasSubslice line (codes "/>")
    → (closed ≡ true) ↔ IsClosedInLine (chars text)
closed_in_line text line closed utf8 first contains = (
  λ yes. from_line (chars text) (chars line) first (in_chars line utf8 (contains.0 yes)),
  λ is. contains.1 (in_bytes line utf8 (to_line (chars text) (chars line) first is)),
)
