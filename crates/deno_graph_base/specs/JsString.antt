-- JavaScript strings: lists of code points, some of which may be surrogates.
use Rattle.std.specs.Prelude.{◌≡◌, ℕ, ◌+◌, Bool, false, not, ◌&&◌, List, [], ◌∷◌, map, All, IsTrue, nat_le}
use Rattle.std.specs.Prelude.{nat_lt, slice_index, if◌then◌else◌, encode_utf8_all, Option, Some, None}
use Rattle.std.specs.Char.Utf16.{is_high_surrogate, is_low_surrogate, surrogate_pair_char}
use Rattle.std.specs.List.{list_all}

-- a surrogate of UTF-16: a code point from 0xD800 to 0xDFFF, which is not a character
abbrev pub is_surrogate : ℕ → Bool
is_surrogate p = nat_le 0xD800 p && nat_lt p 0xE000

-- the character for a code point in lossy text: U+FFFD for a surrogate
abbrev pub lossy_char : ℕ → ℕ
lossy_char p = if is_surrogate p then 0xFFFD else p

-- the code points as UTF-8, with U+FFFD for each surrogate
abbrev pub lossy_text : List ℕ → List ℕ
lossy_text points = encode_utf8_all (map lossy_char points)

-- no code point is a surrogate
abbrev pub IsReadable : List ℕ → Type 0
IsReadable points = All (λ p. is_surrogate p ≡ false) points

-- a readable string as UTF-8, and `None` for a string with a surrogate
abbrev pub readable_text : List ℕ → Option (List ℕ)
readable_text points = if list_all (λ p. not (is_surrogate p)) points then Some (lossy_text points) else None

-- no high surrogate is directly before a low one
abbrev pub IsPaired : List ℕ → Type 0
IsPaired points =
    (k : ℕ) → IsTrue (is_high_surrogate (slice_index points k))
    → IsTrue (is_low_surrogate (slice_index points (k + 1))) → ⊥

-- the code points of UTF-16 units: a high surrogate directly before a low one forms one code point
-- with it, and every other unit is a code point
unfoldable pub points_of_units : List ℕ → List ℕ
points_of_units [] = []
points_of_units (u ∷ []) = u ∷ []
points_of_units (u ∷ v ∷ units) =
    if is_high_surrogate u && is_low_surrogate v then surrogate_pair_char u v ∷ points_of_units units else u
    ∷ points_of_units (v ∷ units)
