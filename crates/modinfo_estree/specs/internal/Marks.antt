-- The marks of the bytes of a text.
use Rattle.std.specs.Prelude.{◌≡◌, ℕ, ◌<◌, ◌||◌, Bool, true, false, List, length, map, slice_index_or}
use Rattle.modinfo_estree.specs.declared.marks.Mark.{Mark}
use Rattle.modinfo_estree.specs.declared.marks.Mark.TheVariants.{Token, Gap, Break}

-- A byte with this mark is between tokens.
abbrev pub is_gap : Mark → Bool
is_gap Token = false
is_gap Gap = true
is_gap Break = true

-- A byte with this mark is of a line terminator.
abbrev pub is_break : Mark → Bool
is_break Token = false
is_break Gap = false
is_break Break = true

-- By byte, whether it is between tokens.
abbrev pub gaps_of : List Mark → List Bool
gaps_of marks = map is_gap marks

-- By byte, whether it is of a line terminator.
abbrev pub breaks_of : List Mark → List Bool
breaks_of marks = map is_break marks

-- The bytes whose offset passes a test are marked as between tokens too, and the marks are otherwise as
-- before.
pub record AreMarked (test : ℕ → Bool) (old new : List Mark) : Type 0 where
  pub size : length new ≡ length old
  pub gaps : (at : ℕ) → at < length old
      → slice_index_or (gaps_of new) at false ≡ (slice_index_or (gaps_of old) at false || test at)
  pub breaks : breaks_of new ≡ breaks_of old
