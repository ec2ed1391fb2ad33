-- Offsets as parsers count them, and offsets in bytes.
use Rattle.std.specs.Prelude.{ℕ, ◌+◌, List, [], ◌∷◌, length, nat_le, nat_lt, sum, take, if◌then◌else◌}
use Rattle.std.specs.List.{flat_map}
use Rattle.modinfo_estree.specs.declared.offsets.OffsetUnit.{OffsetUnit}
use Rattle.modinfo_estree.specs.declared.offsets.OffsetUnit.TheVariants.{Utf16, Utf8}

-- The UTF-16 units of the character that begins with this byte, each as a number of bytes: a character
-- of four bytes is two units, of two bytes each. A byte that continues a character begins none.
abbrev pub units_at : ℕ → List ℕ
units_at byte =
    if nat_lt byte 0x80 then 1 ∷ [] else
    (if nat_lt byte 0xC0 then [] else
    (if nat_lt byte 0xE0 then 2 ∷ [] else
    (if nat_lt byte 0xF0 then 3 ∷ [] else 2 ∷ 2 ∷ [])))

-- The UTF-16 units of a text, each as a number of bytes.
abbrev pub unit_sizes : List ℕ → List ℕ
unit_sizes text = flat_map units_at text

-- The offset in bytes after this many UTF-16 units of a text: inside a character if it is inside a
-- surrogate pair, and one byte after the end of the text if the text has fewer units.
unfoldable pub byte_offset : List ℕ → ℕ → ℕ
byte_offset text units =
    if nat_le units (length (unit_sizes text)) then sum (take units (unit_sizes text)) else length text + 1

-- The offset in bytes of an offset in this unit.
abbrev pub offset_in : OffsetUnit → List ℕ → ℕ → ℕ
offset_in Utf16 text offset = byte_offset text offset
offset_in Utf8 text offset = offset

-- A text, and the unit of its offsets.
pub record Counted : Type 0 where
  pub unit : OffsetUnit
  pub text : List ℕ
