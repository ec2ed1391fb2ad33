-- The table of offsets in bytes.
use Rattle.std.specs.Prelude.{◌≡◌, ℕ, ◌≤◌, List, length, nat_lt, sum, take, if◌then◌else◌}
use Rattle.modinfo_estree.specs.Offsets.{unit_sizes}
use Rattle.modinfo_estree.specs.declared.offsets.OffsetUnit.{OffsetUnit}
use Rattle.modinfo_estree.specs.declared.offsets.OffsetUnit.TheVariants.{Utf16, Utf8}
use Rattle.modinfo_estree.specs.internal.Tables.{at_32nds}

-- The bytes of the UTF-16 unit that begins with this byte. The second unit of a surrogate pair begins with
-- the third byte of the character.
abbrev pub unit_size : ℕ → ℕ
unit_size byte =
    if nat_lt byte 0x80 then 1 else (if nat_lt byte 0xE0 then 2 else (if nat_lt byte 0xF0 then 3 else 2))

-- The bytes of the first units, by the number of these units.
abbrev pub bytes_of_units : List ℕ → ℕ → ℕ
bytes_of_units sizes units = sum (take units sizes)

-- The first `units` units have this many bytes.
pub record HaveBytes (sizes : List ℕ) (units bytes : ℕ) : Type 0 where
  pub within : units ≤ length sizes
  pub bytes_are : bytes ≡ bytes_of_units sizes units

-- The offsets in bytes of each 32nd unit of a text, where they are needed.
abbrev pub AreByteOffsets : OffsetUnit → List ℕ → List ℕ → Type 0
AreByteOffsets Utf16 text bytes =
    bytes ≡ at_32nds (bytes_of_units (unit_sizes text)) (length (unit_sizes text))
AreByteOffsets Utf8 text bytes = Unit {0}
