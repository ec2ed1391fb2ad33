-- Values by an offset: a list of offsets with their values.
use Rattle.std.specs.Prelude.{◌≡◌, ◌≢◌, ℕ, List, [], ◌∷◌, ◌++◌, Option, Some, IsPermutation, slice_get}
use Rattle.std.specs.Prelude.{unwrap_or}
use Rattle.std.specs.List.{flat_map}
use Rattle.std.specs.Map.{lookup, values_of}
use Rattle.std.specs.BTreeMap.{is_at}
use Rattle.std.specs.Ordering.{nat_cmp}

-- the value at an offset, if there is one
abbrev pub value_at : {V : Type 0} → List (ℕ × V) → ℕ → Option V
value_at entries pos = lookup (is_at (nat_cmp pos)) entries

-- the items of the lists at all offsets
abbrev pub all_items : {T : Type 0} → List (ℕ × List T) → List T
all_items entries = flat_map (λ items. items) (values_of entries)

-- the new entries are the old ones with one more item, the last at the offset `pos`
pub record AddsItem {T : Type 0} (old new : List (ℕ × List T)) (pos : ℕ) (item : T) : Type 0 where
  pub added : value_at new pos ≡ Some (unwrap_or (value_at old pos) [] ++ item ∷ [])
  pub others : (q : ℕ) → q ≢ pos → value_at new q ≡ value_at old q
  pub items : IsPermutation (item ∷ all_items old) (all_items new)

-- the item with this index, from zero, at an offset
abbrev pub item_at : {T : Type 0} → List (ℕ × List T) → ℕ → ℕ → Option T
item_at entries pos number = slice_get (unwrap_or (value_at entries pos) []) number
