-- Where values end, as a set.
use Rattle.std.specs.Prelude.{◌≡◌, ℕ, ◌||◌, Bool, List, map}
use Rattle.std.specs.BTreeSet.{BTreeSet, contains}
use Rattle.std.specs.List.{list_any, range_with_len}
use Rattle.std.specs.Ordering.{nat_cmp}
use Rattle.deno_graph_base.specs.declared.text.position.SourceRange.{SourceRange}
use Rattle.modinfo_estree.specs.ValueEnds.{ends_value}

-- Whether an offset is in a set.
abbrev pub is_among : BTreeSet ℕ → ℕ → Bool
is_among ends at = contains nat_cmp ends at

-- For each of so many offsets, whether it is in a set.
abbrev pub table_of : ℕ → BTreeSet ℕ → List Bool
table_of offsets ends = map (is_among ends) (range_with_len 0 offsets)

-- The ends of values among those at some ranges of a text are in `new`, beside those in `old`.
abbrev pub AreAdded : List ℕ → List SourceRange → BTreeSet ℕ → BTreeSet ℕ → Type 0
AreAdded text ranges old new =
    (at : ℕ) → is_among new at ≡ (is_among old at || list_any (ends_value text at) ranges)
