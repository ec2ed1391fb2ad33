-- Maps with texts as keys: the lists of their entries, in the order of the keys' bytes.
use Rattle.std.specs.Prelude.{ℕ, List, map, Option, String}
use Rattle.std.specs.BTreeMap.{BTreeMap, insert_entry as inserted}
use Rattle.std.specs.Cmp.Lexicographic.{slice_cmp}
use Rattle.std.specs.List.Sorted.{IsStrictlySortedBy}
use Rattle.std.specs.Map.{keys_of, lookup}
use Rattle.std.specs.Ordering.{nat_cmp}
use Rattle.std.specs.Str.{bytes_eq}
use Rattle.std.specs.String.{string_bytes}

module _ {V : Type 0} where
  -- an entry, with its key as bytes
  abbrev pub entry_of : {Z : Type 0} → String Z × V → List ℕ × V
  entry_of e = (string_bytes e.0, e.1)

  -- the entries of a map, in the order of the keys
  abbrev pub entries_of : {Z : Type 0} → BTreeMap (String Z) V → List (List ℕ × V)
  entries_of m = map entry_of m.entries

  -- the value at a key, if there is one
  abbrev pub value_at : List (List ℕ × V) → List ℕ → Option V
  value_at entries key = lookup (bytes_eq key) entries

  -- the entries with this value at a key: in place of the old value, or as a new entry in order
  abbrev pub insert_entry : List (List ℕ × V) → List ℕ → V → List (List ℕ × V)
  insert_entry entries key value = inserted (slice_cmp nat_cmp) entries key value

  -- the keys strictly ascend, compared byte by byte
  abbrev pub IsAscending : List (List ℕ × V) → Type 0
  IsAscending entries = IsStrictlySortedBy (slice_cmp nat_cmp) (keys_of entries)
