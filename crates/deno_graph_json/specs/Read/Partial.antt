-- Readers: partial functions from JSON data, with no value if the data can't be read.
use Rattle.std.specs.Prelude.{ℕ, ◌^◌, List, [], ◌∷◌, Option, Some, None, option_and_then, nat_lt, Bool, true}
use Rattle.std.specs.Prelude.{false, if◌then◌else◌}
use Rattle.serde_json.specs.Data.{Data, null, Items, no_items, item, Members, no_members, member}
use Rattle.serde_json.specs.Find.{get_member, as_number, as_u64, as_array, as_object}

-- `x ← o` goes on with the value x of o, if there is one
infixl 10 ◌>>=◌
abbrev pub ◌>>=◌ : {A B : Type 0} → Option A → (A → Option B) → Option B
o >>= f = option_and_then f o

-- a whole number from 0 to the largest `usize`
unfoldable pub as_usize : Data → Option ℕ
as_usize d = do
  n ← as_number d >>= as_u64
  if nat_lt n (2 ^ 64) then Some n else None

-- data with a float can't be read
abbrev pub unless_float : Bool → Option (Unit {0})
unless_float true = None
unless_float false = Some tt

-- the items, if there are exactly two
abbrev pub two_items : Items → Option (Data × Data)
two_items no_items = None
two_items (item d no_items) = None
two_items (item d (item e no_items)) = Some (d, e)
two_items (item d (item e (item f ds))) = None

abbrev pub pair_in : Data → Option (Data × Data)
pair_in d = as_array d >>= two_items

module _ {A : Type 0} (reads : Data → Option A) where
  -- `None` for null, else the value as `reads` reads it
  unfoldable pub reads_optional : Data → Option (Option A)
  reads_optional null = Some None
  reads_optional d = do
    x ← reads d
    Some (Some x)

  -- each item as `reads` reads it
  unfoldable pub reads_items : Items → Option (List A)
  reads_items no_items = Some []
  reads_items (item d ds) = do
    x ← reads d
    xs ← reads_items ds
    Some (x ∷ xs)

  -- the items of an array, each as `reads` reads it
  unfoldable pub reads_array : Data → Option (List A)
  reads_array d = do
    items ← as_array d
    reads_items items

  -- the members with their keys, each value as `reads` reads it
  unfoldable pub reads_members : Members → Option (List (List ℕ × A))
  reads_members no_members = Some []
  reads_members (member key d ms) = do
    x ← reads d
    xs ← reads_members ms
    Some ((key, x) ∷ xs)

  -- the members of an object as a map, each value as `reads` reads it
  unfoldable pub reads_map : Data → Option (List (List ℕ × A))
  reads_map d = do
    ms ← as_object d
    reads_members ms

  -- the items of an array of exactly two, each as `reads` reads it
  unfoldable pub reads_pair : Data → Option (A × A)
  reads_pair d = do
    (first, second) ← pair_in d
    x ← reads first
    y ← reads second
    Some (x, y)

  -- the data as `reads` reads them, or the default if there are none
  abbrev pub read_or : A → Option Data → Option A
  read_or default None = Some default
  read_or default (Some d) = reads d

  -- the member at a key, which is required
  unfoldable pub member_at : List ℕ → Members → Option A
  member_at key ms = do
    d ← get_member key ms
    reads d

  -- the member at a key, or the default if there is none
  unfoldable pub member_or : List ℕ → A → Members → Option A
  member_or key default ms = read_or default (get_member key ms)
