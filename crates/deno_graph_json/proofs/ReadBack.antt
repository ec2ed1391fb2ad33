-- What is written is read back: entries, lists, maps, flags, positions and modes.
use Rattle.std.proofs.Common.{◌≡◌, ℕ, ◌<◌, ◌^◌, List, [], ◌∷◌, map, Bool, true, false, Option, Some, None}
use Rattle.std.proofs.Common.{option_map, nat_lt, All, refl, ap, ◌∙◌, lt-ltb}
use Rattle.std.proofs.lemmas.List.Elements.{All-head, All-tail}
use Rattle.serde_json.specs.Data.{Data, number, unsigned, no_members}
use Rattle.serde_json.specs.Find.{as_bool}
use Rattle.serde_json.specs.View.{items_of}
use Rattle.deno_graph_base.specs.TextMap.{IsAscending}
use Rattle.deno_graph_base.specs.declared.values.resolution_mode.TypeScriptTypesResolutionMode.{TypeScriptTypesResolutionMode}
use Rattle.deno_graph_base.specs.declared.values.resolution_mode.TypeScriptTypesResolutionMode.TheVariants.{Require}
use Rattle.deno_graph_base.specs.declared.values.resolution_mode.TypeScriptTypesResolutionMode.TheVariants.{Import}
use Rattle.deno_graph_base.specs.declared.text.position.Position.{Position}
use Rattle.deno_graph_base.specs.declared.text.position.PositionRange.{PositionRange}
use Rattle.deno_graph_json.proofs.Ascending.{ascending, present, put_entries-present}
use Rattle.deno_graph_json.proofs.Objects.{get_member-put_entries, has_distinct_keys, entry_at}
use Rattle.deno_graph_json.proofs.Reading.{goes_on}
use Rattle.deno_graph_json.specs.internal.MapEntries.{ascending-map}
use Rattle.deno_graph_json.specs.Json.Position.{IsHeldPosition, IsHeldRange, json_of_position, json_of_range}
use Rattle.deno_graph_json.specs.Json.Position.{reads_position, reads_range}
use Rattle.deno_graph_json.specs.Object.{Entry, put_entries, map_entries, map_object_of, array_of, if_true}
use Rattle.deno_graph_json.specs.Object.{if_any}
use Rattle.deno_graph_json.specs.Read.Partial.{◌>>=◌, as_usize, reads_optional, reads_items, reads_array}
use Rattle.deno_graph_json.specs.Read.Partial.{reads_members, reads_map, reads_pair, read_or, member_at}
use Rattle.deno_graph_json.specs.Read.Partial.{member_or}
use Rattle.deno_graph_json.specs.Json.ResolutionMode.{reads_mode, json_of_mode}

-- ---- any reader

module _ {A : Type 0} (reads : Data → Option A) where
  -- a member of the object of a list of entries is read from the entry
  pub member_at-table : (key : List ℕ) (es : List Entry) (r : Option A) → has_distinct_keys es ≡ true
      → (entry_at key es >>= reads) ≡ r → member_at reads key (put_entries es no_members) ≡ r
  unfolding member_at
  member_at-table key es r distinct is =
      ap (λ o. o >>= reads) (get_member-put_entries key es no_members refl distinct) ∙ is

  pub member_or-table : (key : List ℕ) (default : A) (es : List Entry) (r : Option A)
      → has_distinct_keys es ≡ true → read_or reads default (entry_at key es) ≡ r
      → member_or reads key default (put_entries es no_members) ≡ r
  unfolding member_or
  member_or-table key default es r distinct is =
      ap (read_or reads default) (get_member-put_entries key es no_members refl distinct) ∙ is

  -- after such a member is read, reading goes on with its value
  pub reads_at : {B : Type 0} (key : List ℕ) (f : A → Option B) (r : Option B) (es : List Entry) (x : A)
      → has_distinct_keys es ≡ true → (entry_at key es >>= reads) ≡ Some x → f x ≡ r
      → (member_at reads key (put_entries es no_members) >>= f) ≡ r
  reads_at key f r es x distinct is later =
      goes_on _ f x r (member_at-table key es (Some x) distinct is) later

  pub reads_or : {B : Type 0} (key : List ℕ) (default : A) (f : A → Option B) (r : Option B) (es : List Entry)
      (x : A) → has_distinct_keys es ≡ true → read_or reads default (entry_at key es) ≡ Some x → f x ≡ r
      → (member_or reads key default (put_entries es no_members) >>= f) ≡ r
  reads_or key default f r es x distinct is later =
      goes_on _ f x r (member_or-table key default es (Some x) distinct is) later

  -- if each item is read back, the list is
  pub reads_items-map : (f : A → Data) (P : A → Type 0) → ((x : A) → P x → reads (f x) ≡ Some x)
      → (xs : List A) → All P xs → reads_items reads (items_of (map f xs)) ≡ Some xs
  unfolding reads_items
  reads_items-map f P back [] all = refl
  reads_items-map f P back (x ∷ xs) all =
      goes_on _ _ x _ (back x (All-head P x xs all))
      (goes_on _ _ xs _ (reads_items-map f P back xs (All-tail P x xs all)) refl)

-- ---- maps

module _ {A : Type 0} (reads : Data → Option A) (f : A → Data) (P : A → Type 0)
    (back : (x : A) → P x → reads (f x) ≡ Some x) where
  reads_members-map : (es : List (List ℕ × A)) → All (λ e. P e.1) es
      → reads_members reads (present (map_entries f es)) ≡ Some es
  unfolding reads_members
  reads_members-map [] all = refl
  reads_members-map (e ∷ es) all =
      goes_on _ _ e.1 _ (back e.1 (All-head (λ e. P e.1) e es all))
      (goes_on _ _ es _ (reads_members-map es (All-tail (λ e. P e.1) e es all)) refl)

  -- a map is read back
  pub reads_map-map_object_of : (es : List (List ℕ × A)) → IsAscending es → All (λ e. P e.1) es
      → reads_map reads (map_object_of f es) ≡ Some es
  unfolding reads_map
  reads_map-map_object_of es h all =
      ap (reads_members reads)
      (put_entries-present (map_entries f es) (ascending (map_entries f es) (ascending-map f es h)))
      ∙ reads_members-map es all

  -- a list that is left out if it is empty
  pub list_back : (xs : List A) → All P xs
      → read_or (reads_array reads) [] (option_map (array_of f) (if_any xs)) ≡ Some xs
  unfolding reads_array
  list_back [] all = refl
  list_back (x ∷ xs) all = reads_items-map reads f P back (x ∷ xs) all

-- ---- positions

as_usize-unsigned : (n : ℕ) → n < 2 ^ 64 → as_usize (number (unsigned n)) ≡ Some n
unfolding as_usize
as_usize-unsigned n h = let fits : nat_lt n (2 ^ 64) ≡ true = lt-ltb n (2 ^ 64) h in rw fits

position_back : (p : Position) → IsHeldPosition p → reads_position (json_of_position p) ≡ Some p
unfolding reads_position reads_pair
position_back p h = rw (as_usize-unsigned p.line h.0, as_usize-unsigned p.character h.1)

pub range_back : (r : PositionRange) → IsHeldRange r → reads_range (json_of_range r) ≡ Some r
unfolding reads_range reads_pair
range_back r h = rw (position_back r.start h.0, position_back r.end h.1)

-- ---- flags and modes

-- a flag that is left out if it is false
pub flag_back : (b : Bool) → read_or as_bool false (if_true b) ≡ Some b
flag_back true = refl
flag_back false = refl

-- a mode that is left out if there is none
pub mode_back : (o : Option TypeScriptTypesResolutionMode)
    → read_or (reads_optional reads_mode) None (option_map json_of_mode o) ≡ Some o
unfolding reads_optional reads_mode
mode_back None = refl
mode_back (Some Require) = refl
mode_back (Some Import) = refl
