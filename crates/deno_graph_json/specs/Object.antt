-- An object by its entries: each key with its value, or with none if the member is left out.
use Rattle.std.specs.Prelude.{ℕ, List, [], ◌∷◌, map, Bool, true, false, not, Option, Some, None}
use Rattle.serde_json.specs.Data.{Data, boolean, array, object, Members, no_members, put}
use Rattle.serde_json.specs.View.{items_of}

-- a key, and its value or none
abbrev pub Entry : Type 0
Entry = List ℕ × Option Data

-- a state S to which `with_member` adds a member
module _ {S : Type 0} (with_member : List ℕ → Data → S → S) where
  -- the state with a member, if there is a value
  abbrev pub with_present : List ℕ → Option Data → S → S
  with_present k None s = s
  with_present k (Some d) s = with_member k d s

  -- the state with a member for each entry that has a value, one after another
  abbrev pub with_entries : List Entry → S → S
  with_entries [] s = s
  with_entries (e ∷ es) s = with_entries es (with_present e.0 e.1 s)

-- the members, with the value at the key, if there is a value
abbrev pub put_present : List ℕ → Option Data → Members → Members
put_present = with_present put

-- the members, with each entry that has a value
abbrev pub put_entries : List Entry → Members → Members
put_entries = with_entries put

-- the object with a member for each entry that has a value
abbrev pub object_of : List Entry → Data
object_of es = object (put_entries es no_members)

-- the array of the items, each as JSON, in order
abbrev pub array_of : {A : Type 0} → (A → Data) → List A → Data
array_of f xs = array (items_of (map f xs))

-- the entries of a map, each value as JSON
abbrev pub map_entries : {A : Type 0} → (A → Data) → List (List ℕ × A) → List Entry
map_entries f es = map (λ e. (e.0, Some (f e.1))) es

-- the object of a map: a member for each entry
abbrev pub map_object_of : {A : Type 0} → (A → Data) → List (List ℕ × A) → Data
map_object_of f es = object_of (map_entries f es)

-- a value that is left out if the test holds
abbrev pub unless : {A : Type 0} → Bool → A → Option A
unless true x = None
unless false x = Some x

-- a bool that is left out if it is false
abbrev pub if_true : Bool → Option Data
if_true b = unless (not b) (boolean b)

-- a list that is left out if it is empty
abbrev pub if_any : {A : Type 0} → List A → Option (List A)
if_any [] = None
if_any (x ∷ xs) = Some (x ∷ xs)
