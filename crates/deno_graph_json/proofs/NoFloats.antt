-- What is written has no float.
use Rattle.std.proofs.Common.{◌≡◌, ℕ, List, [], ◌∷◌, map, Bool, true, false, ◌||◌, Option, Some, None}
use Rattle.std.proofs.Common.{option_map, refl}
use Rattle.std.specs.Ordering.{nat_cmp, match_ordering}
use Rattle.std.specs.Cmp.Lexicographic.{slice_cmp}
use Rattle.std.specs.declared.cmp.Ordering.{Ordering}
use Rattle.std.specs.declared.cmp.Ordering.TheVariants.{Less, Equal, Greater}
use Rattle.serde_json.specs.Data.{Data, Members, no_members, member, put}
use Rattle.serde_json.specs.View.{items_of}
use Rattle.serde_json.specs.Written.{has_float, items_have_float, members_have_float}
use Rattle.deno_graph_json.specs.Object.{Entry, put_present, put_entries, object_of, map_entries}
use Rattle.deno_graph_json.specs.Object.{map_object_of, array_of, if_any, if_true}

-- a value is present, and has a float
abbrev pub option_has_float : Option Data → Bool
option_has_float None = false
option_has_float (Some d) = has_float d

-- the value of some entry has a float
abbrev pub entries_have_float : List Entry → Bool
entries_have_float [] = false
entries_have_float (e ∷ es) = option_has_float e.1 || entries_have_float es

pub neither : (a b : Bool) → a ≡ false → b ≡ false → a || b ≡ false
neither a b none others = rw none others

pub first_none : (a b : Bool) → a || b ≡ false → a ≡ false
first_none true b h = h
first_none false b h = refl

pub others_none : (a b : Bool) → a || b ≡ false → b ≡ false
others_none true b h = absurd (cc)
others_none false b h = h

no_float-at : (k l : List ℕ) (d e : Data) (ms rest : Members) (o : Ordering) → has_float d ≡ false
    → has_float e ≡ false → members_have_float ms ≡ false → members_have_float rest ≡ false
    → members_have_float (match_ordering o (member k d (member l e ms)) (member l d ms)
    (member l e rest)) ≡ false
no_float-at k l d e ms rest Less none here later put_later = neither _ _ none (neither _ _ here later)
no_float-at k l d e ms rest Equal none here later put_later = neither _ _ none later
no_float-at k l d e ms rest Greater none here later put_later = neither _ _ here put_later

pub no_float-put : (k : List ℕ) (d : Data) (ms : Members) → has_float d ≡ false
    → members_have_float ms ≡ false → members_have_float (put k d ms) ≡ false
no_float-put k d no_members none h = neither _ _ none refl
no_float-put k d (member l e ms) none h =
    let later = others_none (has_float e) (members_have_float ms) h in
    no_float-at k l d e ms (put k d ms) (slice_cmp nat_cmp k l) none
    (first_none (has_float e) (members_have_float ms) h) later (no_float-put k d ms none later)

no_float-put_present : (k : List ℕ) (o : Option Data) (ms : Members) → option_has_float o ≡ false
    → members_have_float ms ≡ false → members_have_float (put_present k o ms) ≡ false
no_float-put_present k None ms none h = h
no_float-put_present k (Some d) ms none h = no_float-put k d ms none h

no_float-put_entries : (es : List Entry) (ms : Members) → entries_have_float es ≡ false
    → members_have_float ms ≡ false → members_have_float (put_entries es ms) ≡ false
no_float-put_entries [] ms none h = h
no_float-put_entries (e ∷ es) ms none h =
    no_float-put_entries es (put_present e.0 e.1 ms)
    (others_none (option_has_float e.1) (entries_have_float es) none)
    (no_float-put_present e.0 e.1 ms (first_none (option_has_float e.1) (entries_have_float es) none) h)

-- the object of a list of entries
pub no_float-object_of : (es : List Entry) → entries_have_float es ≡ false → has_float (object_of es) ≡ false
no_float-object_of es none = no_float-put_entries es no_members none refl

-- a flag
pub no_float-if_true : (b : Bool) → option_has_float (if_true b) ≡ false
no_float-if_true true = refl
no_float-if_true false = refl

module _ {A : Type 0} (f : A → Data) (none : (x : A) → has_float (f x) ≡ false) where
  no_float-items : (xs : List A) → items_have_float (items_of (map f xs)) ≡ false
  no_float-items [] = refl
  no_float-items (x ∷ xs) = neither _ _ (none x) (no_float-items xs)

  -- an array
  pub no_float-array_of : (xs : List A) → has_float (array_of f xs) ≡ false
  no_float-array_of xs = no_float-items xs

  -- an array that is left out if it is empty
  pub no_float-if_any : (xs : List A) → option_has_float (option_map (array_of f) (if_any xs)) ≡ false
  no_float-if_any [] = refl
  no_float-if_any (x ∷ xs) = no_float-items (x ∷ xs)

  -- a value that is left out if there is none
  pub no_float-option : (o : Option A) → option_has_float (option_map f o) ≡ false
  no_float-option None = refl
  no_float-option (Some x) = none x

  no_float-map_entries : (es : List (List ℕ × A)) → entries_have_float (map_entries f es) ≡ false
  no_float-map_entries [] = refl
  no_float-map_entries (e ∷ es) = neither _ _ (none e.1) (no_float-map_entries es)

  -- the object of a map
  pub no_float-map_object_of : (es : List (List ℕ × A)) → has_float (map_object_of f es) ≡ false
  no_float-map_object_of es = no_float-object_of (map_entries f es) (no_float-map_entries es)
