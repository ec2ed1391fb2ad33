-- A look-up in the object of a list of entries finds the value of the entry.
use Rattle.std.proofs.Common.{◌≡◌, ℕ, List, [], ◌∷◌, Bool, true, false, not, ◌&&◌, ◌||◌, cond, bytes_eq}
use Rattle.std.proofs.Common.{Option, Some, None, if◌then◌else◌, true≢false, refl, sym, ap, ◌∙◌}
use Rattle.std.proofs.lemmas.Slice.Eq.{bytes_eq-Decides}
use Rattle.serde_json.specs.Data.{Data, Members}
use Rattle.serde_json.specs.Find.{get_member}
use Rattle.serde_json.proofs.Views.{get_member-put, get_member-put_other}
use Rattle.deno_graph_json.specs.Object.{Entry, put_present, put_entries}
use Rattle.deno_graph_json.proofs.NoFloats.{first_none, others_none}

-- ---- entries

-- some entry has the key
abbrev pub has_key : List ℕ → List Entry → Bool
has_key k [] = false
has_key k (e ∷ es) = bytes_eq k e.0 || has_key k es

-- no two entries have the same key
abbrev pub has_distinct_keys : List Entry → Bool
has_distinct_keys [] = true
has_distinct_keys (e ∷ es) = not (has_key e.0 es) && has_distinct_keys es

-- the value of the first entry that has the key
abbrev pub entry_at : List ℕ → List Entry → Option Data
entry_at k [] = None
entry_at k (e ∷ es) = if bytes_eq k e.0 then e.1 else entry_at k es

-- ---- look-ups

apart : (k l : List ℕ) → bytes_eq k l ≡ false → k ≡ l → ⊥
apart k l differ same = true≢false (sym ((bytes_eq-Decides k l).1 same) ∙ differ)

and_left : (a b : Bool) → not a && b ≡ true → a ≡ false
and_left true b h = sym h
and_left false b h = refl

pub and_right : (a b : Bool) → a && b ≡ true → b ≡ true
and_right true b h = h
and_right false b h = absurd (true≢false (sym h))

-- the value of another key stays
other_stays : (k l : List ℕ) (o : Option Data) (ms : Members) → bytes_eq k l ≡ false
    → get_member k (put_present l o ms) ≡ get_member k ms
other_stays k l None ms differ = refl
other_stays k l (Some d) ms differ = get_member-put_other k l d ms (apart k l differ)

-- a key that no entry has keeps its value
absent_stays : (k : List ℕ) (es : List Entry) (ms : Members) → has_key k es ≡ false
    → get_member k (put_entries es ms) ≡ get_member k ms
absent_stays k [] ms absent = refl
absent_stays k (e ∷ es) ms absent =
    absent_stays k es (put_present e.0 e.1 ms) (others_none _ _ absent)
    ∙ other_stays k e.0 e.1 ms (first_none _ _ absent)

-- a key that had no value has the value that was put there, if there was one
present_found : (k : List ℕ) (o : Option Data) (ms : Members) → get_member k ms ≡ None
    → get_member k (put_present k o ms) ≡ o
present_found k None ms none = none
present_found k (Some d) ms none = get_member-put k d ms

at_entry : (k : List ℕ) (e : Entry) (es : List Entry) (ms : Members) → get_member k ms ≡ None
    → has_distinct_keys (e ∷ es) ≡ true
    → ((ns : Members) → get_member k ns ≡ None → get_member k (put_entries es ns) ≡ entry_at k es)
    → (same : Bool) → bytes_eq k e.0 ≡ same
    → get_member k (put_entries es (put_present e.0 e.1 ms)) ≡ cond same e.1 (entry_at k es)
at_entry k e es ms none distinct later true is =
    let key : k ≡ e.0 = (bytes_eq-Decides k e.0).0 is in
    let free : has_key k es ≡ false = ap (λ l. has_key l es) key ∙ and_left _ _ distinct in
    absent_stays k es (put_present e.0 e.1 ms) free ∙ ap (λ l. get_member k (put_present l e.1 ms)) (sym key)
    ∙ present_found k e.1 ms none
at_entry k e es ms none distinct later false is =
    later (put_present e.0 e.1 ms) (other_stays k e.0 e.1 ms is ∙ none)

-- if the keys are distinct, each has the value of its entry
pub get_member-put_entries : (k : List ℕ) (es : List Entry) (ms : Members) → get_member k ms ≡ None
    → has_distinct_keys es ≡ true
    → get_member k (put_entries es ms) ≡ entry_at k es
get_member-put_entries k [] ms none distinct = none
get_member-put_entries k (e ∷ es) ms none distinct =
    at_entry k e es ms none distinct (λ ns free. get_member-put_entries k es ns free (and_right _ _ distinct))
    (bytes_eq k e.0) refl
