-- Entries whose keys ascend: their object has the members in the same order.
use Rattle.std.proofs.Common.{◌≡◌, ℕ, List, [], ◌∷◌, Bool, true, false, ◌&&◌, Option, Some, None, true≢false}
use Rattle.std.proofs.Common.{refl, sym, ap, ◌∙◌}
use Rattle.std.proofs.lemmas.Cmp.{nat_list_cmp_total}
use Rattle.std.specs.Cmp.Lexicographic.{slice_cmp}
use Rattle.std.specs.List.{AllByRecursion}
use Rattle.std.specs.List.Sorted.{IsStrictlySortedBy}
use Rattle.std.specs.Map.{keys_of}
use Rattle.std.specs.Ordering.{nat_cmp, ordering_reverse, is_lt}
use Rattle.std.specs.declared.cmp.Ordering.{Ordering}
use Rattle.std.specs.declared.cmp.Ordering.TheVariants.{Less, Equal, Greater}
use Rattle.serde_json.specs.Data.{Data, Members, no_members, member}
use Rattle.deno_graph_base.specs.TextMap.{IsAscending}
use Rattle.deno_graph_json.specs.Ascending.{is_below, has_ascending_keys}
use Rattle.deno_graph_json.specs.Object.{Entry, put_present, put_entries}
use Rattle.deno_graph_json.proofs.Objects.{and_right}

-- ---- the test of entries

and_left : (a b : Bool) → a && b ≡ true → a ≡ true
and_left true b h = refl
and_left false b h = h

less : (o : Ordering) → is_lt o ≡ true → o ≡ Less
less Less h = refl
less Equal h = absurd (true≢false (sym h))
less Greater h = absurd (true≢false (sym h))

below_all : (k : List ℕ) (es : List Entry) → is_below k es ≡ true
    → AllByRecursion (λ l. slice_cmp nat_cmp k l ≡ Less) (keys_of es)
below_all k [] h = tt
below_all k (e ∷ es) h = (less _ (and_left _ _ h), below_all k es (and_right _ _ h))

-- entries that pass the test are in order
pub ascending : (es : List Entry) → has_ascending_keys es ≡ true → IsAscending es
unfolding IsStrictlySortedBy
ascending [] h = tt
ascending (e ∷ es) h = (below_all e.0 es (and_left _ _ h), ascending es (and_right _ _ h))

-- ---- the members

-- a member before the others, if there is a value
abbrev pub first_present : List ℕ → Option Data → Members → Members
first_present k None ms = ms
first_present k (Some d) ms = member k d ms

-- the members of the entries that have a value, in the order of the entries
abbrev pub present : List Entry → Members
present [] = no_members
present (e ∷ es) = first_present e.0 e.1 (present es)

-- a key that is below another stays before it
put_present-above : (k l : List ℕ) (d : Data) (o : Option Data) (ms : Members)
    → slice_cmp nat_cmp k l ≡ Less → put_present l o (member k d ms) ≡ member k d (put_present l o ms)
put_present-above k l d None ms below = refl
put_present-above k l d (Some e) ms below =
    let above : slice_cmp nat_cmp l k ≡ Greater =
    nat_list_cmp_total.antisymm l k ∙ ap ordering_reverse below in
    rw above refl

put_entries-above : (k : List ℕ) (d : Data) (es : List Entry) (ms : Members)
    → AllByRecursion (λ l. slice_cmp nat_cmp k l ≡ Less) (keys_of es)
    → put_entries es (member k d ms) ≡ member k d (put_entries es ms)
put_entries-above k d [] ms below = refl
put_entries-above k d (e ∷ es) ms below =
    ap (put_entries es) (put_present-above k e.0 d e.1 ms below.0)
    ∙ put_entries-above k d es (put_present e.0 e.1 ms) below.1

put_first : (k : List ℕ) (o : Option Data) (es : List Entry)
    → AllByRecursion (λ l. slice_cmp nat_cmp k l ≡ Less) (keys_of es)
    → put_entries es (put_present k o no_members) ≡ first_present k o (put_entries es no_members)
put_first k None es below = refl
put_first k (Some d) es below = put_entries-above k d es no_members below

-- if the keys ascend, the members are in the order of the entries
pub put_entries-present : (es : List Entry) → IsAscending es → put_entries es no_members ≡ present es
unfolding IsStrictlySortedBy
put_entries-present [] h = refl
put_entries-present (e ∷ es) h =
    put_first e.0 e.1 es h.0 ∙ ap (first_present e.0 e.1) (put_entries-present es h.1)
