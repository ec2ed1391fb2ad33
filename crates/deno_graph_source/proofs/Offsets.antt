-- Entries in ascending order of offsets, and the items so far in a loop over them.
use Rattle.std.proofs.Common.{◌≡◌, ℕ, Bool, true, List, [], ◌∷◌, ◌++◌, Option, Some, map, nat_cmp, ◌∙◌, ap}
use Rattle.std.proofs.Common.{sym, subst}
use Rattle.std.specs.Borrow.{Bor}
use Rattle.std.specs.Cmp.{nat_cmp_total, eq_by_cmp_equiv}
use Rattle.std.specs.List.{slice_get}
use Rattle.std.specs.List.Sorted.{IsStrictlySortedBy}
use Rattle.std.specs.Map.{keys_of}
use Rattle.std.specs.Option.{IsSomeAnd, unwrap_or}
use Rattle.std.specs.Map.Iter.{deref_pair}
use Rattle.std.proofs.lemmas.List.{append-nil, append_assoc}
use Rattle.std.proofs.lemmas.Map.Entries.{lookup_from_place}
use Rattle.std.proofs.lemmas.Map.Keys.{IsDistinct-from_sorted}
use Rattle.deno_graph_source.specs.ByOffset.{all_items, value_at}
use Rattle.deno_graph_source.specs.internal.ByOffset.{HasEqualAt}

-- the value of an entry is the value at its offset
pub value_at_place : {V : Type 0} (entries : List (ℕ × V)) (i pos : ℕ) (value : V)
    → IsStrictlySortedBy nat_cmp (keys_of entries) → slice_get entries i ≡ Some (pos, value)
    → value_at entries pos ≡ Some value
value_at_place entries i pos value sorted at =
    lookup_from_place (eq_by_cmp_equiv nat_cmp_total) entries i pos value
    (IsDistinct-from_sorted nat_cmp (keys_of entries) sorted) at

-- an item of an entry is the item with its index at the entry's offset
pub equal_at_place : {T : Type 0} (eq : T → T → Bool) (entries : List (ℕ × List T)) (i pos number : ℕ)
    (items : List T) (wanted : T) → IsStrictlySortedBy nat_cmp (keys_of entries)
    → slice_get entries i ≡ Some (pos, items)
    → IsSomeAnd (slice_get items number) (λ item. eq item wanted ≡ true)
    → HasEqualAt eq entries pos number wanted
equal_at_place {T} eq entries i pos number items wanted sorted at equal =
    let P : Option (List T) → Type 0 =
    λ o. IsSomeAnd (slice_get (unwrap_or o []) number) (λ item. eq item wanted ≡ true) in
    subst P (sym (value_at_place entries i pos items sorted at)) equal

-- the items of entries with those of one more entry
pub all_items_more : {T : Type 0} (seen : List (Bor ℕ × Bor (List T))) (e : Bor ℕ × Bor (List T))
    → all_items (map deref_pair (seen ++ e ∷ [])) ≡ all_items (map deref_pair seen) ++ e.1.now
all_items_more [] e = append-nil e.1.now
all_items_more (s ∷ seen) e = ap (λ xs. s.1.now ++ xs) (all_items_more seen e) ∙ simp append_assoc
