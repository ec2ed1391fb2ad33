-- Entries whose keys ascend: an entry with a greater key goes to the end.
use Rattle.std.proofs.Common.{◌≡◌, ℕ, List, [], ◌∷◌, ◌++◌, refl, ap, ◌∙◌}
use Rattle.std.specs.declared.cmp.Ordering.TheVariants.{Less, Greater}
use Rattle.std.specs.BTreeMap.{insert_entry}
use Rattle.std.specs.List.{AllByRecursion}
use Rattle.std.specs.List.Sorted.{IsStrictlySortedBy}
use Rattle.std.specs.Map.{keys_of}
use Rattle.std.specs.Ordering.{nat_cmp, ordering_reverse}
use Rattle.std.proofs.lemmas.Cmp.{nat_cmp_total}
use Rattle.std.proofs.lemmas.Map.Keys.{sorted_head, sorted_tail}

at_entry : {X : Type 0} (P : ℕ → Type 0) (es : List (ℕ × X)) (k : ℕ) (v : X) (rest : List (ℕ × X))
    → AllByRecursion P (keys_of (es ++ (k, v) ∷ rest)) → P k
at_entry P [] k v rest h = h.0
at_entry P (e ∷ es) k v rest h = at_entry P es k v rest h.1

-- an entry with a key above all others is inserted at the end
pub insert_entry_last : {X : Type 0} (es : List (ℕ × X)) (k : ℕ) (v : X) (rest : List (ℕ × X))
    → IsStrictlySortedBy nat_cmp (keys_of (es ++ (k, v) ∷ rest)) → insert_entry nat_cmp es k v ≡ es ++ (k, v)
    ∷ []
insert_entry_last [] k v rest sorted = refl
insert_entry_last (e ∷ es) k v rest sorted =
    let below = at_entry (λ y. nat_cmp e.0 y ≡ Less) es k v rest (sorted_head nat_cmp e.0 _ sorted) in
    let above : nat_cmp k e.0 ≡ Greater = nat_cmp_total.antisymm k e.0 ∙ ap ordering_reverse below in
    rw above (ap (λ more. e ∷ more) (insert_entry_last es k v rest (sorted_tail nat_cmp e.0 _ sorted)))
