-- Entries with one more item, at an offset with a list and at one without.
use Rattle.std.proofs.Common.{◌≡◌, ◌≢◌, ℕ, Bool, true, false, cond, List, [], ◌∷◌, ◌++◌, Some, None}
use Rattle.std.proofs.Common.{IsPermutation, arith}
use Rattle.std.specs.declared.cmp.Ordering.{Ordering}
use Rattle.std.specs.declared.cmp.Ordering.TheVariants.{Less, Equal, Greater}
use Rattle.std.specs.BTreeMap.{insert_entry, is_at}
use Rattle.std.specs.Map.{lookup, set_value}
use Rattle.std.specs.Ordering.{is_eq, match_ordering, nat_cmp}
use Rattle.std.proofs.lemmas.Bool.Decides.{nat_tests}
use Rattle.std.proofs.lemmas.List.{append_assoc}
use Rattle.std.proofs.lemmas.List.Sorted.{IsPermutation-append_left, IsPermutation-append_right}
use Rattle.std.proofs.lemmas.List.Sorted.{IsPermutation-middle, IsPermutation-refl, IsPermutation-sym}
use Rattle.std.proofs.lemmas.List.Sorted.{IsPermutation-trans}
use Rattle.deno_graph_source.specs.ByOffset.{AddsItem, all_items, value_at}

not_at : (pos q : ℕ) → q ≢ pos → is_at (nat_cmp pos) q ≡ false
not_at pos q apart = grind (arith, nat_tests, apart)

module _ {T : Type 0} (item : T) where
  -- the order of an item and a list may be changed
  later : (xs ys : List T) → IsPermutation (item ∷ (xs ++ ys)) (xs ++ (item ∷ ys))
  later xs ys = IsPermutation-sym _ _ (IsPermutation-middle xs item ys)

  at_set : (test : ℕ → Bool) (e : ℕ × List T) (entries : List (ℕ × List T)) (items : List T)
      → (lookup test entries ≡ Some items
      → IsPermutation (item ∷ all_items entries) (all_items (set_value test entries (items ++ item ∷ []))))
      → (b : Bool) → cond b (Some e.1) (lookup test entries) ≡ Some items
      → IsPermutation (item ∷ (e.1 ++ all_items entries))
      (all_items (cond b ((e.0, items ++ item ∷ []) ∷ entries)
      (e ∷ set_value test entries (items ++ item ∷ []))))
  at_set test e entries items more true found =
      let is : e.1 ≡ items = cc in
      rw (is, append_assoc) (later items (all_items entries))
  at_set test e entries items more false found =
      IsPermutation-trans _ _ _ (later e.1 (all_items entries))
      (IsPermutation-append_right e.1 _ _ (more found))

  -- the items of entries in which one list has one more item
  items_set : (test : ℕ → Bool) (entries : List (ℕ × List T)) (items : List T)
      → lookup test entries ≡ Some items
      → IsPermutation (item ∷ all_items entries) (all_items (set_value test entries (items ++ item ∷ [])))
  items_set test [] items found = cc
  items_set test (e ∷ entries) items found =
      at_set test e entries items (items_set test entries items) (test e.0) found

  at_inserted : (e : ℕ × List T) (entries : List (ℕ × List T)) (pos : ℕ)
      → (lookup (is_at (nat_cmp pos)) entries ≡ None
      → IsPermutation (item ∷ all_items entries) (all_items (insert_entry nat_cmp entries pos (item ∷ []))))
      → (o : Ordering) → cond (is_eq o) (Some e.1) (lookup (is_at (nat_cmp pos)) entries) ≡ None
      → IsPermutation (item ∷ (e.1 ++ all_items entries))
      (all_items (match_ordering o ((pos, item ∷ []) ∷ e ∷ entries) ((e.0, item ∷ []) ∷ entries)
      (e ∷ insert_entry nat_cmp entries pos (item ∷ []))))
  at_inserted e entries pos more Less absent = IsPermutation-refl _
  at_inserted e entries pos more Equal absent = cc
  at_inserted e entries pos more Greater absent =
      IsPermutation-trans _ _ _ (later e.1 (all_items entries))
      (IsPermutation-append_right e.1 _ _ (more absent))

  -- the items of entries with a new list of one item
  items_inserted : (entries : List (ℕ × List T)) (pos : ℕ) → lookup (is_at (nat_cmp pos)) entries ≡ None
      → IsPermutation (item ∷ all_items entries) (all_items (insert_entry nat_cmp entries pos (item ∷ [])))
  items_inserted [] pos absent = IsPermutation-refl _
  items_inserted (e ∷ entries) pos absent =
      at_inserted e entries pos (items_inserted entries pos) (nat_cmp pos e.0) absent

  -- entries in which a list has one more item
  pub added_set : (old new : List (ℕ × List T)) (pos : ℕ) (items : List T) → value_at old pos ≡ Some items
      → new ≡ set_value (is_at (nat_cmp pos)) old (items ++ item ∷ [])
      → value_at new pos ≡ Some (items ++ item ∷ [])
      → ((q : ℕ) → is_at (nat_cmp pos) q ≡ false → value_at new q ≡ value_at old q)
      → AddsItem old new pos item
  added_set old new pos items had is here others = record {
    added = rw had here;
    others = λ q apart. others q (not_at pos q apart);
    items = rw is (items_set (is_at (nat_cmp pos)) old items had);
  }

  -- entries with a new list of one item
  pub added_inserted : (old new : List (ℕ × List T)) (pos : ℕ) → value_at old pos ≡ None
      → new ≡ insert_entry nat_cmp old pos (item ∷ []) → value_at new pos ≡ Some (item ∷ [])
      → ((q : ℕ) → is_at (nat_cmp pos) q ≡ false → value_at new q ≡ value_at old q)
      → AddsItem old new pos item
  added_inserted old new pos had is here others = record {
    added = rw had here;
    others = λ q apart. others q (not_at pos q apart);
    items = rw is (items_inserted old pos had);
  }

  -- the items of two lists of entries, with one more item in the first
  pub added_first : (old new others : List (ℕ × List T)) (pos : ℕ) → AddsItem old new pos item
      → IsPermutation (item ∷ (all_items old ++ all_items others)) (all_items new ++ all_items others)
  added_first old new others pos adds = IsPermutation-append_left (all_items others) _ _ adds.items

  -- the items of two lists of entries, with one more item in the second
  pub added_second : (others old new : List (ℕ × List T)) (pos : ℕ) → AddsItem old new pos item
      → IsPermutation (item ∷ (all_items others ++ all_items old)) (all_items others ++ all_items new)
  added_second others old new pos adds =
      IsPermutation-trans _ _ _ (later (all_items others) (all_items old))
      (IsPermutation-append_right (all_items others) _ _ adds.items)
