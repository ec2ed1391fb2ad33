-- The entries of a map with texts as keys, by the bytes of the keys.
use Rattle.std.proofs.Common.{◌≡◌, ℕ, Bool, ◌&&◌, List, [], ◌∷◌, ◌++◌, map, String, refl, sym, ap, subst, ◌∙◌}
use Rattle.std.proofs.Common.{append_assoc}
use Rattle.std.specs.BTreeMap.{insert_entry as inserted}
use Rattle.std.specs.Cmp.Lexicographic.{slice_cmp, pointwise}
use Rattle.std.specs.List.{AllByRecursion}
use Rattle.std.specs.List.Sorted.{IsStrictlySortedBy}
use Rattle.std.specs.Map.{keys_of, lookup}
use Rattle.std.specs.Ordering.{nat_cmp, is_eq, match_ordering, ordering_reverse}
use Rattle.std.specs.declared.cmp.Ordering.{Ordering}
use Rattle.std.specs.declared.cmp.Ordering.TheVariants.{Less, Equal, Greater}
use Rattle.std.specs.String.{string_bytes, string_cmp}
use Rattle.std.proofs.lemmas.Cmp.{nat_list_cmp_total}
use Rattle.std.proofs.lemmas.Map.Text.{is_eq-slice_cmp}
use Rattle.deno_graph_base.specs.TextMap.{entry_of, value_at, insert_entry, IsAscending}

map-match_ordering : {A B : Type 0} (f : A → B) (o : Ordering) (a b c : List A)
    → map f (match_ordering o a b c) ≡ match_ordering o (map f a) (map f b) (map f c)
map-match_ordering f Less a b c = refl
map-match_ordering f Equal a b c = refl
map-match_ordering f Greater a b c = refl

module _ {V Z : Type 0} where
  -- a look-up by strings finds the same value as one by their bytes
  pub lookup-entries : (key : List ℕ) (es : List (String Z × V))
      → lookup (λ k. is_eq (slice_cmp nat_cmp key (string_bytes k))) es ≡ value_at (map entry_of es) key
  lookup-entries key [] = refl
  lookup-entries key (e ∷ es) = rw (is_eq-slice_cmp key (string_bytes e.0), lookup-entries key es)

  -- an insertion by strings makes the same entries as one by their bytes
  pub map-inserted : (es : List (String Z × V)) (key : String Z) (value : V)
      → map entry_of (inserted string_cmp es key value) ≡ insert_entry (map entry_of es) (string_bytes key)
      value
  map-inserted [] key value = refl
  map-inserted (e ∷ es) key value =
      map-match_ordering entry_of (string_cmp key e.0) ((key, value) ∷ e ∷ es) ((e.0, value) ∷ es)
      (e ∷ inserted string_cmp es key value)
      ∙ ap (λ rest. match_ordering (string_cmp key e.0) ((string_bytes key, value) ∷ map entry_of (e ∷ es))
      ((string_bytes e.0, value) ∷ map entry_of es) (entry_of e ∷ rest)) (map-inserted es key value)

  -- the order of the strings is that of their bytes
  all_below : (key : String Z) (es : List (String Z × V))
      → AllByRecursion (λ k. string_cmp key k ≡ Less) (keys_of es)
      → AllByRecursion (λ k. slice_cmp nat_cmp (string_bytes key) k ≡ Less) (keys_of (map entry_of es))
  all_below key [] h = tt
  all_below key (e ∷ es) h = (h.0, all_below key es h.1)

  pub IsAscending-entries : (es : List (String Z × V)) → IsStrictlySortedBy string_cmp (keys_of es)
      → IsAscending (map entry_of es)
  unfolding IsStrictlySortedBy
  IsAscending-entries [] h = tt
  IsAscending-entries (e ∷ es) h = (all_below e.0 es h.0, IsAscending-entries es h.1)

-- the entries of two maps are equal one by one
pub pointwise-map : {A B : Type 0} (f : A → B) (E : B → B → Bool) (xs ys : List A)
    → pointwise E (map f xs) (map f ys) ≡ pointwise (λ x y. E (f x) (f y)) xs ys
pointwise-map f E [] [] = refl
pointwise-map f E [] (y ∷ ys) = refl
pointwise-map f E (x ∷ xs) [] = refl
pointwise-map f E (x ∷ xs) (y ∷ ys) = ap (λ b. E (f x) (f y) && b) (pointwise-map f E xs ys)

module _ {V : Type 0} where
  key_among : (P : List ℕ → Type 0) (front : List (List ℕ × V)) (key : List ℕ) (value : V)
      (rest : List (List ℕ × V)) → AllByRecursion P (keys_of (front ++ (key, value) ∷ rest)) → P key
  key_among P [] key value rest h = h.0
  key_among P (e ∷ front) key value rest h = key_among P front key value rest h.1

  -- an entry with a key above all others is inserted at the end
  pub insert_entry-above : (front : List (List ℕ × V)) (key : List ℕ) (value : V) (rest : List (List ℕ × V))
      → IsAscending (front ++ (key, value) ∷ rest) → insert_entry front key value ≡ front ++ (key, value) ∷ []
  unfolding IsStrictlySortedBy
  insert_entry-above [] key value rest h = refl
  insert_entry-above (e ∷ front) key value rest h =
      let below = key_among (λ k. slice_cmp nat_cmp e.0 k ≡ Less) front key value rest h.0 in
      let above : slice_cmp nat_cmp key e.0 ≡ Greater =
      nat_list_cmp_total.antisymm key e.0 ∙ ap ordering_reverse below in
      rw above (ap (λ es. e ∷ es) (insert_entry-above front key value rest h.1))

  -- the copies with one more entry, where `left` were the remaining entries
  pub copied_more : (all front left rest new : List (List ℕ × V)) (key copy : List ℕ) (value clone : V)
      → IsAscending all → front ++ left ≡ all → left ≡ (key, value) ∷ rest → copy ≡ key → clone ≡ value
      → new ≡ insert_entry front copy clone → new ++ rest ≡ all
  copied_more all front left rest new key copy value clone ascends so_far first same_key same_value inserts =
      let whole : front ++ (key, value) ∷ rest ≡ all = ap (λ l. front ++ l) (sym first) ∙ so_far in
      let above = insert_entry-above front key value rest (subst IsAscending (sym whole) ascends) in
      let made : new ≡ front ++ (key, value) ∷ [] =
      inserts ∙ (λ i. insert_entry front (same_key i) (same_value i)) ∙ above in
      ap (λ l. l ++ rest) made ∙ append_assoc front ((key, value) ∷ []) rest ∙ whole
