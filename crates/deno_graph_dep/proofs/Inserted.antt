-- Inserting an entry into entries in the order of their keys.
use Rattle.std.proofs.Common.{◌≡◌, ℕ, true, false, cond, List, [], ◌∷◌, Some, None, refl, sym, ap, subst, ◌∙◌}
use Rattle.std.proofs.Common.{⊎_elim}
use Rattle.std.specs.Cmp.Lexicographic.{slice_cmp}
use Rattle.std.specs.List.{AllByRecursion}
use Rattle.std.specs.List.Sorted.{IsStrictlySortedBy}
use Rattle.std.specs.Map.{keys_of}
use Rattle.std.specs.Ordering.{nat_cmp, is_eq, match_ordering, ordering_reverse}
use Rattle.std.specs.declared.cmp.Ordering.{Ordering}
use Rattle.std.specs.declared.cmp.Ordering.TheVariants.{Less, Equal, Greater}
use Rattle.std.specs.Str.{bytes_eq}
use Rattle.std.proofs.lemmas.Bool.{cases_Bool, false≢true}
use Rattle.std.proofs.lemmas.Cmp.{nat_list_cmp_total}
use Rattle.std.proofs.lemmas.Map.Text.{is_eq-slice_cmp}
use Rattle.std.proofs.lemmas.Slice.Eq.{bytes_eq-Decides}
use Rattle.deno_graph_base.specs.TextMap.{value_at, insert_entry, IsAscending}
use Rattle.deno_graph_info.specs.declared.analysis.import_attributes.ImportAttribute.{ImportAttribute}
use Rattle.deno_graph_dep.specs.Attributes.{Entries}
use Rattle.deno_graph_dep.specs.internal.AttributeSteps.{Puts}

-- the order of keys
abbrev order : List ℕ → List ℕ → Ordering
order = slice_cmp nat_cmp

same_key : (k : List ℕ) → bytes_eq k k ≡ true
same_key k = (bytes_eq-Decides k k).1 refl

equal_is : (k l : List ℕ) → order k l ≡ Equal → bytes_eq k l ≡ true
equal_is k l is = sym (is_eq-slice_cmp k l) ∙ ap is_eq is

greater_is : (k l : List ℕ) → order k l ≡ Greater → bytes_eq k l ≡ false
greater_is k l is = sym (is_eq-slice_cmp k l) ∙ ap is_eq is

other_way : (k l : List ℕ) → order k l ≡ Greater → order l k ≡ Less
other_way k l is = nat_list_cmp_total.antisymm l k ∙ ap ordering_reverse is

differs : (k l : List ℕ) → bytes_eq k l ≡ false → bytes_eq l k ≡ false
differs k l is =
    ⊎_elim (λ e. absurd (false≢true (sym is ∙ ap (bytes_eq k) ((bytes_eq-Decides l k).0 e) ∙ same_key k)))
    (λ e. e) (cases_Bool (bytes_eq l k))

module _ (k : List ℕ) (v : ImportAttribute) where
  -- the value is at the key
  here : (es : Entries) → value_at (insert_entry es k v) k ≡ Some v
  here [] = ap (λ b. cond b (Some v) None) (same_key k)
  here (e ∷ es) = by (order k e.0) refl (here es)
    where
      by : (r : Ordering) → order k e.0 ≡ r → value_at (insert_entry es k v) k ≡ Some v
          → value_at (match_ordering r ((k, v) ∷ e ∷ es) ((e.0, v) ∷ es) (e ∷ insert_entry es k v)) k ≡ Some v
      by Less is rest = ap (λ b. cond b (Some v) (value_at (e ∷ es) k)) (same_key k)
      by Equal is rest = ap (λ b. cond b (Some v) (value_at es k)) (equal_is k e.0 is)
      by Greater is rest =
          ap (λ b. cond b (Some e.1) (value_at (insert_entry es k v) k)) (greater_is k e.0 is) ∙ rest

  -- every other key has the value that it had
  elsewhere : (other : List ℕ) → bytes_eq other k ≡ false → (es : Entries)
      → value_at (insert_entry es k v) other ≡ value_at es other
  elsewhere other apart [] = ap (λ b. cond b (Some v) None) apart
  elsewhere other apart (e ∷ es) = by (order k e.0) refl (elsewhere other apart es)
    where
      by : (r : Ordering) → order k e.0 ≡ r → value_at (insert_entry es k v) other ≡ value_at es other
          → value_at (match_ordering r ((k, v) ∷ e ∷ es) ((e.0, v) ∷ es) (e ∷ insert_entry es k v)) other
          ≡ value_at (e ∷ es) other
      by Less is rest = ap (λ b. cond b (Some v) (value_at (e ∷ es) other)) apart
      by Equal is rest =
          let same : k ≡ e.0 = (bytes_eq-Decides k e.0).0 (equal_is k e.0 is) in
          let away : bytes_eq other e.0 ≡ false = ap (bytes_eq other) (sym same) ∙ apart in
          ap (λ b. cond b (Some v) (value_at es other)) away
          ∙ sym (ap (λ b. cond b (Some e.1) (value_at es other)) away)
      by Greater is rest = ap (λ o. cond (bytes_eq other e.0) (Some e.1) o) rest

  -- a property of the new key and of all old keys is one of all new keys
  all_keys : (P : List ℕ → Type 0) (es : Entries) → P k → AllByRecursion P (keys_of es)
      → AllByRecursion P (keys_of (insert_entry es k v))
  all_keys P [] holds all = (holds, tt)
  all_keys P (e ∷ es) holds all = by (order k e.0) (all_keys P es holds all.1)
    where
      by : (r : Ordering) → AllByRecursion P (keys_of (insert_entry es k v))
          → AllByRecursion P
          (keys_of (match_ordering r ((k, v) ∷ e ∷ es) ((e.0, v) ∷ es) (e ∷ insert_entry es k v)))
      by Less rest = (holds, all)
      by Equal rest = all
      by Greater rest = (all.0, rest)

  above : (l : List ℕ) (ls : List (List ℕ)) → order k l ≡ Less
      → AllByRecursion (λ m. order l m ≡ Less) ls → AllByRecursion (λ m. order k m ≡ Less) ls
  above l [] is all = tt
  above l (m ∷ ls) is all = (nat_list_cmp_total.trans k l m is all.0, above l ls is all.1)

  -- the keys ascend
  ascends : (es : Entries) → IsAscending es → IsAscending (insert_entry es k v)
  unfolding IsStrictlySortedBy
  ascends [] up = (tt, tt)
  ascends (e ∷ es) up = by (order k e.0) refl (ascends es up.1)
    where
      by : (r : Ordering) → order k e.0 ≡ r → IsAscending (insert_entry es k v)
          → IsAscending (match_ordering r ((k, v) ∷ e ∷ es) ((e.0, v) ∷ es) (e ∷ insert_entry es k v))
      by Less is rest = ((is, above e.0 (keys_of es) is up.0), up)
      by Equal is rest = up
      by Greater is rest = (all_keys (λ m. order e.0 m ≡ Less) es (other_way k e.0 is) up.0, rest)

-- entries in order stay in order with a new entry
pub Puts-inserted : (es : Entries) (k : List ℕ) (v : ImportAttribute) → IsAscending es
    → Puts es (insert_entry es k v) k v
Puts-inserted es k v up = record {
  ascending = ascends k v es up;
  values = λ other. ⊎_elim (at other) (away other) (cases_Bool (bytes_eq k other));
}
  where
    at : (other : List ℕ) → bytes_eq k other ≡ true
        → value_at (insert_entry es k v) other ≡ cond (bytes_eq k other) (Some v) (value_at es other)
    at other is =
        let same : k ≡ other = (bytes_eq-Decides k other).0 is in
        subst (λ l. value_at (insert_entry es k v) l ≡ Some v) same (here k v es)
        ∙ sym (ap (λ b. cond b (Some v) (value_at es other)) is)

    away : (other : List ℕ) → bytes_eq k other ≡ false
        → value_at (insert_entry es k v) other ≡ cond (bytes_eq k other) (Some v) (value_at es other)
    away other is =
        elsewhere k v other (differs k other is) es
        ∙ sym (ap (λ b. cond b (Some v) (value_at es other)) is)
