-- Reading the members of an object as a map.
use Rattle.std.proofs.Common.{◌≡◌, ℕ, List, [], ◌∷◌, ◌++◌, Option, Some, refl, sym, ap, subst, ◌∙◌}
use Rattle.std.proofs.Common.{append-nil}
use Rattle.std.proofs.lemmas.Cmp.{nat_list_cmp_total}
use Rattle.std.specs.Cmp.Lexicographic.{slice_cmp}
use Rattle.std.specs.List.{AllByRecursion}
use Rattle.std.specs.List.Sorted.{IsStrictlySortedBy}
use Rattle.std.specs.Map.{keys_of}
use Rattle.std.specs.Ordering.{nat_cmp, ordering_reverse}
use Rattle.std.specs.declared.cmp.Ordering.TheVariants.{Less, Greater}
use Rattle.serde_json.specs.Data.{Data, Members}
use Rattle.deno_graph_base.specs.TextMap.{insert_entry, IsAscending}
use Rattle.deno_graph_json.proofs.ObjectMembers.{Entry, IsRest, rest_begin, rest_next}
use Rattle.deno_graph_json.proofs.Reading.{step_error, before, before_more, before_nil}
use Rattle.deno_graph_json.specs.Data.{data_of, named_data}
use Rattle.deno_graph_json.specs.Read.Result.{IsReadError}
use Rattle.deno_graph_json.specs.Read.Partial.{reads_members}
use Rattle.deno_graph_json.specs.declared.error.ReadError.{ReadError}

-- keys in ascending order
abbrev AreAscending : List (List ℕ) → Type 0
AreAscending keys = IsStrictlySortedBy (slice_cmp nat_cmp) keys

key_among : (P : List ℕ → Type 0) (front : List (List ℕ)) (key : List ℕ) (rest : List (List ℕ))
    → AllByRecursion P (front ++ key ∷ rest) → P key
key_among P [] key rest h = h.0
key_among P (k ∷ front) key rest h = key_among P front key rest h.1

module _ {A : Type 0} where
  -- a key above all others goes to the end
  insert_entry-last : (front : List (List ℕ × A)) (key : List ℕ) (value : A) (rest : List (List ℕ))
      → AreAscending (keys_of front ++ key ∷ rest) → insert_entry front key value ≡ front ++ (key, value) ∷ []
  unfolding IsStrictlySortedBy
  insert_entry-last [] key value rest h = refl
  insert_entry-last (e ∷ front) key value rest h =
      let below = key_among (λ k. slice_cmp nat_cmp e.0 k ≡ Less) (keys_of front) key rest h.0 in
      let above : slice_cmp nat_cmp key e.0 ≡ Greater =
      nat_list_cmp_total.antisymm key e.0 ∙ ap ordering_reverse below in
      rw above (ap (λ es. e ∷ es) (insert_entry-last front key value rest h.1))

  keys_of-more : (front : List (List ℕ × A)) (key : List ℕ) (value : A) (rest : List (List ℕ))
      → keys_of (front ++ (key, value) ∷ []) ++ rest ≡ keys_of front ++ key ∷ rest
  keys_of-more [] key value rest = refl
  keys_of-more (e ∷ front) key value rest = ap (λ ks. e.0 ∷ ks) (keys_of-more front key value rest)

module _ {A : Type 0} (reads : Data → Option A) (all : Members) where
  -- the entries that were read, followed by the members that are left
  pub record IsSoFar (read : List (List ℕ × A)) (left : List Entry) : Type 0 where
    pub values : reads_members reads all ≡ before read (reads_members reads (named_data left))
    pub ordered : AreAscending (keys_of read ++ keys_of left)
    pub passed : IsRest all left

  -- before the first entry
  pub members_begin : (found left : List Entry) (read : List (List ℕ × A)) → named_data found ≡ all
      → IsAscending found → left ≡ found → read ≡ [] → IsSoFar read left
  members_begin found left read is ordered whole none = rw (whole, none) (record {
    values = sym (before_nil (reads_members reads all))
        ∙ ap (λ ms. before [] (reads_members reads ms)) (sym is);
    ordered = ordered;
    passed = rest_begin all found found is ordered refl;
  })

  module _ (read : List (List ℕ × A)) (left : List Entry) (so_far : IsSoFar read left) where
    -- no member is left
    pub members_done : left ≡ [] → reads_members reads all ≡ Some read
    unfolding reads_members
    members_done none =
        so_far.values ∙ ap (λ es. before read (reads_members reads (named_data es))) none
        ∙ ap Some (append-nil read)

    module _ (rest : List Entry) (e : Entry) (first : left ≡ e ∷ rest) where
      values_now : reads_members reads all ≡ before read (reads_members reads (named_data (e ∷ rest)))
      values_now = so_far.values ∙ ap (λ es. before read (reads_members reads (named_data es))) first

      -- after one more entry
      pub member_more : (new : List (List ℕ × A)) (key : List ℕ) (x : A) → reads (data_of e.1) ≡ Some x
          → key ≡ e.0 → new ≡ insert_entry read key x → IsSoFar new rest
      unfolding reads_members
      member_more new key x is same inserts =
          let ordered : AreAscending (keys_of read ++ e.0 ∷ keys_of rest) =
          subst (λ es. AreAscending (keys_of read ++ keys_of es)) first so_far.ordered in
          let made : new ≡ read ++ (e.0, x) ∷ [] =
          inserts ∙ ap (λ k. insert_entry read k x) same
          ∙ insert_entry-last read e.0 x (keys_of rest) ordered in
          let values : before read (reads_members reads (named_data (e ∷ rest))) ≡ before
          (read ++ (e.0, x) ∷ []) (reads_members reads (named_data rest)) =
          rw is (before_more read (e.0, x) (reads_members reads (named_data rest))) in
          rw made (record {
            values = values_now ∙ values;
            ordered = subst AreAscending (sym (keys_of-more read e.0 x (keys_of rest))) ordered;
            passed = rest_next all left rest e so_far.passed first;
          })

      -- if a member can't be read, the map can't
      pub members_error : (value : Data) (error : ReadError) → IsReadError value (reads (data_of e.1)) error
          → IsReadError value (reads_members reads all) error
      unfolding reads_members
      members_error value error h =
          subst (λ o. IsReadError value o error) (sym values_now)
          (step_error value _ _ error (step_error value (reads (data_of e.1)) _ error h))
