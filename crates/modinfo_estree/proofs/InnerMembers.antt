-- Candidates among members that are put, one after another.
use Rattle.std.proofs.Common.{◌≡◌, ℕ, zero, suc, ◌+◌, ◌<◌, Bool, true, false, ◌||◌, true≢false, cond, List}
use Rattle.std.proofs.Common.{[], ◌∷◌, ◌++◌, map, add-one, drop-cons, filter, length, take, drop, get_or, set}
use Rattle.std.proofs.Common.{Option, Some, None, arith, inl, inr, refl, sym, ap, subst, ◌∙◌, Ordering, Less}
use Rattle.std.proofs.Common.{Equal, Greater}
use Rattle.std.proofs.lemmas.Bool.{cases_Bool, cond-true, cond-false}
use Rattle.std.proofs.lemmas.Cmp.{nat_list_cmp_total}
use Rattle.std.proofs.lemmas.Map.Text.{is_eq-slice_cmp}
use Rattle.std.proofs.lemmas.Slice.Eq.{bytes_eq-Decides}
use Rattle.std.specs.Cmp.Lexicographic.{slice_cmp}
use Rattle.std.specs.List.{AllByRecursion, list_any}
use Rattle.std.specs.List.Sorted.{IsStrictlySortedBy}
use Rattle.std.specs.Map.{keys_of}
use Rattle.std.specs.Ordering.{is_eq, match_ordering, nat_cmp, ordering_reverse}
use Rattle.std.specs.Str.{bytes_eq}
use Rattle.deno_graph_base.specs.TextMap.{IsAscending, insert_entry}
use Rattle.serde_json.specs.Data.{Data, null, boolean, number, string, array, object, Members}
use Rattle.deno_graph_json.specs.Data.{data_of, named_data}
use Rattle.deno_graph_json.specs.declared.flat.Element.{Element}
use Rattle.deno_graph_json.proofs.ObjectMembers.{Entry, IsRest, rest_next}
use Rattle.modinfo_estree.specs.internal.Candidates.{entry_of, has_inside, is_inner, is_named}
use Rattle.modinfo_estree.specs.internal.Node.{children_at}
use Rattle.modinfo_estree.specs.Child.{role_of}
use Rattle.modinfo_estree.specs.Node.{and_then, children_in}
use Rattle.modinfo_estree.specs.Source.{EstreeSource}
use Rattle.modinfo_estree.specs.declared.child.Child.{Child}
use Rattle.modinfo_estree.specs.declared.role.Role.{Role}
use Rattle.modinfo_estree.proofs.Nodes.{AreSoFar, member_next, no_member_next}
use Rattle.modinfo_estree.specs.declared.candidates.Candidate.{Candidate}

filter-kept : (x : Entry) (xs : List Entry) → is_inner x ≡ true
    → filter is_inner (x ∷ xs) ≡ x ∷ filter is_inner xs
filter-kept x xs h = cond-true _ _ _ h

filter-dropped : (x : Entry) (xs : List Entry) → is_inner x ≡ false
    → filter is_inner (x ∷ xs) ≡ filter is_inner xs
filter-dropped x xs h = cond-false _ _ _ h

-- ---- keys

-- all keys are above a key
abbrev AreAbove : List ℕ → List Entry → Type 0
AreAbove k es = AllByRecursion (λ l. slice_cmp nat_cmp k l ≡ Less) (keys_of es)

above_less : (k l : List ℕ) (es : List Entry) → slice_cmp nat_cmp k l ≡ Less → AreAbove l es → AreAbove k es
above_less k l [] less h = tt
above_less k l (x ∷ es) less h = (nat_list_cmp_total.trans k l x.0 less h.0, above_less k l es less h.1)

above_equal : (k l : List ℕ) (es : List Entry) → slice_cmp nat_cmp k l ≡ Equal → AreAbove l es → AreAbove k es
above_equal k l [] same h = tt
above_equal k l (x ∷ es) same h =
    (nat_list_cmp_total.congr k l x.0 same ∙ h.0, above_equal k l es same h.1)

above_filtered : (k : List ℕ) (es : List Entry) → AreAbove k es → AreAbove k (filter is_inner es)
above_filtered k [] h = tt
above_filtered k (x ∷ es) h = by (is_inner x) (above_filtered k es h.1)
  where
    by : (b : Bool) → AreAbove k (filter is_inner es)
        → AreAbove k (cond b (x ∷ filter is_inner es) (filter is_inner es))
    by true rest = (h.0, rest)
    by false rest = rest

same_key : (k l : List ℕ) → slice_cmp nat_cmp k l ≡ Equal → bytes_eq k l ≡ true
same_key k l same = sym (is_eq-slice_cmp k l) ∙ ap is_eq same

-- ---- an entry that is inserted

inserted_as : (o : Ordering) (x : Entry) (es : List Entry) (k : List ℕ) (e : Element)
    → slice_cmp nat_cmp k x.0 ≡ o → insert_entry (x ∷ es) k e
    ≡ match_ordering o ((k, e) ∷ x ∷ es) ((x.0, e) ∷ es) (x ∷ insert_entry es k e)
inserted_as o x es k e is =
    ap (λ o. match_ordering o ((k, e) ∷ x ∷ es) ((x.0, e) ∷ es) (x ∷ insert_entry es k e)) is

inserted_first : (k : List ℕ) (e : Element) (es : List Entry) → AreAbove k es
    → insert_entry es k e ≡ (k, e) ∷ es
inserted_first k e [] h = refl
inserted_first k e (x ∷ es) h = inserted_as Less x es k e h.0

above_inserted : (l k : List ℕ) (e : Element) (es : List Entry) → slice_cmp nat_cmp l k ≡ Less
    → AreAbove l es → AreAbove l (insert_entry es k e)
above_inserted l k e [] less h = (less, tt)
above_inserted l k e (x ∷ es) less h = by (slice_cmp nat_cmp k x.0) (above_inserted l k e es less h.1)
  where
    by : (o : Ordering) → AreAbove l (insert_entry es k e)
        → AreAbove l (match_ordering o ((k, e) ∷ x ∷ es) ((x.0, e) ∷ es) (x ∷ insert_entry es k e))
    by Less rest = (less, h)
    by Equal rest = h
    by Greater rest = (h.0, rest)

pub inserted_ascending : (k : List ℕ) (e : Element) (es : List Entry) → IsAscending es
    → IsAscending (insert_entry es k e)
unfolding IsStrictlySortedBy
inserted_ascending k e [] h = (tt, tt)
inserted_ascending k e (x ∷ es) h = by (slice_cmp nat_cmp k x.0) refl (inserted_ascending k e es h.1)
  where
    by : (o : Ordering) → slice_cmp nat_cmp k x.0 ≡ o → IsAscending (insert_entry es k e)
        → IsAscending (match_ordering o ((k, e) ∷ x ∷ es) ((x.0, e) ∷ es) (x ∷ insert_entry es k e))
    by Less less rest = ((less, above_less k x.0 es less h.0), h)
    by Equal same rest = h
    by Greater more rest = (
      above_inserted x.0 k e es (nat_list_cmp_total.antisymm x.0 k ∙ ap ordering_reverse more) h.0,
      rest,
    )

-- ---- candidates among the entries

-- a candidate is inserted among the candidates
pub candidate_inserted : (k : List ℕ) (e : Element) (es : List Entry) → has_inside (data_of e) ≡ true
    → IsAscending es
    → filter is_inner (insert_entry es k e) ≡ insert_entry (filter is_inner es) k e
unfolding IsStrictlySortedBy
candidate_inserted k e [] inner h = filter-kept (k, e) [] inner
candidate_inserted k e (x ∷ es) inner h =
    by (slice_cmp nat_cmp k x.0) refl (is_inner x) refl (candidate_inserted k e es inner h.1)
  where
    by : (o : Ordering) → slice_cmp nat_cmp k x.0 ≡ o → (b : Bool) → is_inner x ≡ b
        → filter is_inner (insert_entry es k e) ≡ insert_entry (filter is_inner es) k e
        → filter is_inner (match_ordering o ((k, e) ∷ x ∷ es) ((x.0, e) ∷ es) (x ∷ insert_entry es k e))
        ≡ insert_entry (cond b (x ∷ filter is_inner es) (filter is_inner es)) k e
    by Less less true is rest = filter-kept (k, e) (x ∷ es) inner
        ∙ ap (λ l. (k, e) ∷ l) (filter-kept x es is)
        ∙ sym (inserted_as Less x (filter is_inner es) k e less)
    by Less less false is rest = filter-kept (k, e) (x ∷ es) inner
        ∙ ap (λ l. (k, e) ∷ l) (filter-dropped x es is)
        ∙ sym (inserted_first k e (filter is_inner es) (above_filtered k es (above_less k x.0 es less h.0)))
    by Equal same true is rest = filter-kept (x.0, e) es inner
        ∙ sym (inserted_as Equal x (filter is_inner es) k e same)
    by Equal same false is rest = filter-kept (x.0, e) es inner
        ∙ ap (λ l. (l, e) ∷ filter is_inner es) (sym ((bytes_eq-Decides k x.0).0 (same_key k x.0 same)))
        ∙ sym (inserted_first k e (filter is_inner es) (above_filtered k es (above_equal k x.0 es same h.0)))
    by Greater more true is rest = filter-kept x (insert_entry es k e) is
        ∙ ap (λ l. x ∷ l) rest
        ∙ sym (inserted_as Greater x (filter is_inner es) k e more)
    by Greater more false is rest = filter-dropped x (insert_entry es k e) is
        ∙ rest

any_rest : (a b : Bool) → (a || b) ≡ false → b ≡ false
any_rest true b h = absurd (true≢false h)
any_rest false b h = h

any_first : (a b : Bool) → a ≡ true → (a || b) ≡ false → ⊥
any_first a b is h = true≢false (sym (ap (λ a. a || b) is) ∙ h)

-- any other value changes no candidate, if none has its name
pub other_inserted : (k : List ℕ) (e : Element) (es : List Entry) → has_inside (data_of e) ≡ false
    → list_any (is_named k) (filter is_inner es) ≡ false
    → filter is_inner (insert_entry es k e) ≡ filter is_inner es
other_inserted k e [] outer none = filter-dropped (k, e) [] outer
other_inserted k e (x ∷ es) outer none =
    by (slice_cmp nat_cmp k x.0) refl (is_inner x) refl none (other_inserted k e es outer)
  where
    by : (o : Ordering) → slice_cmp nat_cmp k x.0 ≡ o → (b : Bool) → is_inner x ≡ b
        → list_any (is_named k) (cond b (x ∷ filter is_inner es) (filter is_inner es)) ≡ false
        → (list_any (is_named k) (filter is_inner es) ≡ false
        → filter is_inner (insert_entry es k e) ≡ filter is_inner es)
        → filter is_inner (match_ordering o ((k, e) ∷ x ∷ es) ((x.0, e) ∷ es) (x ∷ insert_entry es k e))
        ≡ cond b (x ∷ filter is_inner es) (filter is_inner es)
    by Less less b is none rest = filter-dropped (k, e) (x ∷ es) outer
        ∙ ap (λ b. cond b (x ∷ filter is_inner es) (filter is_inner es)) is
    by Equal same true is none rest = absurd (any_first (is_named k x)
        (list_any (is_named k) (filter is_inner es))
        ((bytes_eq-Decides x.0 k).1 (sym ((bytes_eq-Decides k x.0).0 (same_key k x.0 same)))) none)
    by Equal same false is none rest = filter-dropped (x.0, e) es outer
    by Greater more true is none rest = filter-kept x (insert_entry es k e) is
        ∙ ap (λ l. x ∷ l) (rest
        (any_rest (is_named k x) (list_any (is_named k) (filter is_inner es)) none))
    by Greater more false is none rest = filter-dropped x (insert_entry es k e) is
        ∙ rest none

-- ---- a candidate in a list

-- the candidate of a name is replaced
pub replaced_at : (xs : List Candidate) (at : ℕ) (k : List ℕ) (v : Element) (old other new : Candidate)
    → at < length xs → old ≡ get_or xs at old → other ≡ get_or xs at other
    → slice_cmp nat_cmp k old.name.now ≡ Equal → new.name.now ≡ other.name.now → new.value ≡ v
    → map entry_of (set xs at new)
    ≡ map entry_of (take at xs) ++ insert_entry (map entry_of (drop at xs)) k v
replaced_at [] at k v old other new lt here there same named is = absurd (omega (arith, lt))
replaced_at (x ∷ xs) zero k v old other new lt here there same named is =
    (λ i. ((named ∙ ap (λ c. c.name.now) there) i, is i) ∷ map entry_of xs)
    ∙ sym (inserted_as Equal (entry_of x) (map entry_of xs) k v
    (ap (λ c. slice_cmp nat_cmp k c.name.now) (sym here) ∙ same))
replaced_at (x ∷ xs) (suc at) k v old other new lt here there same named is =
    ap (λ l. entry_of x ∷ l)
    (replaced_at xs at k v old other new (omega (arith, lt)) here there same named is)

-- ---- the children in the candidates that are left

and_then_nothing : (o : Option (List Child)) → and_then (Some []) o ≡ o
and_then_nothing None = refl
and_then_nothing (Some children) = refl

module _ (source : EstreeSource) where
  no_child_outside : (role : Role) (value : Data) → has_inside value ≡ false
      → children_at source role value ≡ Some []
  no_child_outside role null outer = refl
  no_child_outside role (boolean b) outer = refl
  no_child_outside role (number x) outer = refl
  no_child_outside role (string s) outer = refl
  no_child_outside role (array items) outer = absurd (true≢false outer)
  no_child_outside role (object ms) outer = absurd (true≢false outer)

module _ (source : EstreeSource) (is_jsx : Bool) where
  -- a member that is no candidate has no child
  passed_over : (x : Entry) (xs : List Entry) → is_inner x ≡ false
      → children_in source is_jsx (named_data (x ∷ xs)) ≡ children_in source is_jsx (named_data xs)
  passed_over x xs outer = member_next source is_jsx (role_of is_jsx x.0) (x ∷ xs) xs x refl refl
      ∙ ap (λ o. and_then o (children_in source is_jsx (named_data xs)))
      (no_child_outside source (role_of is_jsx x.0) (data_of x.1) outer)
      ∙ and_then_nothing (children_in source is_jsx (named_data xs))

  -- The next candidate, and the members after it.
  pub record IsNext (all : Members) (left : List Entry) (e : Entry) (rest : List Entry) : Type 0 where
    pub after : List Entry
    pub here : IsRest all (e ∷ after)
    pub kept : rest ≡ filter is_inner after
    pub same : children_in source is_jsx (named_data left)
        ≡ children_in source is_jsx (named_data (e ∷ after))

  pub next_candidate : (all : Members) (left : List Entry) (e : Entry) (rest : List Entry) → IsRest all left
      → e ∷ rest ≡ filter is_inner left → IsNext all left e rest
  next_candidate all [] e rest h is = cc
  next_candidate all (x ∷ xs) e rest h is =
      elim (cases_Bool (is_inner x)) [
        | inl inner ↦
            let first : e ∷ rest ≡ x ∷ filter is_inner xs = is ∙ filter-kept x xs inner in
            let head : e ≡ x = cc in
            let tail : rest ≡ filter is_inner xs = cc in record {
              after = xs;
              here = subst (λ y. IsRest all (y ∷ xs)) (sym head) h;
              kept = tail;
              same = ap (λ y. children_in source is_jsx (named_data (y ∷ xs))) (sym head);
            }
        | inr outer ↦
            let next = next_candidate all xs e rest (rest_next all (x ∷ xs) xs x h refl)
            (is ∙ filter-dropped x xs outer) in record {
              after = next.after;
              here = next.here;
              kept = next.kept;
              same = passed_over x xs outer ∙ next.same;
            }
      ]

  pub no_candidate : (left : List Entry) → [] ≡ filter is_inner left
      → children_in source is_jsx (named_data left) ≡ Some []
  no_candidate [] is = no_member_next source is_jsx [] refl
  no_candidate (x ∷ xs) is =
      elim (cases_Bool (is_inner x)) [
        | inl inner ↦ let clash : [] ≡ x ∷ filter is_inner xs = is ∙ filter-kept x xs inner in cc
        | inr outer ↦ passed_over x xs outer ∙ no_candidate xs (is ∙ filter-dropped x xs outer)
      ]

-- The children of the candidates so far were read, and these candidates are left.
pub record AreLeft (all : Members) (found : List Entry) (old new : List Child) (source : EstreeSource)
    (is_jsx : Bool) : Type 0 where
  pub left : List Entry
  pub rest : IsRest all left
  pub kept : found ≡ filter is_inner left
  pub so_far : AreSoFar old new (children_in source is_jsx all) (children_in source is_jsx (named_data left))

item_first : (found : List Candidate) (at : ℕ) (item : Candidate) → at < length found
    → item ≡ get_or found at item
    → entry_of item ∷ map entry_of (drop (at + 1) found) ≡ map entry_of (drop at found)
item_first found at item lt here =
    ap (λ x. entry_of x ∷ map entry_of (drop (at + 1) found)) here
    ∙ sym (ap (map entry_of) (drop-cons found at item lt
    ∙ ap (λ n. get_or found at item ∷ drop n found) (sym (add-one at))))

-- the candidate at an index is the next one
pub next_left : (source : EstreeSource) (is_jsx : Bool) (all : Members) (found : List Candidate) (at : ℕ)
    (item : Candidate)
    (old new : List Child) (h : AreLeft all (map entry_of (drop at found)) old new source is_jsx)
    → at < length found → item ≡ get_or found at item
    → IsNext source is_jsx all h.left (entry_of item) (map entry_of (drop (at + 1) found))
next_left source is_jsx all found at item old new h lt here =
    next_candidate source is_jsx all h.left (entry_of item) (map entry_of (drop (at + 1) found)) h.rest
    (item_first found at item lt here ∙ h.kept)
