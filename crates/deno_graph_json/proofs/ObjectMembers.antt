-- The members of an object, one after another, and the look-up of each by its key.
use Rattle.std.proofs.Common.{◌≡◌, ℕ, ◌≤◌, List, [], ◌∷◌, ◌++◌, Some, arith, sym, ap, subst, ◌∙◌}
use Rattle.std.proofs.Common.{append_assoc}
use Rattle.std.proofs.lemmas.Cmp.{nat_list_cmp_total, tied_itself}
use Rattle.std.specs.Cmp.Lexicographic.{slice_cmp}
use Rattle.std.specs.List.{AllByRecursion}
use Rattle.std.specs.List.Sorted.{IsStrictlySortedBy}
use Rattle.std.specs.Map.{keys_of}
use Rattle.std.specs.Ordering.{nat_cmp, ordering_reverse}
use Rattle.std.specs.declared.cmp.Ordering.TheVariants.{Less, Greater}
use Rattle.serde_json.specs.Data.{Members, depth, members_depth}
use Rattle.serde_json.specs.Find.{get_member}
use Rattle.deno_graph_base.specs.TextMap.{IsAscending}
use Rattle.deno_graph_json.specs.Data.{data_of, named_data}
use Rattle.deno_graph_json.specs.declared.flat.Element.{Element}

abbrev pub Entry : Type 0
Entry = List ℕ × Element

-- a property of all keys holds of this one
key_among : (P : List ℕ → Type 0) (front : List Entry) (e : Entry) (rest : List Entry)
    → AllByRecursion P (keys_of (front ++ e ∷ rest)) → P e.0
key_among P [] e rest h = h.0
key_among P (f ∷ front) e rest h = key_among P front e rest h.1

-- a member is found by its key, after members whose keys are below it
found_after : (front : List Entry) (e : Entry) (rest : List Entry) → IsAscending (front ++ e ∷ rest)
    → get_member e.0 (named_data (front ++ e ∷ rest)) ≡ Some (data_of e.1)
unfolding IsStrictlySortedBy
found_after [] e rest sorted = rw (tied_itself nat_list_cmp_total e.0)
found_after (f ∷ front) e rest sorted =
    let below = key_among (λ k. slice_cmp nat_cmp f.0 k ≡ Less) front e rest sorted.0 in
    let above : slice_cmp nat_cmp e.0 f.0 ≡ Greater =
    nat_list_cmp_total.antisymm e.0 f.0 ∙ ap ordering_reverse below in
    rw above (found_after front e rest sorted.1)

depth_among : (front : List Entry) (e : Entry) (rest : List Entry)
    → depth (data_of e.1) ≤ members_depth (named_data (front ++ e ∷ rest))
depth_among [] e rest = omega arith
depth_among (f ∷ front) e rest = omega (arith, depth_among front e rest)

-- `left` are the last of all members, whose keys ascend
pub record IsRest (all : Members) (left : List Entry) : Type 0 where
  pub front : List Entry
  pub whole : all ≡ named_data (front ++ left)
  pub sorted : IsAscending (front ++ left)

-- before the first, all are left
pub rest_begin : (all : Members) (found left : List Entry) → named_data found ≡ all → IsAscending found
    → left ≡ found → IsRest all left
rest_begin all found left is ordered same = rw same (record {
  front = [];
  whole = sym is;
  sorted = ordered;
})

module _ (all : Members) (left rest : List Entry) (e : Entry) (h : IsRest all left) (first : left ≡ e ∷ rest)
  where
    whole_now : all ≡ named_data (h.front ++ e ∷ rest)
    whole_now = h.whole ∙ ap (λ es. named_data (h.front ++ es)) first

    sorted_now : IsAscending (h.front ++ e ∷ rest)
    sorted_now = subst (λ es. IsAscending (h.front ++ es)) first h.sorted

    -- after one more, those after it are left
    pub rest_next : IsRest all rest
    rest_next = let same = append_assoc h.front (e ∷ []) rest in record {
      front = h.front ++ e ∷ [];
      whole = whole_now ∙ ap named_data (sym same);
      sorted = subst IsAscending (sym same) sorted_now;
    }

    -- the next one is found by its key
    pub rest_here : get_member e.0 all ≡ Some (data_of e.1)
    rest_here = rw whole_now (found_after h.front e rest sorted_now)

    pub depth_of_member : depth (data_of e.1) ≤ members_depth all
    depth_of_member = rw whole_now (depth_among h.front e rest)
