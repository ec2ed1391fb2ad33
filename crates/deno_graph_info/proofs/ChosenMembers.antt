-- Members around a name in ascending members, and members without a name.
use Rattle.std.proofs.Common.{◌≡◌, ℕ, List, Bool, true, false, not, None, Some, Option, if◌then◌else◌}
use Rattle.std.proofs.Common.{bytes_eq, refl, sym, ap, subst, ◌∙◌, Ordering, Less, Equal, Greater}
use Rattle.std.proofs.lemmas.Cmp.{nat_list_cmp_total, tied_itself}
use Rattle.std.proofs.lemmas.Map.Text.{is_eq-slice_cmp}
use Rattle.std.proofs.lemmas.Slice.Eq.{bytes_eq-Decides}
use Rattle.std.specs.Cmp.Lexicographic.{slice_cmp}
use Rattle.std.specs.Ordering.{nat_cmp, is_eq, match_ordering, ordering_reverse}
use Rattle.serde_json.specs.Data.{Data, Members, no_members, member, put}
use Rattle.deno_graph_json.specs.Data.{members_data, put_members, value_data}
use Rattle.deno_graph_json.specs.Value as flat
use Rattle.deno_graph_json.specs.View.{members_of}
use Rattle.deno_graph_json.specs.declared.flat.Members.{Members as ElementMembers}
use Rattle.deno_graph_info.proofs.OrderedMembers.{above, followed_by}
use Rattle.deno_graph_info.specs.Conversion.{without}
use Rattle.deno_graph_info.specs.internal.Chosen.{chosen, is_other, members_where}

-- all names are above this one
abbrev pub AreAbove : List ℕ → Members → Type 0
AreAbove k no_members = Unit {0}
AreAbove k (member l d ms) = (slice_cmp nat_cmp k l ≡ Less) × AreAbove k ms

-- each name is below those after it
abbrev pub Ascend : Members → Type 0
Ascend no_members = Unit {0}
Ascend (member k d ms) = AreAbove k ms × Ascend ms

AreAbove-trans : (k l : List ℕ) (ms : Members) → slice_cmp nat_cmp k l ≡ Less → AreAbove l ms → AreAbove k ms
AreAbove-trans k l no_members less h = tt
AreAbove-trans k l (member m d ms) less h =
    (nat_list_cmp_total.trans k l m less h.0, AreAbove-trans k l ms less h.1)

below : (k l : List ℕ) → slice_cmp nat_cmp k l ≡ Greater → slice_cmp nat_cmp l k ≡ Less
below k l greater = nat_list_cmp_total.antisymm l k ∙ ap ordering_reverse greater

same_name : (k l : List ℕ) → slice_cmp nat_cmp k l ≡ Equal → k ≡ l
same_name k l is = (bytes_eq-Decides k l).0 (sym (is_eq-slice_cmp k l) ∙ ap is_eq is)

-- ---- what is put ascends

AreAbove-at : (o : Ordering) (m k l : List ℕ) (d e : Data) (ms put_later : Members)
    → slice_cmp nat_cmp m k ≡ Less → AreAbove m (member l e ms) → AreAbove m put_later
    → AreAbove m (match_ordering o (member k d (member l e ms)) (member l d ms) (member l e put_later))
AreAbove-at Less m k l d e ms put_later less h later = (less, h)
AreAbove-at Equal m k l d e ms put_later less h later = h
AreAbove-at Greater m k l d e ms put_later less h later = (h.0, later)

AreAbove-put : (m k : List ℕ) (d : Data) (ms : Members) → slice_cmp nat_cmp m k ≡ Less → AreAbove m ms
    → AreAbove m (put k d ms)
AreAbove-put m k d no_members less h = (less, tt)
AreAbove-put m k d (member l e ms) less h =
    AreAbove-at (slice_cmp nat_cmp k l) m k l d e ms (put k d ms) less h (AreAbove-put m k d ms less h.1)

Ascend-at : (o : Ordering) (k l : List ℕ) (d e : Data) (ms : Members) → slice_cmp nat_cmp k l ≡ o
    → Ascend (member l e ms) → Ascend (put k d ms)
    → Ascend (match_ordering o (member k d (member l e ms)) (member l d ms) (member l e (put k d ms)))
Ascend-at Less k l d e ms is h later = ((is, AreAbove-trans k l ms is h.0), h)
Ascend-at Equal k l d e ms is h later = h
Ascend-at Greater k l d e ms is h later = (AreAbove-put l k d ms (below k l is) h.0, later)

Ascend-put : (k : List ℕ) (d : Data) (ms : Members) → Ascend ms → Ascend (put k d ms)
Ascend-put k d no_members h = (tt, tt)
Ascend-put k d (member l e ms) h =
    Ascend-at (slice_cmp nat_cmp k l) k l d e ms refl h (Ascend-put k d ms h.1)

Ascend-put_members : (ms : flat.ValueMembers) (found : Members) → Ascend found → Ascend (put_members ms found)
unfolding value_data
Ascend-put_members flat.no_members found h = h
Ascend-put_members (flat.member k v ms) found h =
    Ascend-put_members ms (put k (value_data v) found) (Ascend-put k (value_data v) found h)

pub Ascend-members_data : (members : ElementMembers) → Ascend (members_data members)
unfolding members_data
Ascend-members_data members = Ascend-put_members (members_of members) no_members tt

-- ---- the members around a name, except another

module _ (k : List ℕ) (except : Option (List ℕ)) where
  abbrev before : Members → Members
  before = chosen (record { above = None; below = Some k; except = except })

  abbrev after : Members → Members
  after = chosen (record { above = Some k; below = None; except = except })

  abbrev kept : Members → Members
  kept = members_where (is_other except)

  none_before : (ms : Members) → AreAbove k ms → before ms ≡ no_members
  none_before no_members h = refl
  none_before (member l d ms) h =
      let greater : slice_cmp nat_cmp l k ≡ Greater = above l k h.0 in
      rw greater (none_before ms h.1)

  all_after : (ms : Members) → AreAbove k ms → after ms ≡ kept ms
  all_after no_members h = refl
  all_after (member l d ms) h =
      let less : slice_cmp nat_cmp k l ≡ Less = h.0 in
      rw less (ap (λ rest. if is_other except l then member l d rest else rest) (all_after ms h.1))

  module _ (d : Data) (stays : is_other except k ≡ true) where
    around_kept : (l : List ℕ) (e : Data) (ms : Members) (other : Bool) → is_other except l ≡ other
        → followed_by (before ms) (member k d (after ms)) ≡ kept (put k d ms)
        → followed_by (if other then member l e (before ms) else before ms) (member k d (after ms))
        ≡ (if other then member l e (kept (put k d ms)) else kept (put k d ms))
    around_kept l e ms true is later = ap (member l e) later
    around_kept l e ms false is later = later

    around_at : (o : Ordering) (l : List ℕ) (e : Data) (ms : Members) → slice_cmp nat_cmp k l ≡ o
        → Ascend (member l e ms) → followed_by (before ms) (member k d (after ms)) ≡ kept (put k d ms)
        → followed_by (before (member l e ms)) (member k d (after (member l e ms)))
        ≡ kept (match_ordering o (member k d (member l e ms)) (member l d ms)
        (member l e (put k d ms)))
    around_at Less l e ms is h later =
        let all : AreAbove k (member l e ms) = (is, AreAbove-trans k l ms is h.0) in
        rw stays (ap (λ front. followed_by front (member k d (after (member l e ms))))
        (none_before (member l e ms) all) ∙ ap (member k d) (all_after (member l e ms) all))
    around_at Equal l e ms is h later =
        let same : k ≡ l = same_name k l is in
        let back : slice_cmp nat_cmp l k ≡ Equal =
        ap (λ m. slice_cmp nat_cmp m k) (sym same) ∙ tied_itself nat_list_cmp_total k in
        let all : AreAbove k ms = subst (λ m. AreAbove m ms) (sym same) h.0 in
        let here : is_other except l ≡ true = subst (λ m. is_other except m ≡ true) same stays in
        rw (back, is, here) (ap (λ front. followed_by front (member k d (after ms))) (none_before ms all)
        ∙ ap (member k d) (all_after ms all) ∙ ap (λ m. member m d (kept ms)) same)
    around_at Greater l e ms is h later =
        let less : slice_cmp nat_cmp l k ≡ Less = below k l is in
        rw (less, is) (around_kept l e ms (is_other except l) refl later)

    -- the members before and after a name, around a value at the name
    pub around : (ms : Members) → Ascend ms
        → followed_by (before ms) (member k d (after ms)) ≡ kept (put k d ms)
    around no_members h = rw stays refl
    around (member l e ms) h =
        around_at (slice_cmp nat_cmp k l) l e ms refl h (around ms h.1)

-- ---- all members, or all except one

pub kept_all : (ms : Members) → members_where (is_other None) ms ≡ ms
kept_all no_members = refl
kept_all (member k d ms) = ap (member k d) (kept_all ms)

without_at : (k : List ℕ) (d : Data) (rest without_rest : Members) (same : Bool) → rest ≡ without_rest
    → (if not same then member k d rest else rest) ≡ (if same then without_rest else member k d without_rest)
without_at k d rest without_rest true is = is
without_at k d rest without_rest false is = ap (member k d) is

pub kept_without : (x : List ℕ) (ms : Members) → members_where (is_other (Some x)) ms ≡ without x ms
kept_without x no_members = refl
kept_without x (member k d ms) =
    without_at k d (members_where (is_other (Some x)) ms) (without x ms) (bytes_eq x k) (kept_without x ms)

pub chosen_without : (x : List ℕ) (ms : Members)
    → chosen (record { above = None; below = None; except = Some x }) ms ≡ without x ms
chosen_without x no_members = refl
chosen_without x (member k d ms) =
    without_at k d (chosen (record { above = None; below = None; except = Some x }) ms) (without x ms)
    (bytes_eq x k) (chosen_without x ms)
