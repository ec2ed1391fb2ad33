-- Members whose names ascend: they are put in the order in which they stand.
use Rattle.std.proofs.Common.{◌≡◌, ℕ, List, true, Option, Some, None, true≢false, refl, sym, ap, subst, ◌∙◌}
use Rattle.std.proofs.Common.{Ordering, Less, Equal, Greater}
use Rattle.std.proofs.lemmas.Cmp.{nat_list_cmp_total}
use Rattle.std.specs.Borrow.{Bor}
use Rattle.std.specs.Cmp.Lexicographic.{slice_cmp}
use Rattle.std.specs.Ordering.{nat_cmp, ordering_reverse, is_lt}
use Rattle.serde_json.specs.Data.{Data, Members, no_members, member, put}
use Rattle.deno_graph_json.specs.Data.{data_of}
use Rattle.deno_graph_json.specs.Value as flat
use Rattle.deno_graph_json.specs.View.{value_of}
use Rattle.deno_graph_json.specs.declared.flat.Element.{Element}
use Rattle.deno_graph_info.specs.internal.Chosen.{is_above, text_of}
use Rattle.deno_graph_info.specs.internal.Ordered.{listed}

-- members, and then others
abbrev pub followed_by : Members → Members → Members
followed_by no_members ns = ns
followed_by (member k d ms) ns = member k d (followed_by ms ns)

pub followed_by-nothing : (ms : Members) → followed_by ms no_members ≡ ms
followed_by-nothing no_members = refl
followed_by-nothing (member k d ms) = ap (member k d) (followed_by-nothing ms)

pub followed_by-twice : (ms ns os : Members)
    → followed_by (followed_by ms ns) os ≡ followed_by ms (followed_by ns os)
followed_by-twice no_members ns os = refl
followed_by-twice (member k d ms) ns os = ap (member k d) (followed_by-twice ms ns os)

-- all names are below this one
abbrev pub AreBelow : List ℕ → Members → Type 0
AreBelow k no_members = Unit {0}
AreBelow k (member l d ms) = (slice_cmp nat_cmp l k ≡ Less) × AreBelow k ms

pub above : (k l : List ℕ) → slice_cmp nat_cmp l k ≡ Less → slice_cmp nat_cmp k l ≡ Greater
above k l below = nat_list_cmp_total.antisymm k l ∙ ap ordering_reverse below

-- a name above all others is put last
pub put_last : (k : List ℕ) (d : Data) (ms : Members) → AreBelow k ms
    → put k d ms ≡ followed_by ms (member k d no_members)
put_last k d no_members below = refl
put_last k d (member l e ms) below = rw (above k l below.0) (ap (member l e) (put_last k d ms below.1))

AreBelow-trans : (k l : List ℕ) (ms : Members) → slice_cmp nat_cmp k l ≡ Less → AreBelow k ms → AreBelow l ms
AreBelow-trans k l no_members less below = tt
AreBelow-trans k l (member m d ms) less below =
    (nat_list_cmp_total.trans m k l below.0 less, AreBelow-trans k l ms less below.1)

AreBelow-followed_by : (k : List ℕ) (ms ns : Members) → AreBelow k ms → AreBelow k ns
    → AreBelow k (followed_by ms ns)
AreBelow-followed_by k no_members ns a b = b
AreBelow-followed_by k (member l d ms) ns a b = (a.0, AreBelow-followed_by k ms ns a.1 b)

pub less : (o : Ordering) → is_lt o ≡ true → o ≡ Less
less Less h = refl
less Equal h = absurd (true≢false (sym h))
less Greater h = absurd (true≢false (sym h))

-- ---- members that were passed, as long as their names ascend

-- none was passed, or a name above the last is above all
abbrev pub IsLast : Option (Bor (List ℕ)) → Members → Type 0
IsLast None passed = passed ≡ no_members
IsLast (Some last) passed = (k : List ℕ) → slice_cmp nat_cmp last.now k ≡ Less → AreBelow k passed

below_all : (last : Option (Bor (List ℕ))) (passed : Members) (k : List ℕ) → IsLast last passed
    → is_above (text_of last) k ≡ true → AreBelow k passed
below_all None passed k is test = subst (AreBelow k) (sym is) tt
below_all (Some last) passed k is test = is k (less _ test)

module _ (last : Option (Bor (List ℕ))) (passed : Members) (k : List ℕ) (d : Data) (is : IsLast last passed)
    (test : is_above (text_of last) k ≡ true) where
  -- the next name is the last
  pub next_last : (l : List ℕ) → slice_cmp nat_cmp k l ≡ Less → AreBelow l (put k d passed)
  next_last l less =
      let below = below_all last passed k is test in
      subst (AreBelow l) (sym (put_last k d passed below))
      (AreBelow-followed_by l passed (member k d no_members)
      (AreBelow-trans k l passed less below) (less, tt))

  -- the next member is put after those that were passed
  pub next_listed : (rest : Members)
      → followed_by (put k d passed) rest ≡ followed_by passed (member k d rest)
  next_listed rest =
      ap (λ ms. followed_by ms rest) (put_last k d passed (below_all last passed k is test))
      ∙ followed_by-twice passed (member k d no_members) rest

pub listed_next : (k : List ℕ) (e : Element) (old left : flat.ValueMembers)
    → old ≡ flat.member k (value_of e) left → listed old ≡ member k (data_of e) (listed left)
unfolding data_of
listed_next k e old left is = ap listed is
