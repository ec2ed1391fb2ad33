-- The members of an object that were passed, as long as all have one name.
use Rattle.std.proofs.Common.{◌≡◌, ℕ, suc, ◌≤◌, ◌==◌, false, Option, Some, None, is_some, List, arith, refl}
use Rattle.std.proofs.Common.{sym, ap, ◌∙◌, Ordering, Less, Equal, Greater, nat_cmp}
use Rattle.std.proofs.lemmas.Bool.Decides.{nat_tests}
use Rattle.std.proofs.lemmas.Cmp.{nat_list_cmp_total, tied_itself}
use Rattle.std.proofs.lemmas.Map.Text.{is_eq-slice_cmp}
use Rattle.std.proofs.lemmas.Slice.Eq.{bytes_eq-Decides}
use Rattle.std.specs.Borrow.{Bor}
use Rattle.std.specs.Cmp.Lexicographic.{slice_cmp}
use Rattle.std.specs.Ordering.{is_eq, match_ordering}
use Rattle.serde_json.specs.Data.{Data, Members, no_members, member, put}
use Rattle.serde_json.specs.Events.{members_len}
use Rattle.deno_graph_json.specs.Data.{put_members, value_data}
use Rattle.deno_graph_json.specs.Value.{ValueMembers}
use Rattle.deno_graph_json.specs.Value as flat

-- none was passed, or all of this name
abbrev pub IsOne : Option (Bor (List ℕ)) → Members → Type 0
IsOne None passed = passed ≡ no_members
IsOne (Some name) passed = (d : Data) × (passed ≡ member name.now d no_members)

same_text : (k : List ℕ) → slice_cmp nat_cmp k k ≡ Equal
same_text k = tied_itself nat_list_cmp_total k

-- putting a member of the same name
pub put_same : (k l : List ℕ) (d e : Data) → l ≡ k → put k d (member l e no_members) ≡ member l d no_members
put_same k l d e same = rw (same, same_text k) refl

longer_at : (o : Ordering) (k l : List ℕ) (d e : Data) (ms : Members)
    → members_len ms ≤ members_len (put k d ms)
    → suc (members_len ms)
    ≤ members_len (match_ordering o (member k d (member l e ms)) (member l d ms) (member l e (put k d ms)))
longer_at Less k l d e ms h = omega arith
longer_at Equal k l d e ms h = omega arith
longer_at Greater k l d e ms h = omega (arith, h)

longer : (k : List ℕ) (d : Data) (ms : Members) → members_len ms ≤ members_len (put k d ms)
longer k d no_members = omega arith
longer k d (member l e ms) = longer_at (slice_cmp nat_cmp k l) k l d e ms (longer k d ms)

all_longer : (ms : ValueMembers) (found : Members) → members_len found ≤ members_len (put_members ms found)
unfolding value_data
all_longer flat.no_members found = omega arith
all_longer (flat.member k v ms) found =
    let more = longer k (value_data v) found in
    let rest = all_longer ms (put k (value_data v) found) in
    omega (arith, more, rest)

two_at : (o : Ordering) (k l : List ℕ) (d e : Data) → slice_cmp nat_cmp k l ≡ o → (l ≡ k → ⊥)
    → 2 ≤ members_len (match_ordering o (member k d (member l e no_members)) (member l d no_members)
    (member l e (put k d no_members)))
two_at Less k l d e is other = omega arith
two_at Equal k l d e is other =
    absurd (other (sym ((bytes_eq-Decides k l).0 (sym (is_eq-slice_cmp k l) ∙ ap is_eq is))))
two_at Greater k l d e is other = omega arith

-- after a member of another name there are two or more
pub two_names : (k l : List ℕ) (d e : Data) (ms : ValueMembers) (all : Members) → (l ≡ k → ⊥)
    → put_members ms (put k d (member l e no_members)) ≡ all → false ≡ (members_len all == 1)
two_names k l d e ms all other is =
    let two = two_at (slice_cmp nat_cmp k l) k l d e refl other in
    let rest = all_longer ms (put k d (member l e no_members)) in
    grind (arith, nat_tests, two, rest, ap members_len is)

pub counted : (first : Option (Bor (List ℕ))) (passed : Members) → IsOne first passed
    → is_some first ≡ (members_len passed == 1)
counted None passed is = ap (λ ms. members_len ms == 1) (sym is)
counted (Some name) passed is = ap (λ ms. members_len ms == 1) (sym is.1)
