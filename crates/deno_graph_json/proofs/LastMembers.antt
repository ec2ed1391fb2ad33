-- Members that are put, one after another: the last of each name stays.
use Rattle.std.proofs.Common.{◌≡◌, ℕ, Bool, true, false, true≢false, if◌then◌else◌, List, [], ◌∷◌, Option}
use Rattle.std.proofs.Common.{Some, option_map, refl, sym, ap, ◌∙◌, subst, Ordering, Less, Equal, Greater}
use Rattle.std.specs.Cmp.Lexicographic.{slice_cmp}
use Rattle.std.specs.Ordering.{match_ordering, nat_cmp}
use Rattle.std.specs.Str.{bytes_eq}
use Rattle.std.proofs.lemmas.Slice.Eq.{bytes_eq-Decides}
use Rattle.deno_graph_base.specs.TextMap.{insert_entry}
use Rattle.serde_json.specs.Data.{Members, member, put}
use Rattle.serde_json.specs.Find.{get_member}
use Rattle.serde_json.proofs.Views.{get_member-put, get_member-put_other}
use Rattle.deno_graph_json.specs.Data.{value_data, put_members, data_of, named_data}
use Rattle.deno_graph_json.specs.Value.{ValueMembers}
use Rattle.deno_graph_json.specs.Value as flat
use Rattle.deno_graph_json.specs.View.{value_of}
use Rattle.deno_graph_json.specs.declared.flat.Element.{Element}

-- the next member is put
pub pass : (k : List ℕ) (e : Element) (old left : ValueMembers) (passed all : Members)
    → old ≡ flat.member k (value_of e) left → put_members old passed ≡ all
    → put_members left (put k (data_of e) passed) ≡ all
unfolding value_data data_of
pass k e old left passed all is so_far = sym (ap (λ ms. put_members ms passed) is) ∙ so_far

-- no member is left
pub all_passed : (left : ValueMembers) (passed all : Members) → left ≡ flat.no_members
    → put_members left passed ≡ all → passed ≡ all
unfolding value_data
all_passed left passed all none so_far = sym (ap (λ ms. put_members ms passed) none) ∙ so_far

-- the member of a name, after the next member is put, whose name is compared
pub found_next : (name key : List ℕ) (e : Element) (found : Option Element) (passed : Members) (same : Bool)
    → bytes_eq key name ≡ same → option_map data_of found ≡ get_member name passed
    → option_map data_of (if same then Some e else found) ≡ get_member name (put key (data_of e) passed)
found_next name key e found passed true is so_far =
    sym (subst (λ n. get_member n (put key (data_of e) passed) ≡ Some (data_of e))
    ((bytes_eq-Decides key name).0 is) (get_member-put key (data_of e) passed))
found_next name key e found passed false is so_far =
    so_far ∙ sym (get_member-put_other name key (data_of e) passed
    (λ same. true≢false (sym ((bytes_eq-Decides key name).1 (sym same)) ∙ is)))

members_at : (o : Ordering) (a b c : List (List ℕ × Element))
    → named_data (match_ordering o a b c) ≡ match_ordering o (named_data a) (named_data b) (named_data c)
members_at Less a b c = refl
members_at Equal a b c = refl
members_at Greater a b c = refl

-- an entry in a map of elements is a member that is put
pub named_insert : (es : List (List ℕ × Element)) (k : List ℕ) (e : Element)
    → named_data (insert_entry es k e) ≡ put k (data_of e) (named_data es)
named_insert [] k e = refl
named_insert (x ∷ es) k e =
    members_at (slice_cmp nat_cmp k x.0) ((k, e) ∷ x ∷ es) ((x.0, e) ∷ es) (x ∷ insert_entry es k e)
    ∙ ap (λ ms. match_ordering (slice_cmp nat_cmp k x.0) (member k (data_of e) (named_data (x ∷ es)))
    (member x.0 (data_of e) (named_data es)) (member x.0 (data_of x.1) ms)) (named_insert es k e)
