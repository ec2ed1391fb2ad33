-- Some value is as expected, for each that may be expected.
use Rattle.std.proofs.Common.{◌≡◌, ◌≢◌, ◌^◌, ◌≤◌, ℕ, suc, List, [], ◌∷◌, codes, true, false, bytes_eq, Some}
use Rattle.std.proofs.Common.{true≢false, arith, refl, sym, ◌∙◌, Ordering, Less, Equal, Greater, nat_cmp}
use Rattle.std.specs.Ordering.{is_eq, match_ordering}
use Rattle.std.specs.Cmp.Lexicographic.{slice_cmp}
use Rattle.std.proofs.lemmas.Map.Text.{is_eq-slice_cmp}
use Rattle.std.specs.List.{AllByRecursion}
use Rattle.std.proofs.lemmas.Option.{none-some}
use Rattle.std.proofs.lemmas.Slice.Eq.{bytes_eq-Decides}
use Rattle.serde_json.specs.Data.{null, boolean, number, unsigned, string, array, object, no_items, item}
use Rattle.serde_json.specs.Data.{no_members, member}
use Rattle.serde_json.specs.Find.{get_member}
use Rattle.deno_graph_json.specs.Read.Expected.{IsPossible}
use Rattle.deno_graph_json.specs.Read.Names.{names_in}
use Rattle.deno_graph_json.specs.Read.Partial.{as_usize, reads_pair}
use Rattle.deno_graph_json.specs.declared.expected.Expected.{Expected}
use Rattle.deno_graph_json.specs.declared.expected.Expected.TheVariants as expected
use Rattle.deno_graph_json.specs.declared.names.NameList.{NameList}
use Rattle.deno_graph_json.specs.declared.names.NameList.TheVariants as list

-- ---- A name of each list

has_no_first : (names : List (List ℕ)) → names ≢ [] → (name : List ℕ) × (AllByRecursion
    (λ other. bytes_eq name other ≡ false) names → ⊥)
has_no_first [] some = absurd (some refl)
has_no_first (name ∷ names) some =
    (name, λ no. true≢false (sym ((bytes_eq-Decides name name).1 refl) ∙ no.0))

some_name : (names : NameList) → names_in names ≢ []
some_name list.ResolutionModes same = cc (same)
some_name list.DependencyTypes same = cc (same)
some_name list.StaticKinds same = cc (same)
some_name list.DynamicKinds same = cc (same)
some_name list.PartTypes same = cc (same)
some_name list.ReferenceTypes same = cc (same)
some_name list.MediaTypes same = cc (same)
some_name list.CommentKinds same = cc (same)
some_name list.Kinds same = cc (same)
some_name list.Phases same = cc (same)
some_name list.Callees same = cc (same)
some_name list.Operators same = cc (same)
some_name list.OffsetUnits same = cc (same)
some_name list.OutermostTypes same = cc (same)
some_name list.ProgramTypes same = cc (same)

-- ---- An object with a member of a name

found_at : {A : Type 0} (o : Ordering) (before here after : A) → is_eq o ≡ true
    → match_ordering o before here after ≡ here
found_at Less before here after same = absurd (true≢false (sym same))
found_at Equal before here after same = refl
found_at Greater before here after same = absurd (true≢false (sym same))

has_member : (name : List ℕ) → get_member name (member name null no_members) ≡ Some null
has_member name = found_at (slice_cmp nat_cmp name name) _ (Some null) _
    (is_eq-slice_cmp name name ∙ (bytes_eq-Decides name name).1 refl)

-- ---- All

not_above : (n : ℕ) → suc n ≤ 0 → ⊥
not_above n at_most = search arith

pub possible : (wanted : Expected) → IsPossible wanted
unfolding as_usize reads_pair
possible expected.Bool = (boolean true, tt, λ no. none-some true (sym no))
possible expected.Whole = (number (unsigned 0), tt, λ no. none-some 0 (sym no))
possible expected.Integer = (number (unsigned 0), refl, λ no. true≢false (sym no))
possible expected.Unit = (number (unsigned 0), tt, λ no. not_above 65535 (no 0 refl))
possible expected.String = (string [], tt, λ no. none-some _ (sym no))
possible expected.Array = (array no_items, tt, λ no. none-some _ (sym no))
possible expected.Object = (object no_members, tt, λ no. none-some _ (sym no))
possible (expected.Member name) =
    (object (member name.now null no_members), refl, λ no. none-some null (sym no ∙ has_member name.now))
possible (expected.NameIn names) =
    let name = has_no_first (names_in names) (some_name names) in
    (string name.0, refl, λ no. name.1 no)
possible (expected.Pair pair) =
    (array (item null (item null no_items)), tt, λ no. none-some _ (sym no))
possible expected.Offsets =
    (array (item (number (unsigned 0)) (item (number (unsigned 0)) no_items)), tt, λ no. none-some _ (sym no))
possible expected.Attribute = (null, tt, λ no. none-some _ (sym no.1))
possible expected.Attributes = (string (codes "none"), tt, λ no. true≢false no.0)
possible expected.Argument = (null, tt, λ no. none-some _ (sym no.1))
possible expected.JsString = (string [], tt, λ no. true≢false no)
possible expected.Key = (string (codes "other"), tt, λ no. true≢false no.0)
possible expected.SpelledValue = (null, tt, λ no. true≢false (sym no))
possible expected.Column = (number (unsigned 0), refl, λ no. below_large no)
  where
    below_large : 2 ^ 62 ≤ 0 → ⊥
    below_large at_most = search arith
