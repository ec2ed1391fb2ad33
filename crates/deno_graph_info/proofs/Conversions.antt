-- Conversion of the dependencies one by one, and conversion of a converted value.
use Rattle.std.proofs.Common.{◌≡◌, ◌+◌, ◌<◌, ℕ, zero, suc, codes, false, List, [], ◌∷◌, ◌++◌, length, get_or}
use Rattle.std.proofs.Common.{take, map, Option, Some, None, option_map, IsSome, Result, Ok, Err, OnOk, OnErr}
use Rattle.std.proofs.Common.{IfErr, IsErrAnd, String, Global, string_bytes, string_cmp, true≢false, inl, inr}
use Rattle.std.proofs.Common.{refl, sym, ap, subst, ◌∙◌, arith}
use Rattle.std.proofs.lemmas.List.{map-append, map_more}
use Rattle.std.proofs.lemmas.Option.{none-some}
use Rattle.std.proofs.lemmas.Result.{err_from_is_err_and}
use Rattle.std.specs.BTreeMap.{insert_entry}
use Rattle.std.specs.Map.{lookup}
use Rattle.serde_json.proofs.Views.{get_member-put, members_view-insert_entry, view-lookup}
use Rattle.serde_json.specs.Data.{Data, null, boolean, number, string, array, object, Items, no_items, item}
use Rattle.serde_json.specs.Data.{put}
use Rattle.serde_json.specs.Find.{as_array, get, get_member}
use Rattle.serde_json.specs.View.{view, items_of, items_view, members_view}
use Rattle.serde_json.specs.Written.{has_float}
use Rattle.serde_json.specs.declared.value.Value.{Value}
use Rattle.deno_graph_json.specs.Read.Partial.{◌>>=◌, member_at, reads_array}
use Rattle.deno_graph_info.specs.declared.analysis.specifier_with_range.SpecifierWithRange.{SpecifierWithRange}
use Rattle.deno_graph_info.proofs.MembersLemmas.{TextEntry, has_key, get_member-without, put_again}
use Rattle.deno_graph_info.proofs.NamedMembers.{dependencies_named}
use Rattle.deno_graph_info.specs.Comment.{reads_stored_comment}
use Rattle.deno_graph_info.specs.Conversion.{with_value_at, without_value_at, with_types, comments_in}
use Rattle.deno_graph_info.specs.Conversion.{dependencies_in, IsConvertedDependency, DependencyOverflows}
use Rattle.deno_graph_info.specs.Conversion.{AreConverted, IsConverted, IsConvertFault, AnyOverflows}
use Rattle.deno_graph_info.specs.Types.{AreTypes}
use Rattle.deno_graph_info.specs.declared.conversion.comment.Comment.{Comment}
use Rattle.deno_graph_info.specs.declared.conversion.fault.ConvertFault.{ConvertFault}
use Rattle.deno_graph_info.specs.declared.conversion.fault.ConvertFault.TheVariants.{ColumnOverflow, Float}
use Rattle.deno_graph_info.specs.declared.conversion.fault.ConvertFault.TheVariants.{OutOfMemory}
use Rattle.deno_graph_info.specs.internal.ConvertFault.{IsColumnFault}

-- ---- one by one

AreConverted-push : (ds es : List Data) (d e : Data) → AreConverted (items_of ds) (items_of es)
    → IsConvertedDependency d e → AreConverted (items_of (ds ++ d ∷ [])) (items_of (es ++ e ∷ []))
AreConverted-push [] [] d e so_far h = (h, tt)
AreConverted-push [] (x ∷ es) d e so_far h = absurd so_far
AreConverted-push (x ∷ ds) [] d e so_far h = absurd so_far
AreConverted-push (x ∷ ds) (y ∷ es) d e so_far h = (so_far.0, AreConverted-push ds es d e so_far.1 h)

-- after one more dependency
pub converted_more : (all new newer : List Value) (i : ℕ) (v w : Value) → i < length all → v ≡ get_or all i v
    → AreConverted (items_view (take i all)) (items_view new) → IsConvertedDependency (view v) (view w)
    → newer ≡ new ++ w ∷ [] → AreConverted (items_view (take (i + 1) all)) (items_view newer)
converted_more all new newer i v w in_all is so_far h pushed =
    let passed : map view (take (i + 1) all) ≡ map view (take i all) ++ view v ∷ [] =
    map_more view all i v in_all ∙ ap (λ x. map view (take i all) ++ view x ∷ []) (sym is) in
    let made : map view newer ≡ map view new ++ view w ∷ [] =
    ap (map view) pushed ∙ map-append view new (w ∷ []) in
    subst (λ ds. AreConverted (items_of ds) (items_view newer)) (sym passed)
    (subst (λ es. AreConverted (items_of (map view (take i all) ++ view v ∷ [])) (items_of es)) (sym made)
    (AreConverted-push (map view (take i all)) (map view new) (view v) (view w) so_far h))

-- a dependency that overflows is one of all
pub overflow_among : (all : List Value) (i : ℕ) (v : Value) → i < length all → v ≡ get_or all i v
    → DependencyOverflows (view v) → AnyOverflows (items_view all)
overflow_among [] i v in_all is h = absurd (omega (arith, in_all))
overflow_among (x ∷ all) zero v in_all is h = inl (subst (λ w. DependencyOverflows (view w)) is h)
overflow_among (x ∷ all) (suc i) v in_all is h = inr (overflow_among all i v (omega (arith, in_all)) is h)

-- ---- the converted dependencies replace the old ones

pub converted_at : (v after : Data) (old new : Items) → dependencies_in v ≡ Some old → AreConverted old new
    → after ≡ with_value_at (codes "dependencies") (array new) v → IsConverted v after
converted_at v after old new is h made = rw is (new, h, made)

-- an object with dependencies has a value at their key
there_at : (found : Option Data) (old : Items) → Some old ≡ (found >>= as_array) → IsSome found
there_at None old is = absurd (none-some old (sym is))
there_at (Some d) old is = refl

pub dependencies_there : (key : List ℕ) (v : Data) (old : Items) → key ≡ codes "dependencies"
    → Some old ≡ dependencies_in v → IsSome (get key v)
dependencies_there key v old named is =
    subst (λ k. IsSome (get k v)) (sym named)
    (there_at (get (codes "dependencies") v) old (is ∙ dependencies_named v))

-- a fault of the dependencies is a fault of the whole
fault_among : (v : Data) (old : Items) (fault : ConvertFault) → has_float v ≡ false
    → dependencies_in v ≡ Some old → IsColumnFault (AnyOverflows old) fault → IsConvertFault v fault
fault_among v old ColumnOverflow whole is h = (whole, rw is h)
fault_among v old Float whole is h = absurd h
fault_among v old OutOfMemory whole is h = whole

pub exits_among : {A : Type 0} (v : Data) (old : Items) (fault : ConvertFault)
    (answer : Result A ConvertFault) → has_float v ≡ false → dependencies_in v ≡ Some old
    → IsErrAnd answer (λ other. other ≡ fault) → IsColumnFault (AnyOverflows old) fault
    → IfErr answer (IsConvertFault v)
exits_among v old fault answer whole is exit h =
    let p = err_from_is_err_and answer exit in rw (p.1, p.2) (fault_among v old fault whole is h)

-- a value that is put at a key that is present, which can't fail
pub put_present : {A E : Type 0} (answer : Result A E) (old new : List TextEntry) (key : String Global)
    (v : Value) → IsSome (get_member (string_bytes key) (members_view old))
    → OnOk answer (new ≡ insert_entry string_cmp old key v)
    → OnErr answer (lookup (has_key (string_bytes key)) old ≡ None)
    → members_view new ≡ put (string_bytes key) (view v) (members_view old)
put_present (Ok x) old new key v present made absent =
    ap members_view made ∙ members_view-insert_entry old key v
put_present (Err e) old new key v present made absent =
    let none : get_member (string_bytes key) (members_view old) ≡ None =
    sym (view-lookup (string_bytes key) old) ∙ ap (option_map view) absent in
    absurd (true≢false (sym (subst IsSome none present)))

-- ---- conversion of a converted value

without_comments : (d : Data) → comments_in (without_value_at (codes "leadingComments") d) ≡ None
unfolding comments_in member_at
without_comments null = refl
without_comments (boolean b) = refl
without_comments (number n) = refl
without_comments (string s) = refl
without_comments (array ds) = refl
without_comments (object ms) =
    ap (λ o. o >>= reads_array reads_stored_comment) (get_member-without (codes "leadingComments") ms)

dependency_again_at : (d after : Data) (found : Option (List Comment)) → comments_in d ≡ found
    → IsConvertedDependency d after → IsConvertedDependency after after
dependency_again_at d after None is h =
    let same : after ≡ d = rw is at h in
    rw (ap comments_in same ∙ is) refl
dependency_again_at d after (Some comments) is h =
    let changed : (types : Option SpecifierWithRange) × AreTypes comments types
    × (after ≡ without_value_at (codes "leadingComments") (with_types types d)) = rw is at h in
    rw (ap comments_in changed.2 ∙ without_comments (with_types changed.0 d)) refl

dependency_again : (d after : Data) → IsConvertedDependency d after → IsConvertedDependency after after
dependency_again d after h = dependency_again_at d after (comments_in d) refl h

all_again : (ds es : Items) → AreConverted ds es → AreConverted es es
all_again no_items no_items h = tt
all_again no_items (item e es) h = absurd h
all_again (item d ds) no_items h = absurd h
all_again (item d ds) (item e es) h = (dependency_again d e h.0, all_again ds es h.1)

-- dependencies that were put are found, and putting them again changes nothing
put_found : (v : Data) (old new : Items) → dependencies_in v ≡ Some old
    → dependencies_in (with_value_at (codes "dependencies") (array new) v) ≡ Some new
unfolding dependencies_in member_at
put_found null old new is = absurd (cc)
put_found (boolean b) old new is = absurd (cc)
put_found (number n) old new is = absurd (cc)
put_found (string s) old new is = absurd (cc)
put_found (array ds) old new is = absurd (cc)
put_found (object ms) old new is =
    ap (λ o. o >>= as_array) (get_member-put (codes "dependencies") (array new) ms)

with_member_again : (key : List ℕ) (d : Data) (v : Data)
    → with_value_at key d (with_value_at key d v) ≡ with_value_at key d v
with_member_again key d null = refl
with_member_again key d (boolean b) = refl
with_member_again key d (number n) = refl
with_member_again key d (string s) = refl
with_member_again key d (array ds) = refl
with_member_again key d (object ms) = ap object (put_again key d d ms)

again_at : (v after : Data) (found : Option Items) → dependencies_in v ≡ found → IsConverted v after
    → IsConverted after after
again_at v after None is h =
    let same : after ≡ v = rw is at h in
    rw (ap dependencies_in same ∙ is) refl
again_at v after (Some old) is h =
    let changed : (new : Items) × AreConverted old new
    × (after ≡ with_value_at (codes "dependencies") (array new) v) = rw is at h in
    let found : dependencies_in after ≡ Some changed.0 =
    ap dependencies_in changed.2 ∙ put_found v old changed.0 is in
    let kept : after ≡ with_value_at (codes "dependencies") (array changed.0) after =
    changed.2 ∙ sym (with_member_again (codes "dependencies") (array changed.0) v)
    ∙ ap (with_value_at (codes "dependencies") (array changed.0)) (sym changed.2) in
    rw found (changed.0, all_again old changed.0 changed.1, kept)

-- conversion of a converted value changes nothing
pub converted_again : (v after : Data) → IsConverted v after → IsConverted after after
converted_again v after h = again_at v after (dependencies_in v) refl h
