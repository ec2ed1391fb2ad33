-- Members that are put into an object, and removed from it.
use Rattle.std.proofs.Common.{◌≡◌, ℕ, List, [], ◌∷◌, Bool, true, false, cond, bytes_eq, Option, None, String}
use Rattle.std.proofs.Common.{Global, true≢false, refl, sym, ap, ◌∙◌}
use Rattle.std.proofs.lemmas.Map.Text.{is_eq-slice_cmp}
use Rattle.std.specs.BTreeMap.{is_at}
use Rattle.std.specs.Cmp.Lexicographic.{slice_cmp}
use Rattle.std.specs.Map.{lookup, remove_entry}
use Rattle.std.specs.Ordering.{nat_cmp, is_eq, match_ordering}
use Rattle.std.specs.String.{string_bytes}
use Rattle.std.specs.declared.cmp.Ordering.{Ordering}
use Rattle.std.specs.declared.cmp.Ordering.TheVariants.{Less, Equal, Greater}
use Rattle.std.proofs.lemmas.Cmp.{nat_list_cmp_total, tied_itself}
use Rattle.serde_json.specs.Data.{Data, Members, no_members, member, put}
use Rattle.serde_json.specs.Find.{get_member}
use Rattle.serde_json.specs.View.{view, members_view}
use Rattle.serde_json.specs.declared.value.Value.{Value}
use Rattle.deno_graph_info.specs.Conversion.{without}

-- ---- the members without a key

abbrev pub TextEntry : Type 0
TextEntry = String Global × Value

-- the test that `remove` has at a key
abbrev pub has_key : List ℕ → String Global → Bool
has_key key = is_at (λ k. slice_cmp nat_cmp key (string_bytes k))

key_test : (key : List ℕ) (e : TextEntry) → has_key key e.0 ≡ bytes_eq key (string_bytes e.0)
key_test key e = is_eq-slice_cmp key (string_bytes e.0)

rest_absent : (key : List ℕ) (e : TextEntry) (es : List TextEntry) → bytes_eq key (string_bytes e.0) ≡ false
    → lookup (has_key key) (e ∷ es) ≡ None → lookup (has_key key) es ≡ None
rest_absent key e es other none = rw (key_test key e, other) at none

head_absent : (key : List ℕ) (e : TextEntry) (es : List TextEntry) (same : Bool)
    → bytes_eq key (string_bytes e.0) ≡ same → lookup (has_key key) (e ∷ es) ≡ None → same ≡ false
head_absent key e es true is none = absurd (cc (rw (key_test key e, is) at none))
head_absent key e es false is none = refl

without-absent : (key : List ℕ) (es : List TextEntry) → lookup (has_key key) es ≡ None
    → without key (members_view es) ≡ members_view es
without-absent key [] none = refl
without-absent key (e ∷ es) none =
    let other : bytes_eq key (string_bytes e.0) ≡ false = head_absent key e es _ refl none in
    rw other (ap (member (string_bytes e.0) (view e.1))
    (without-absent key es (rest_absent key e es other none)))

without-removed_at : (key : List ℕ) (e : TextEntry) (es : List TextEntry) (same : Bool)
    → bytes_eq key (string_bytes e.0) ≡ same
    → (lookup (has_key key) (remove_entry (has_key key) es) ≡ None
    → members_view (remove_entry (has_key key) es) ≡ without key (members_view es))
    → lookup (has_key key) (cond same es (e ∷ remove_entry (has_key key) es)) ≡ None
    → members_view (cond same es (e ∷ remove_entry (has_key key) es)) ≡ cond same
    (without key (members_view es)) (member (string_bytes e.0) (view e.1) (without key (members_view es)))
without-removed_at key e es true is later none = sym (without-absent key es none)
without-removed_at key e es false is later none =
    ap (member (string_bytes e.0) (view e.1))
    (later (rest_absent key e (remove_entry (has_key key) es) is none))

-- the map without the key
pub without-removed : (key : List ℕ) (es : List TextEntry)
    → lookup (has_key key) (remove_entry (has_key key) es) ≡ None
    → members_view (remove_entry (has_key key) es) ≡ without key (members_view es)
without-removed key [] none = refl
without-removed key (e ∷ es) none =
    let test = key_test key e in
    rw test (without-removed_at key e es (bytes_eq key (string_bytes e.0)) refl (without-removed key es)
    (rw test at none))

-- ---- look-ups

either : (o : Ordering) (a b : Option Data) → is_eq o ≡ false → match_ordering o a b a ≡ a
either Less a b e = refl
either Equal a b e = absurd (true≢false e)
either Greater a b e = refl

absent_later : (key k : List ℕ) (d : Data) (ms : Members) (same : Bool) → bytes_eq key k ≡ same
    → get_member key (without key ms) ≡ None
    → get_member key (cond same (without key ms) (member k d (without key ms))) ≡ None
absent_later key k d ms true is none = none
absent_later key k d ms false is none =
    either (slice_cmp nat_cmp key k) _ _ (is_eq-slice_cmp key k ∙ is) ∙ none

-- a removed key isn't found
pub get_member-without : (key : List ℕ) (ms : Members) → get_member key (without key ms) ≡ None
get_member-without key no_members = refl
get_member-without key (member k d ms) =
    absent_later key k d ms (bytes_eq key k) refl (get_member-without key ms)

same_text : (xs : List ℕ) → slice_cmp nat_cmp xs xs ≡ Equal
same_text xs = tied_itself nat_list_cmp_total xs

put_again_at : (o : Ordering) (k l : List ℕ) (d e f : Data) (ms : Members) → slice_cmp nat_cmp k l ≡ o
    → put k d (put k e ms) ≡ put k d ms
    → put k d (match_ordering o (member k e (member l f ms)) (member l e ms)
    (member l f (put k e ms))) ≡ match_ordering o (member k d (member l f ms)) (member l d ms)
    (member l f (put k d ms))
put_again_at Less k l d e f ms is later = rw same_text
put_again_at Equal k l d e f ms is later = rw is
put_again_at Greater k l d e f ms is later = rw is (ap (member l f) later)

-- a value that is put at a key replaces the one that was put before
pub put_again : (k : List ℕ) (d e : Data) (ms : Members) → put k d (put k e ms) ≡ put k d ms
put_again k d e no_members = rw same_text
put_again k d e (member l f ms) = put_again_at (slice_cmp nat_cmp k l) k l d e f ms refl (put_again k d e ms)
