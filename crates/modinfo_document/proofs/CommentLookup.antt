-- Comments by position and number, among the entries of a side.
use Rattle.std.proofs.Common.{◌≡◌, ℕ, zero, suc, ◌-◌, ◌<◌, ◌≤◌, List, [], ◌∷◌, ◌++◌, length, Bool, true}
use Rattle.std.proofs.Common.{false, eqb, if◌then◌else◌, codes, Option, Some, None, slice_get, arith, refl}
use Rattle.std.proofs.Common.{sym, ap, subst, ◌∙◌, unwrap_or}
use Rattle.std.proofs.lemmas.Option.{none-some, option_and_then_some, same_Some}
use Rattle.serde_json.specs.Data.{Data, array, Items, no_items, item, Members}
use Rattle.serde_json.specs.Events.{items_len}
use Rattle.serde_json.specs.Find.{as_array, as_object, as_str, at, get, get_item, get_member}
use Rattle.deno_graph_json.specs.Read.Error.{data_at}
use Rattle.deno_graph_json.specs.declared.error.Step.TheVariants.{Item, Member}
use Rattle.deno_graph_json.specs.Read.Partial.{◌>>=◌, as_usize, member_at, member_or, read_or, reads_array}
use Rattle.deno_graph_json.specs.Read.Partial.{reads_items}
use Rattle.deno_graph_json.proofs.Reading.{goes_on, is_array}
use Rattle.deno_graph_source.specs.ByOffset.{item_at}
use Rattle.deno_graph_source.specs.Comments.{FiledComments, Filing}
use Rattle.deno_graph_source.specs.FaultPlace.{comment_at, side_of}
use Rattle.deno_graph_source.specs.declared.tree.comments.CommentPlace.{CommentPlace}
use Rattle.deno_graph_source.specs.declared.tree.comments.DependencyComment.{DependencyComment}
use Rattle.deno_graph_source.specs.declared.tree.comments.CommentSide.{CommentSide}
use Rattle.deno_graph_source.specs.declared.tree.comments.CommentSide.TheVariants.{Leading, Trailing}
use Rattle.modinfo_document.specs.declared.comments.FiledEntry.{FiledEntry}
use Rattle.modinfo_document.specs.Comments.{AreThoseOf, HasCommentsOf, Sides, comments_at, followed_by}
use Rattle.modinfo_document.specs.Comments.{reads_comment, reads_entry, reads_side, reads_sides, side_name}
use Rattle.modinfo_document.specs.Document.{Contents, reads_document}
use Rattle.modinfo_document.specs.Kind.{media_types}
use Rattle.modinfo_document.specs.Named.{reads_named}
use Rattle.modinfo_document.specs.Node.{reads_program}
use Rattle.modinfo_document.specs.Lookup.{side_entries}
use Rattle.modinfo_document.specs.internal.Lookup.{entry_items}
use Rattle.modinfo_document.specs.Comments.{entry_with}
use Rattle.modinfo_document.specs.Place.{comment_path}
use Rattle.modinfo_document.proofs.NodeLookup.{got, items_from, read_from, step}

-- The length of the list that is read is the number of items.
items_count : {A : Type 0} (reads : Data → Option A) (values : Items) (xs : List A)
    → reads_items reads values ≡ Some xs → items_len values ≡ length xs
unfolding reads_items
items_count reads no_items xs is = ap length (same_Some [] xs is)
items_count reads (item value values) xs is =
    let first = step (reads value) (λ x. reads_items reads values >>= (λ ys. Some (x ∷ ys))) xs is in
    let rest = step (reads_items reads values) (λ ys. Some (first.0 ∷ ys)) xs first.2 in
    let counted = items_count reads values rest.0 rest.1 in
    let all = ap length (same_Some (first.0 ∷ rest.0) xs rest.2) in
    omega (arith, counted, all)

-- The comments of an entry at a position: none if the entry has another position.
abbrev IsFoundIn : FiledEntry → ℕ → Option Items → Type 0
IsFoundIn entry position None = eqb entry.position position ≡ false
IsFoundIn entry position (Some values) = (eqb entry.position position ≡ true)
    × (reads_items reads_comment values ≡ Some entry.comments)

by_test : (entry : FiledEntry) (position : ℕ) (values : Items) → reads_items reads_comment values
    ≡ Some entry.comments
    → (b : Bool) → eqb entry.position position ≡ b → (found : Option Items)
    → found ≡ (if b then Some values else None) → IsFoundIn entry position found
by_test entry position values read true test None is = absurd (none-some values is)
by_test entry position values read true test
    (Some found) is = (test, ap (reads_items reads_comment) (same_Some found values is) ∙ read)
by_test entry position values read false test None is = test
by_test entry position values read false test (Some found) is = absurd (none-some found (sym is))

found_in : (value : Data) (entry : FiledEntry) → reads_entry value ≡ Some entry
    → (position : ℕ) (found : Option Items)
    → found ≡ entry_items position value → IsFoundIn entry position found
unfolding reads_entry entry_items member_at reads_array
found_in value entry is position found at =
    option_and_then_some _ (as_object value) entry is
    (λ members object with_members. option_and_then_some _
    (get_member (codes "pos") members >>= as_usize) entry with_members
    (λ pos pos_is with_pos. option_and_then_some _
    (get_member (codes "comments") members >>= reads_array reads_comment) entry with_pos
    (λ comments read made. option_and_then_some (reads_array reads_comment)
    (get_member (codes "comments") members) comments read
    (λ array there is_array. option_and_then_some (reads_items reads_comment)
    (as_array array) comments is_array
    (λ values array_is read_values.
    subst (λ e. IsFoundIn e position found) (same_Some (entry_with pos comments) entry made)
    (by_test (entry_with pos comments) position values read_values (eqb pos position) refl found
    (at ∙ goes_on (as_object value) _ members _ object
    (goes_on (get_member (codes "pos") members >>= as_usize) _ pos _ pos_is
    (ap (λ o. if eqb pos position then o else None)
    (goes_on (get_member (codes "comments") members) as_array array (Some values) there array_is))))))))))

within_front : {A : Type 0} (xs ys : List A) (n : ℕ) → n < length xs → slice_get xs n ≡ slice_get (xs ++ ys) n
within_front [] ys n fits = absurd (omega (arith, fits))
within_front (x ∷ xs) ys zero fits = refl
within_front (x ∷ xs) ys (suc n) fits = within_front xs ys n (omega (arith, fits))

past_front : {A : Type 0} (xs ys : List A) (n : ℕ) → length xs ≤ n
    → slice_get (xs ++ ys) n ≡ slice_get ys (n - length xs)
past_front [] ys n fits = ap (slice_get ys) (omega arith)
past_front (x ∷ xs) ys zero fits = absurd (omega (arith, fits))
past_front (x ∷ xs) ys (suc n) fits = past_front xs ys n (omega (arith, fits))
    ∙ ap (slice_get ys) (omega arith)

module _ (position : ℕ) (value : Data) (values : Items) (rest : List FiledEntry)
    (is : reads_items reads_entry (item value values) ≡ Some rest) where
  split : (entry : FiledEntry) × (more : List FiledEntry) × (reads_entry value ≡ Some entry)
      × (reads_items reads_entry values ≡ Some more) × (entry ∷ more ≡ rest)
  unfolding reads_items
  split =
      let first = step (reads_entry value)
      (λ x. reads_items reads_entry values >>= (λ ys. Some (x ∷ ys))) rest is in
      let others = step (reads_items reads_entry values) (λ ys. Some (first.0 ∷ ys)) rest first.2 in
      (first.0, others.0, first.1, others.1, same_Some (first.0 ∷ others.0) rest others.2)

  -- The first entry has another position.
  pub elsewhere : None ≡ entry_items position value
      → (more : List FiledEntry) × (reads_items reads_entry values ≡ Some more)
      × (comments_at position rest ≡ comments_at position more)
  elsewhere none =
      let found = found_in value split.0 split.2 position None none in (
        split.1,
        split.3,
        ap (comments_at position) (sym split.4)
            ∙ ap (λ b. (if b then split.0.comments else []) ++ comments_at position split.1) found,
      )

  module _ (comments : Items) (at : Some comments ≡ entry_items position value) where
    here : (reads_items reads_comment comments ≡ Some split.0.comments)
        × (split.0.comments ++ comments_at position split.1 ≡ comments_at position rest)
    here =
        let found = found_in value split.0 split.2 position (Some comments) at in (
          found.1,
          sym (ap (λ b. (if b then split.0.comments else []) ++ comments_at position split.1) found.0)
              ∙ ap (comments_at position) split.4,
        )

    -- The comment is one of the first entry.
    pub within : (n : ℕ) → n < items_len comments
        → (get_item n comments >>= reads_comment) ≡ slice_get (comments_at position rest) n
    within n fits =
        let count = items_count reads_comment comments split.0.comments here.0 in
        read_from reads_comment (get_item n comments) (slice_get split.0.comments n)
        (items_from reads_comment comments split.0.comments here.0 n)
        ∙ within_front split.0.comments (comments_at position split.1) n (subst (λ m. n < m) count fits)
        ∙ ap (λ cs. slice_get cs n) here.1

    -- The comment is one of a later entry.
    pub past : (n : ℕ) → items_len comments ≤ n
        → (more : List FiledEntry) × (reads_items reads_entry values ≡ Some more)
        × (slice_get (comments_at position rest) n ≡ slice_get (comments_at position more)
        (n - items_len comments))
    past n fits =
        let count = items_count reads_comment comments split.0.comments here.0 in (
          split.1,
          split.3,
          ap (λ cs. slice_get cs n) (sym here.1)
              ∙ past_front split.0.comments (comments_at position split.1) n (subst (λ m. m ≤ n) count fits)
              ∙ ap (λ m. slice_get (comments_at position split.1) (n - m)) (sym count),
        )

-- There is no entry.
pub none_left : (values : Items) (rest : List FiledEntry) → values ≡ no_items
    → reads_items reads_entry values ≡ Some rest → [] ≡ rest
unfolding reads_items
none_left values rest empty is = same_Some [] rest (sym (ap (reads_items reads_entry) empty) ∙ is)

-- ---- The entries of a side

-- The entries are read from these items. Without items there are no entries.
abbrev pub IsOfEntries : List FiledEntry → Option Items → Type 0
IsOfEntries entries None = entries ≡ []
IsOfEntries entries (Some values) = reads_items reads_entry values ≡ Some entries

of_array : (entries : List FiledEntry) (listed : Data) → reads_array reads_entry listed ≡ Some entries
    → (found : Option Items)
    → found ≡ as_array listed → IsOfEntries entries found
unfolding reads_array
of_array entries listed is None at =
    option_and_then_some (reads_items reads_entry) (as_array listed) entries is
    (λ values there _. absurd (none-some values (at ∙ there)))
of_array entries listed is (Some found) at =
    option_and_then_some (reads_items reads_entry) (as_array listed) entries is
    (λ values there read. ap (reads_items reads_entry) (same_Some found values (at ∙ there)) ∙ read)

of_member : (entries : List FiledEntry) (member : Option Data)
    → read_or (reads_array reads_entry) [] member ≡ Some entries
    → (found : Option Items) → found ≡ (member >>= as_array) → IsOfEntries entries found
of_member entries None is None at = sym (same_Some [] entries is)
of_member entries None is (Some found) at = absurd (none-some found (sym at))
of_member entries (Some listed) is found at = of_array entries listed is found at

abbrev sides_with : List FiledEntry → List FiledEntry → Sides
sides_with leading trailing = record { leading = leading; trailing = trailing }

side_in : (side : CommentSide) (members : Members) (sides : Sides)
    → reads_sides members ≡ Some sides
    → reads_side side members ≡ Some (side_entries sides side)
unfolding reads_sides
side_in side members sides is =
    option_and_then_some _ (reads_side Leading members) sides is
    (λ leading leading_is with_leading. option_and_then_some _
    (reads_side Trailing members) sides with_leading
    (λ trailing trailing_is made. subst (λ s. reads_side side members ≡ Some (side_entries s side))
    (same_Some (sides_with leading trailing) sides made)
    (of_side side leading trailing leading_is trailing_is)))
  where
    of_side : (side : CommentSide) (leading trailing : List FiledEntry)
        → reads_side Leading members ≡ Some leading → reads_side Trailing members ≡ Some trailing
        → reads_side side members ≡ Some (side_entries (sides_with leading trailing) side)
    of_side Leading leading trailing first second = first
    of_side Trailing leading trailing first second = second

-- The entries of a side, from the member of a document.
abbrev pub side_items : CommentSide → Data → Option Items
side_items side value = as_object value >>= (λ members. get_member (side_name side) members >>= as_array)

pub entries_from : (value : Data) (contents : Contents) → reads_document value ≡ Some contents
    → (side : CommentSide) (found : Option Items)
    → found ≡ side_items side value → IsOfEntries (side_entries contents.comments side) found
unfolding reads_document member_at reads_side member_or
entries_from value contents is side found at =
    option_and_then_some _ (as_object value) contents is
    (λ members object with_members. option_and_then_some _
    (get_member (codes "specifier") members >>= as_str) contents with_members
    (λ specifier _ with_specifier. option_and_then_some _
    (get_member (codes "mediaType") members >>= reads_named media_types) contents with_specifier
    (λ media_type _ with_media_type. option_and_then_some _
    (get_member (codes "source") members >>= as_str) contents with_media_type
    (λ source _ with_source. option_and_then_some _ (reads_sides members) contents with_source
    (λ comments read with_comments. option_and_then_some _
    (get_member (codes "program") members >>= reads_program) contents with_comments
    (λ program _ made.
    subst (λ s. IsOfEntries (side_entries s.comments side) found) (same_Some _ contents made)
    (of_member (side_entries comments side) (get_member (side_name side) members)
    (side_in side members comments read) found
    (at ∙ ap (λ o. o >>= (λ ms. get_member (side_name side) ms >>= as_array)) object))))))))

-- ---- Paths

-- The comments of an entry are its member `comments`.
pub entry_array : (position : ℕ) (value : Data) (values : Items) → Some values ≡ entry_items position value
    → get (codes "comments") value ≡ Some (array values)
unfolding entry_items member_at
entry_array position value values is =
    let object_ = step (as_object value) _ values (sym is) in
    let pos = step (get_member (codes "pos") object_.0 >>= as_usize) _ values object_.2 in
    let listed = chosen (eqb pos.0 position) pos.2 in
    let found = step (get_member (codes "comments") object_.0) as_array values listed in
    got (codes "comments") value object_.0 found.0 object_.1 found.1
    ∙ ap Some (is_array found.0 values found.2)
  where
    chosen : {o : Option Items} (b : Bool) → (if b then o else None) ≡ Some values → o ≡ Some values
    chosen true here = here
    chosen false here = absurd (none-some values here)

-- The comment with a number in the entry with an index.
pub comment_leads : (all values : Items) (passed left : ℕ) (entry value : Data)
    → get_item passed all ≡ Some entry → get (codes "comments") entry ≡ Some (array values)
    → get_item left values ≡ Some value
    → data_at (Item left ∷ Member (codes "comments") ∷ Item passed ∷ []) (array all) ≡ Some value
comment_leads all values passed left entry value here comments there =
    ap (λ o. o >>= get (codes "comments") >>= at left) here ∙ ap (λ o. o >>= at left) comments ∙ there

-- The entries of a side are its member.
pub side_array : (side : CommentSide) (value : Data) (values : Items) → Some values ≡ side_items side value
    → get (side_name side) value ≡ Some (array values)
side_array side value values is =
    let object_ = step (as_object value) _ values (sym is) in
    let found = step (get_member (side_name side) object_.0) as_array values object_.2 in
    got (side_name side) value object_.0 found.0 object_.1 found.1
    ∙ ap Some (is_array found.0 values found.2)

-- The path through the entries of a side.
pub side_leads : (side : CommentSide) (root : Data) (values : Items) (entry number : ℕ) (value : Data)
    → get (side_name side) root ≡ Some (array values)
    → data_at (Item number ∷ Member (codes "comments") ∷ Item entry ∷ []) (array values) ≡ Some value
    → data_at (comment_path side entry number) root ≡ Some value
side_leads side root values entry number value there leads =
    ap (λ o. o >>= at entry >>= get (codes "comments") >>= at number) there ∙ leads

-- The comments of a side of a source are those of its entries.
pub filed_at : (entries : List FiledEntry) (filing : Filing) (position number : ℕ)
    → HasCommentsOf entries filing
    → item_at filing position number ≡ slice_get (comments_at position entries) number
filed_at entries filing position number is =
    ap (λ o. slice_get (unwrap_or o []) number) (is.at_each position)
    ∙ by (comments_at position entries)
  where
    by : (xs : List DependencyComment) → slice_get (unwrap_or (followed_by None xs) []) number
        ≡ slice_get xs number
    by [] = refl
    by (x ∷ xs) = refl

pub comment_filed : (sides : Sides) (comments : FiledComments) (place : CommentPlace)
    → AreThoseOf sides comments
    → comment_at comments place
    ≡ slice_get (comments_at place.position (side_entries sides place.side)) place.number
comment_filed sides comments place are = by place.side
  where
    by : (side : CommentSide) → item_at (side_of comments side) place.position place.number
        ≡ slice_get (comments_at place.position (side_entries sides side)) place.number
    by Leading = filed_at sides.leading comments.leading place.position place.number are.0
    by Trailing = filed_at sides.trailing comments.trailing place.position place.number are.1
