-- Values and members that are written, one after another.
use Rattle.std.proofs.Common.{◌≡◌, ℕ, ◌^◌, ◌<◌, ◌≤◌, ◌++◌, List, [], ◌∷◌, None, Bool, true, ℤ, pos, negsuc}
use Rattle.std.proofs.Common.{SFits, w64, codes, decimal, refl, sym, ap, ap₂, subst, ◌∙◌, append_assoc}
use Rattle.std.proofs.Common.{append-nil, arith, if◌then◌else◌}
use Rattle.std.specs.Fmt.{signed_decimal}
use Rattle.json.specs.Token.{Token, begin_array, begin_object, end_array, end_object, key}
use Rattle.json.specs.Json as json
use Rattle.json.specs.Tree.{items_tokens, members_tokens}
use Rattle.serde_json.proofs.Numbers.{number_of-decimal, number_of-negative}
use Rattle.serde_json.proofs.Texts.{unless_float-number_of}
use Rattle.serde_json.specs.Data.{Data, Items, Members, array, item, member, members_depth, negative}
use Rattle.serde_json.specs.Data.{no_items, no_members, number, object, unsigned}
use Rattle.serde_json.specs.Written.{items_outline, members_outline}
use Rattle.deno_graph_json.proofs.Texts.{with_tokens-twice}
use Rattle.deno_graph_json.specs.Json.Position.{json_of_range}
use Rattle.deno_graph_json.specs.Text.{Text, text_tokens, with_tokens}
use Rattle.deno_graph_info.specs.Json.SpecifierWithRange.{IsHeldSpecifier, json_of_specifier}
use Rattle.deno_graph_info.specs.declared.analysis.specifier_with_range.SpecifierWithRange.{SpecifierWithRange}
use Rattle.deno_graph_info.proofs.OrderedMembers.{followed_by}
use Rattle.deno_graph_info.specs.internal.Chosen.{Test, chosen, passes}
use Rattle.deno_graph_info.specs.internal.Written.{AreFloatless, AreFloatlessItems, AreWritten, IsFloatless}
use Rattle.deno_graph_info.specs.internal.Written.{IsWritten, member_tokens}

-- ---- numbers

pub floatless_whole : (n : ℕ) → n < 2 ^ 64 → IsFloatless (number (unsigned n))
floatless_whole n small = ap json.number (unless_float-number_of (decimal n) (unsigned n)
    (number_of-decimal n small))

pub floatless_signed : (z : ℤ) → SFits w64 z → IsFloatless (number (negative z))
floatless_signed (pos n) fits =
    ap json.number (unless_float-number_of (decimal n) (unsigned n) (number_of-decimal n (grind arith)))
floatless_signed (negsuc n) fits =
    ap json.number
    (unless_float-number_of (signed_decimal (negsuc n)) (negative (negsuc n)) (number_of-negative n
    (grind arith)))

floatless_pair : (one other : ℕ) → one < 2 ^ 64 → other < 2 ^ 64
    → IsFloatless (array (item (number (unsigned one)) (item (number (unsigned other)) no_items)))
floatless_pair one other a b =
    ap json.array (ap₂ json.item (floatless_whole one a)
    (ap (λ j. json.item j json.no_items) (floatless_whole other b)))

-- a specifier with its range
pub floatless_specifier : (s : SpecifierWithRange) → IsHeldSpecifier s → IsFloatless (json_of_specifier s)
floatless_specifier s held =
    let start = floatless_pair s.range.start.line s.range.start.character held.0.0 held.0.1 in
    let end = floatless_pair s.range.end.line s.range.end.character held.1.0 held.1.1 in
    let range : IsFloatless (json_of_range s.range) =
    ap json.array (ap₂ json.item start (ap (λ j. json.item j json.no_items) end)) in
    ap (λ j. json.object (json.member (codes "range") j (json.member (codes "text") (json.string s.text)
    json.no_members))) range

-- ---- members

pub floatless_member : (k : List ℕ) (d : Data) (ms : Members) → IsFloatless d → AreFloatless ms
    → AreFloatless (member k d ms)
floatless_member k d ms here rest = ap₂ (json.member k) here rest

inner_value : json.Members → json.Json
inner_value json.no_members = json.null
inner_value (json.member k j ms) = j

inner_members : json.Members → json.Members
inner_members json.no_members = json.no_members
inner_members (json.member k j ms) = ms

floatless_parts : (k : List ℕ) (d : Data) (ms : Members) → AreFloatless (member k d ms)
    → IsFloatless d × AreFloatless ms
unfolding inner_value inner_members
floatless_parts k d ms h = (ap inner_value h, ap inner_members h)

pub floatless_item : (d : Data) (ds : Items) → IsFloatless d → AreFloatlessItems ds
    → AreFloatlessItems (item d ds)
floatless_item d ds here rest = ap₂ json.item here rest

-- the text so far, with the members that are left, is the same after a member is written
pub member_written : (k : List ℕ) (d : Data) (rest : Members) (old named new whole : Text)
    → named ≡ with_tokens (key k ∷ []) old → new ≡ with_tokens (text_tokens d) named
    → with_tokens (member_tokens (member k d rest)) old ≡ whole → with_tokens (member_tokens rest) new ≡ whole
member_written k d rest old named new whole name value so_far =
    ap (with_tokens (member_tokens rest)) (value ∙ ap (with_tokens (text_tokens d)) name)
    ∙ with_tokens-twice (text_tokens d) (member_tokens rest) (with_tokens (key k ∷ []) old)
    ∙ with_tokens-twice (key k ∷ []) (text_tokens d ++ member_tokens rest) old
    ∙ so_far

closed_tokens : (ms : Members) → member_tokens ms ++ end_object ∷ [] ≡ members_tokens (members_outline ms)
closed_tokens no_members = refl
closed_tokens (member k d ms) =
    ap (λ ts. key k ∷ ts)
    (append_assoc (text_tokens d) (member_tokens ms) (end_object ∷ [])
    ∙ ap (λ ts. text_tokens d ++ ts) (closed_tokens ms))

-- members in braces are an object
pub object_written : (ms : Members) (old begun members new : Text)
    → begun ≡ with_tokens (begin_object ∷ []) old
    → members ≡ with_tokens (member_tokens ms) begun → new ≡ with_tokens (end_object ∷ []) members
    → new ≡ with_tokens (text_tokens (object ms)) old
object_written ms old begun members new opens inside closes =
    closes ∙ ap (with_tokens (end_object ∷ [])) (inside ∙ ap (with_tokens (member_tokens ms)) opens)
    ∙ with_tokens-twice (member_tokens ms) (end_object ∷ []) (with_tokens (begin_object ∷ []) old)
    ∙ ap (λ ts. with_tokens ts (with_tokens (begin_object ∷ []) old)) (closed_tokens ms)
    ∙ with_tokens-twice (begin_object ∷ []) (members_tokens (members_outline ms)) old

-- ---- members that are chosen

module _ (names : Test) (k : List ℕ) (d : Data) (left rest : Members) (first : left ≡ member k d rest) where
  chosen_first : (test : Bool) → passes names k ≡ test
      → chosen names left ≡ (if test then member k d (chosen names rest) else chosen names rest)
  chosen_first test is = ap (chosen names) first
      ∙ ap (λ b. if b then member k d (chosen names rest) else chosen names rest) is

  -- the text so far, with the members that are left, is the same after one more is passed
  pub chosen_text : (old named new whole : Text) → passes names k ≡ true
      → named ≡ with_tokens (key k ∷ []) old → new ≡ with_tokens (text_tokens d) named
      → with_tokens (member_tokens (chosen names left)) old ≡ whole
      → with_tokens (member_tokens (chosen names rest)) new ≡ whole
  chosen_text old named new whole is name value so_far =
      member_written k d (chosen names rest) old named new whole name value
      (ap (λ ms. with_tokens (member_tokens ms) old) (sym (chosen_first true is)) ∙ so_far)

  pub chosen_floatless : (whole : Members) → passes names k ≡ true → IsFloatless d
      → (AreFloatless (chosen names left) → AreFloatless whole) → AreFloatless (chosen names rest)
      → AreFloatless whole
  chosen_floatless whole is here so_far more =
      so_far (subst AreFloatless (sym (chosen_first true is)) (floatless_member k d
      (chosen names rest) here more))

  pub depth_next : (all : ℕ) → members_depth left ≤ all → members_depth rest ≤ all
  depth_next all h = omega (arith, h, ap members_depth first)

-- ---- items

abbrev pub item_tokens : Items → List Token
item_tokens ds = items_tokens (items_outline ds)

-- the text so far, with the items that are left, is the same after an item is written
pub item_written : (d : Data) (rest : Items) (old new whole : Text) → new ≡ with_tokens (text_tokens d) old
    → with_tokens (item_tokens (item d rest)) old ≡ whole → with_tokens (item_tokens rest) new ≡ whole
item_written d rest old new whole value so_far =
    ap (with_tokens (item_tokens rest)) value
    ∙ with_tokens-twice (text_tokens d) (item_tokens rest) old ∙ so_far

-- items in brackets are an array
pub array_written : (ds left : Items) (old begun items new : Text)
    → begun ≡ with_tokens (begin_array ∷ []) old
    → left ≡ no_items → with_tokens (item_tokens left) items ≡ with_tokens (item_tokens ds) begun
    → new ≡ with_tokens (end_array ∷ []) items → new ≡ with_tokens (text_tokens (array ds)) old
array_written ds left old begun items new opens none inside closes =
    closes ∙ ap (λ l. with_tokens (item_tokens l) items) (sym none) ∙ inside
    ∙ ap (with_tokens (item_tokens ds)) opens
    ∙ with_tokens-twice (begin_array ∷ []) (item_tokens ds) old

pub items_floatless : (ds left : Items) → left ≡ no_items → (AreFloatlessItems left → AreFloatlessItems ds)
    → AreFloatlessItems ds
items_floatless ds left none so_far = so_far (subst AreFloatlessItems (sym none) refl)

pub with_nothing : (text : Text) → with_tokens [] text ≡ text
with_nothing text = ap (λ ts. (text.0, ts)) (append-nil text.1)

-- all members are chosen where there is no test
pub all_chosen : (ms : Members) → chosen (record { above = None; below = None; except = None }) ms ≡ ms
all_chosen no_members = refl
all_chosen (member k d ms) = ap (member k d) (all_chosen ms)

-- chosen members in braces are an object
pub chosen_object : (names : Test) (ms all : Members) (old begun inside new : Text)
    → AreWritten (chosen names ms) begun inside → chosen names ms ≡ all
    → begun ≡ with_tokens (begin_object ∷ []) old
    → new ≡ with_tokens (end_object ∷ []) inside → IsWritten (object all) old new
chosen_object names ms all old begun inside new written is opens closes = (
  object_written all old begun inside new opens
      (written.0 ∙ ap (λ l. with_tokens (member_tokens l) begun) is) closes,
  ap json.object (subst AreFloatless is written.1),
)

joined_tokens : (ms ns : Members) → member_tokens (followed_by ms ns) ≡ member_tokens ms ++ member_tokens ns
joined_tokens no_members ns = refl
joined_tokens (member k d ms) ns =
    ap (λ ts. key k ∷ (text_tokens d ++ ts)) (joined_tokens ms ns)
    ∙ ap (λ ts. key k ∷ ts) (sym (append_assoc (text_tokens d) (member_tokens ms) (member_tokens ns)))

joined_floatless : (ms ns : Members) → AreFloatless ms → AreFloatless ns → AreFloatless (followed_by ms ns)
joined_floatless no_members ns a b = b
joined_floatless (member k d ms) ns a b =
    let parts = floatless_parts k d ms a in
    floatless_member k d (followed_by ms ns) parts.0 (joined_floatless ms ns parts.1 b)

-- members, then a member, and then other members
pub joined_written : (k : List ℕ) (d : Data) (front back all : Members) (begun before_key value after : Text)
    → AreWritten front begun before_key → value ≡ with_tokens (key k ∷ text_tokens d) before_key
    → IsFloatless d
    → AreWritten back value after → followed_by front (member k d back) ≡ all → AreWritten all begun after
joined_written k d front back all begun before_key value after a v floatless b is = (
  b.0
      ∙ ap (with_tokens (member_tokens back)) v
      ∙ with_tokens-twice (key k ∷ text_tokens d) (member_tokens back) before_key
      ∙ ap (with_tokens (member_tokens (member k d back))) a.0
      ∙ with_tokens-twice (member_tokens front) (member_tokens (member k d back)) begun
      ∙ ap (λ ts. with_tokens ts begun) (sym (joined_tokens front (member k d back)))
      ∙ ap (λ ms. with_tokens (member_tokens ms) begun) is,
  subst AreFloatless is (joined_floatless front (member k d back) a.1
      (floatless_member k d back floatless b.1)),
)

-- members in braces are an object
pub members_object : (all : Members) (old begun inside new : Text) → AreWritten all begun inside
    → begun ≡ with_tokens (begin_object ∷ []) old → new ≡ with_tokens (end_object ∷ []) inside
    → IsWritten (object all) old new
members_object all old begun inside new written opens closes =
    (object_written all old begun inside new opens written.0 closes, ap json.object written.1)
