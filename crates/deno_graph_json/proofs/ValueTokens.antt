-- The value at the front of the tokens, and the tokens after it.
use Rattle.std.proofs.Common.{◌≡◌, ℕ, ◌+◌, ◌≤◌, max, map, Bool, true, false, ◌&&◌, List, [], ◌∷◌, ◌++◌}
use Rattle.std.proofs.Common.{Option, Some, None, arith, refl, sym, ap, ◌∙◌, append_assoc, append-nil}
use Rattle.std.specs.Prelude.{IsTrue}
use Rattle.std.specs.List.{list_all}
use Rattle.std.proofs.lemmas.List.{map-append}
use Rattle.std.proofs.lemmas.List.Folds.{list_all-append}
use Rattle.json.specs.Json.{Json, null, boolean, number, string, array, object, Items, no_items, item}
use Rattle.json.specs.Json.{Members, no_members, member, value}
use Rattle.json.specs.Lex.{tokens}
use Rattle.json.specs.Token.{Token}
use Rattle.json.specs.Tree.{json_tokens, items_tokens, members_tokens, depth, items_depth, members_depth}
use Rattle.json.proofs.Printed.Trees.{value-json_tokens}
use Rattle.deno_graph_json.specs.Flat.{PlainNode, key, plain, number_node, number_fits, flat_list, items_list}
use Rattle.deno_graph_json.specs.Flat.{members_list, element_count, token_fits}
use Rattle.deno_graph_json.specs.internal.Parsing.{IsAhead, NoneAhead, IsPut}
use Rattle.deno_graph_json.specs.Flat.{IsUnreadable}
use Rattle.deno_graph_json.specs.declared.flat.FlatNode.{FlatNode}

-- ---- each number fits

abbrev pub Fit : List Token → Type 0
Fit ts = IsTrue (list_all token_fits ts)

pub both : (a b : Bool) → (a && b) ≡ true → (a ≡ true) × (b ≡ true)
both a b e = grind arith

pub Fit-append : (ts us : List Token) → Fit ts → Fit us → Fit (ts ++ us)
Fit-append ts us a b = list_all-append token_fits ts us ∙ grind (arith, a, b)

pub Fit-parts : (ts us : List Token) → Fit (ts ++ us) → Fit ts × Fit us
Fit-parts ts us e =
    both (list_all token_fits ts) (list_all token_fits us) (sym (list_all-append token_fits ts us) ∙ e)

-- ---- only one value is at the front

abbrev pick : {A : Type 0} → A → Option A → A
pick d None = d
pick d (Some a) = a

pub same_ahead : (j k : Json) (r s : List Token) → json_tokens j ++ r ≡ json_tokens k ++ s → (j ≡ k) × (r ≡ s)
same_ahead j k r s e =
    let d = max (depth j) (depth k) in
    let found : Some (j, r) ≡ Some (k, s) = sym (value-json_tokens j d r (omega arith)) ∙ ap (value d) e
    ∙ value-json_tokens k d s (omega arith) in
    let same = ap (pick (j, r)) found in
    (ap (λ p. p.0) same, ap (λ p. p.1) same)

-- ---- a value of one token

pub put_one : (d : ℕ) (t : Token) (ts : List Token) (j : Json) (old new : List FlatNode) (n : FlatNode)
    → json_tokens j ≡ t ∷ [] → depth j ≡ 0 → Fit (json_tokens j) → new ≡ old ++ n ∷ []
    → flat_list j ≡ plain n ∷ [] → IsPut d (t ∷ ts) ts old new
put_one d t ts j old new n is shallow fit more same = (
  j,
  (sym (ap (λ l. l ++ ts) is), omega (arith, shallow), fit),
  ap (map plain) more ∙ map-append plain old (n ∷ []) ∙ ap (λ l. map plain old ++ l) (sym same),
)

pub put_number : (d : ℕ) (text : List ℕ) (ts us : List Token) (old new : List FlatNode) → us ≡ ts
    → map plain new ≡ map plain old ++ number_node text ∷ [] → number_fits text ≡ true
    → IsPut d (Token.number text ∷ ts) us old new
put_number d text ts us old new same more fits =
    (number text, (ap (λ l. Token.number text ∷ l) (sym same), omega arith, grind (arith, fits)), more)

pub none_number : (d : ℕ) (text : List ℕ) (ts : List Token) → number_fits text ≡ false
    → NoneAhead d (Token.number text ∷ ts)
none_number d text ts large null r is = absurd (cc (is.0))
none_number d text ts large (boolean b) r is = absurd (cc (is.0))
none_number d text ts large (number other) r is =
    let same : text ≡ other = cc (is.0) in
    let fits : number_fits other ≡ true = (both (number_fits other) true is.2).0 in
    absurd (cc (sym large ∙ ap number_fits same ∙ fits))
none_number d text ts large (string s) r is = absurd (cc (is.0))
none_number d text ts large (array js) r is = absurd (cc (is.0))
none_number d text ts large (object ms) r is = absurd (cc (is.0))

pub none_deep_array : (ts : List Token) → NoneAhead 0 (Token.begin_array ∷ ts)
none_deep_array ts null r is = absurd (cc (is.0))
none_deep_array ts (boolean b) r is = absurd (cc (is.0))
none_deep_array ts (number s) r is = absurd (cc (is.0))
none_deep_array ts (string s) r is = absurd (cc (is.0))
none_deep_array ts (array js) r is = absurd (omega (arith, is.1))
none_deep_array ts (object ms) r is = absurd (cc (is.0))

pub none_deep_object : (ts : List Token) → NoneAhead 0 (Token.begin_object ∷ ts)
none_deep_object ts null r is = absurd (cc (is.0))
none_deep_object ts (boolean b) r is = absurd (cc (is.0))
none_deep_object ts (number s) r is = absurd (cc (is.0))
none_deep_object ts (string s) r is = absurd (cc (is.0))
none_deep_object ts (array js) r is = absurd (cc (is.0))
none_deep_object ts (object ms) r is = absurd (omega (arith, is.1))

-- whether a value may begin with the token
abbrev pub opens_value : Token → Bool
opens_value Token.end_array = false
opens_value Token.end_object = false
opens_value (Token.key k) = false
opens_value Token.bad = false
opens_value _ = true

abbrev opens_first : List Token → Bool
opens_first [] = false
opens_first (t ∷ ts) = opens_value t

opens_json : (j : Json) (r : List Token) → opens_first (json_tokens j ++ r) ≡ true
opens_json null r = refl
opens_json (boolean b) r = refl
opens_json (number s) r = refl
opens_json (string s) r = refl
opens_json (array js) r = refl
opens_json (object ms) r = refl

pub none_begins : (d : ℕ) (ts : List Token) → opens_first ts ≡ false → NoneAhead d ts
none_begins d ts closed j r is = absurd (cc (sym closed ∙ ap opens_first is.0 ∙ opens_json j r))

-- ---- arrays

abbrev pub ItemsAhead : ℕ → Items → List Token → List Token → Type 0
ItemsAhead most js ahead rest = (ahead ≡ items_tokens js ++ rest) × (items_depth js ≤ most)
    × Fit (items_tokens js)

pub array_ahead : (d : ℕ) (js : Items) (ts r : List Token) → ItemsAhead d js ts r
    → IsAhead (d + 1) (array js) (Token.begin_array ∷ ts) r
array_ahead d js ts r is = (ap (λ l. Token.begin_array ∷ l) is.0, omega (arith, is.1), is.2)

items_inside : (d : ℕ) (j : Json) (ts r : List Token) → IsAhead (d + 1) j (Token.begin_array ∷ ts) r
    → (js : Items) × ItemsAhead d js ts r
items_inside d null ts r is = absurd (cc (is.0))
items_inside d (boolean b) ts r is = absurd (cc (is.0))
items_inside d (number t) ts r is = absurd (cc (is.0))
items_inside d (string t) ts r is = absurd (cc (is.0))
items_inside d (array js) ts r is = (js, (cc (is.0), omega (arith, is.1), is.2))
items_inside d (object ms) ts r is = absurd (cc (is.0))

item_ahead : (d : ℕ) (j : Json) (js : Items) (ts us r : List Token) → IsAhead d j ts us
    → ItemsAhead d js us r → ItemsAhead d (item j js) ts r
item_ahead d j js ts us r is more = (
  is.0 ∙ ap (λ l. json_tokens j ++ l) more.0 ∙ sym (append_assoc (json_tokens j) (items_tokens js) r),
  omega (arith, is.1, more.1),
  Fit-append (json_tokens j) (items_tokens js) is.2 more.2,
)

item_front : (d : ℕ) (j : Json) (js : Items) (ts r : List Token) → ItemsAhead d (item j js) ts r
    → IsAhead d j ts (items_tokens js ++ r)
item_front d j js ts r all = (
  all.0 ∙ append_assoc (json_tokens j) (items_tokens js) r,
  omega (arith, all.1),
  (Fit-parts (json_tokens j) (items_tokens js) all.2).0,
)

item_back : (d : ℕ) (j : Json) (all : Items) (ts us r : List Token) → IsAhead d j ts us
    → ItemsAhead d all ts r → (js : Items) × ItemsAhead d js us r
item_back d j no_items ts us r is all = absurd (none_begins d ts (ap opens_first all.0) j us is)
item_back d j (item k js) ts us r is all =
    let same = same_ahead j k us (items_tokens js ++ r) (sym is.0 ∙ (item_front d k js ts r all).0) in
    (js, (same.1, omega (arith, all.1), (Fit-parts (json_tokens k) (items_tokens js) all.2).1))

-- The items from `start` to `now` were read: followed by items that begin at `now`, they are items that
-- begin at `start`.
abbrev pub ItemsPassed : ℕ → List Token → List Token → List PlainNode → ℕ → Type 0
ItemsPassed d start now nodes count =
    (js : Items) → (r : List Token) → ItemsAhead d js now r
    → (all : Items) × ItemsAhead d all start r × (items_list all ≡ nodes ++ items_list js)
    × (element_count all ≡ count + element_count js)

-- Any items that begin at `start` have a rest that begins at `now`.
abbrev pub ItemsLeft : ℕ → List Token → List Token → Type 0
ItemsLeft d start now = (all : Items) → (r : List Token) → ItemsAhead d all start r
    → (js : Items) × ItemsAhead d js now r

pub items_passed_more : (d : ℕ) (j : Json) (start ts us : List Token) (nodes : List PlainNode) (count : ℕ)
    → ItemsPassed d start ts nodes count → IsAhead d j ts us
    → ItemsPassed d start us (nodes ++ flat_list j) (count + 1)
items_passed_more d j start ts us nodes count passed is js r more =
    let whole = passed (item j js) r (item_ahead d j js ts us r is more) in (
      whole.0,
      whole.1,
      whole.2 ∙ sym (append_assoc nodes (flat_list j) (items_list js)),
      omega (arith, whole.3),
    )

pub items_passed_all : (d : ℕ) (start ts : List Token) (nodes : List PlainNode) (count : ℕ)
    → ItemsPassed d start (Token.end_array ∷ ts) nodes count
    → (all : Items) × ItemsAhead d all start ts × (items_list all ≡ nodes) × (element_count all ≡ count)
items_passed_all d start ts nodes count passed =
    let whole = passed no_items ts (refl, omega arith, refl) in
    (whole.0, whole.1, whole.2 ∙ append-nil nodes, omega (arith, whole.3))

pub items_left_more : (d : ℕ) (j : Json) (start ts us : List Token) → ItemsLeft d start ts
    → IsAhead d j ts us → ItemsLeft d start us
items_left_more d j start ts us left is all r whole =
    let more = left all r whole in
    item_back d j more.0 ts us r is more.1

no_items_ahead : (d : ℕ) (ts : List Token) → NoneAhead d ts
    → ((r : List Token) → ts ≡ Token.end_array ∷ r → ⊥) → (js : Items) (r : List Token)
    → ItemsAhead d js ts r → ⊥
no_items_ahead d ts none going no_items r is = going r is.0
no_items_ahead d ts none going (item j js) r is = none j (items_tokens js ++ r) (item_front d j js ts r is)

pub no_array : (d : ℕ) (start ts : List Token) → ItemsLeft d start ts → NoneAhead d ts
    → ((r : List Token) → ts ≡ Token.end_array ∷ r → ⊥) → NoneAhead (d + 1) (Token.begin_array ∷ start)
no_array d start ts left none going j r is =
    let inside = items_inside d j start r is in
    let more = left inside.0 r inside.1 in
    no_items_ahead d ts none going more.0 r more.1

-- ---- objects

abbrev pub MembersAhead : ℕ → Members → List Token → List Token → Type 0
MembersAhead most ms ahead rest = (ahead ≡ members_tokens ms ++ rest) × (members_depth ms ≤ most)
    × Fit (members_tokens ms)

pub object_ahead : (d : ℕ) (ms : Members) (ts r : List Token) → MembersAhead d ms ts r
    → IsAhead (d + 1) (object ms) (Token.begin_object ∷ ts) r
object_ahead d ms ts r is = (ap (λ l. Token.begin_object ∷ l) is.0, omega (arith, is.1), is.2)

members_inside : (d : ℕ) (j : Json) (ts r : List Token) → IsAhead (d + 1) j (Token.begin_object ∷ ts) r
    → (ms : Members) × MembersAhead d ms ts r
members_inside d null ts r is = absurd (cc (is.0))
members_inside d (boolean b) ts r is = absurd (cc (is.0))
members_inside d (number t) ts r is = absurd (cc (is.0))
members_inside d (string t) ts r is = absurd (cc (is.0))
members_inside d (array js) ts r is = absurd (cc (is.0))
members_inside d (object ms) ts r is = (ms, (cc (is.0), omega (arith, is.1), is.2))

member_ahead : (d : ℕ) (k : List ℕ) (j : Json) (ms : Members) (ts us r : List Token) → IsAhead d j ts us
    → MembersAhead d ms us r → MembersAhead d (member k j ms) (Token.key k ∷ ts) r
member_ahead d k j ms ts us r is more = (
  ap (λ l. Token.key k ∷ l) (is.0 ∙ ap (λ l. json_tokens j ++ l) more.0
      ∙ sym (append_assoc (json_tokens j) (members_tokens ms) r)),
  omega (arith, is.1, more.1),
  Fit-append (json_tokens j) (members_tokens ms) is.2 more.2,
)

member_front : (d : ℕ) (k name : List ℕ) (j : Json) (ms : Members) (ts r : List Token)
    → MembersAhead d (member k j ms) (Token.key name ∷ ts) r → IsAhead d j ts (members_tokens ms ++ r)
member_front d k name j ms ts r all =
    let inside : ts ≡ (json_tokens j ++ members_tokens ms) ++ r = cc (all.0) in (
      inside ∙ append_assoc (json_tokens j) (members_tokens ms) r,
      omega (arith, all.1),
      (Fit-parts (json_tokens j) (members_tokens ms) all.2).0,
    )

member_back : (d : ℕ) (k : List ℕ) (j : Json) (all : Members) (ts us r : List Token) → IsAhead d j ts us
    → MembersAhead d all (Token.key k ∷ ts) r → (ms : Members) × MembersAhead d ms us r
member_back d k j no_members ts us r is all = absurd (cc (all.0))
member_back d k j (member name i ms) ts us r is all =
    let same = same_ahead j i us (members_tokens ms ++ r)
    (sym is.0 ∙ (member_front d name k i ms ts r all).0) in
    (ms, (same.1, omega (arith, all.1), (Fit-parts (json_tokens i) (members_tokens ms) all.2).1))

-- like ItemsPassed and ItemsLeft, for members
abbrev pub MembersPassed : ℕ → List Token → List Token → List PlainNode → Type 0
MembersPassed d start now nodes =
    (ms : Members) → (r : List Token) → MembersAhead d ms now r
    → (all : Members) × MembersAhead d all start r × (members_list all ≡ nodes ++ members_list ms)

abbrev pub MembersLeft : ℕ → List Token → List Token → Type 0
MembersLeft d start now = (all : Members) → (r : List Token) → MembersAhead d all start r
    → (ms : Members) × MembersAhead d ms now r

pub members_passed_more : (d : ℕ) (k : List ℕ) (j : Json) (start ts us : List Token) (nodes : List PlainNode)
    → MembersPassed d start (Token.key k ∷ ts) nodes → IsAhead d j ts us
    → MembersPassed d start us (nodes ++ key k ∷ flat_list j)
members_passed_more d k j start ts us nodes passed is ms r more =
    let whole = passed (member k j ms) r (member_ahead d k j ms ts us r is more) in
    (whole.0, whole.1, whole.2 ∙ sym (append_assoc nodes (key k ∷ flat_list j) (members_list ms)))

pub members_passed_all : (d : ℕ) (start ts : List Token) (nodes : List PlainNode)
    → MembersPassed d start (Token.end_object ∷ ts) nodes
    → (all : Members) × MembersAhead d all start ts × (members_list all ≡ nodes)
members_passed_all d start ts nodes passed =
    let whole = passed no_members ts (refl, omega arith, refl) in
    (whole.0, whole.1, whole.2 ∙ append-nil nodes)

pub members_left_more : (d : ℕ) (k : List ℕ) (j : Json) (start ts us : List Token)
    → MembersLeft d start (Token.key k ∷ ts) → IsAhead d j ts us → MembersLeft d start us
members_left_more d k j start ts us left is all r whole =
    let more = left all r whole in
    member_back d k j more.0 ts us r is more.1

no_member_ahead : (d : ℕ) (k : List ℕ) (ts : List Token) → NoneAhead d ts → (ms : Members) (r : List Token)
    → MembersAhead d ms (Token.key k ∷ ts) r → ⊥
no_member_ahead d k ts none no_members r is = absurd (cc (is.0))
no_member_ahead d k ts none (member name j ms) r is =
    none j (members_tokens ms ++ r) (member_front d name k j ms ts r is)

pub no_object : (d : ℕ) (k : List ℕ) (start ts : List Token) → MembersLeft d start (Token.key k ∷ ts)
    → NoneAhead d ts → NoneAhead (d + 1) (Token.begin_object ∷ start)
no_object d k start ts left none j r is =
    let inside = members_inside d j start r is in
    let more = left inside.0 r inside.1 in
    no_member_ahead d k ts none more.0 r more.1

no_member_or_end : (d : ℕ) (ts : List Token) → ((k : List ℕ) (r : List Token) → ts ≡ Token.key k ∷ r → ⊥)
    → ((r : List Token) → ts ≡ Token.end_object ∷ r → ⊥)
    → (ms : Members) (r : List Token) → MembersAhead d ms ts r → ⊥
no_member_or_end d ts no_key going no_members r is = going r is.0
no_member_or_end d ts no_key going (member k j ms) r is =
    no_key k ((json_tokens j ++ members_tokens ms) ++ r) is.0

pub no_key_object : (d : ℕ) (start ts : List Token) → MembersLeft d start ts
    → ((k : List ℕ) (r : List Token) → ts ≡ Token.key k ∷ r → ⊥)
    → ((r : List Token) → ts ≡ Token.end_object ∷ r → ⊥)
    → NoneAhead (d + 1) (Token.begin_object ∷ start)
no_key_object d start ts left no_key going j r is =
    let inside = members_inside d j start r is in
    let more = left inside.0 r inside.1 in
    no_member_or_end d ts no_key going more.0 r more.1

-- ---- the whole text

pub unreadable_text : (text : List ℕ) (ts : List Token) → tokens text ≡ ts → NoneAhead 127 ts
    → IsUnreadable text
unreadable_text text ts is none j whole =
    none j [] (sym is ∙ whole.0 ∙ sym (append-nil (json_tokens j)), whole.1, whole.2)

pub text_and_more : (text : List ℕ) (ts rest : List Token) (old new : List FlatNode) → tokens text ≡ ts
    → (rest ≡ [] → ⊥) → IsPut 127 ts rest old new → IsUnreadable text
text_and_more text ts rest old new is more put j whole =
    more (same_ahead put.0 j rest [] (sym put.1.0 ∙ sym is ∙ whole.0 ∙ sym (append-nil (json_tokens j)))).1
