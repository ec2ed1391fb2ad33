-- What `serde_json` reads a text to, by the texts that a tape reads.
use Rattle.std.proofs.Common.{◌≡◌, ℕ, zero, suc, Bool, true, false, ◌&&◌, List, [], ◌∷◌, ◌++◌, length, Option}
use Rattle.std.proofs.Common.{Some, None, option_map, is_some, unwrap_or, refl, sym, ap, ◌∙◌, append_assoc}
use Rattle.std.proofs.Common.{append-nil}
use Rattle.std.specs.Prelude.{option_and_then, ⊤}
use Rattle.json.specs.Json.{Json, null, boolean, number, string, array, object, Items, no_items, item}
use Rattle.json.specs.Json.{Members, no_members, member, Parse, parse_map, after_end_array, read_key}
use Rattle.json.specs.Json.{items_step, members_step, items, members, value_with, value, if_last}
use Rattle.json.specs.Lex.{tokens}
use Rattle.json.specs.Token.{Token}
use Rattle.json.specs.Tree.{json_tokens, items_tokens, members_tokens}
use Rattle.json.proofs.Nesting.{value-depth}
use Rattle.json.proofs.Printed.Trees.{value-json_tokens}
use Rattle.serde_json.specs.Data.{Data, Num, unsigned, put}
use Rattle.serde_json.specs.Data as serde
use Rattle.serde_json.specs.Read.{read, number_of, of_json, of_items, of_members}
use Rattle.deno_graph_json.specs.Data.{value_data, items_data, put_members}
use Rattle.deno_graph_json.specs.Flat.{IsTextOf, IsUnreadable, number_fits}
use Rattle.deno_graph_json.specs.Value.{plain_value, plain_items, plain_members}
use Rattle.deno_graph_json.proofs.ValueTokens.{Fit, Fit-append, Fit-parts, both}

-- ---- a value of a tape is read

number_kept : (o : Option Num) → is_some o ≡ true
    → option_map serde.number o ≡ Some (serde.number (unwrap_or o (unsigned 0)))
number_kept None e = absurd (cc)
number_kept (Some x) e = refl

mutual
  unfolding plain_value value_data

  json_kept : (j : Json) → Fit (json_tokens j) → of_json j ≡ Some (value_data (plain_value j))
  json_kept null fit = refl
  json_kept (boolean b) fit = refl
  json_kept (number s) fit = number_kept (number_of s) (both (number_fits s) true fit).0
  json_kept (string s) fit = refl
  json_kept (array js) fit = ap (option_map serde.array) (items_kept js fit)
  json_kept (object ms) fit = ap (option_map serde.object) (members_kept ms serde.no_members fit)

  items_kept : (js : Items) → Fit (items_tokens js) → of_items js ≡ Some (items_data (plain_items js))
  items_kept no_items fit = refl
  items_kept (item j js) fit =
      let parts = Fit-parts (json_tokens j) (items_tokens js) fit in
      ap (option_and_then (λ d. option_map (serde.item d) (of_items js))) (json_kept j parts.0)
      ∙ ap (option_map (serde.item (value_data (plain_value j)))) (items_kept js parts.1)

  members_kept : (ms : Members) (found : serde.Members) → Fit (members_tokens ms)
      → of_members ms found ≡ Some (put_members (plain_members ms) found)
  members_kept no_members found fit = refl
  members_kept (member k j ms) found fit =
      let parts = Fit-parts (json_tokens j) (members_tokens ms) fit in
      ap (option_and_then (λ d. of_members ms (put k d found))) (json_kept j parts.0)
      ∙ members_kept ms (put k (value_data (plain_value j)) found) parts.1

pub read_value : (text : List ℕ) (j : Json) → IsTextOf text j → read text ≡ Some (value_data (plain_value j))
read_value text j is =
    let begun : tokens text ≡ json_tokens j ++ [] = is.0 ∙ sym (append-nil (json_tokens j)) in
    ap (λ r. option_and_then of_json (option_and_then (λ p. if_last p.0 p.1) r))
    (ap (value 127) begun ∙ value-json_tokens j 127 [] is.1)
    ∙ json_kept j is.2

-- ---- the tokens of what was read

-- what was read, followed by the tokens that are left, is all the tokens
abbrev IsFront : {A : Type 0} → (A → List Token) → List Token → Option (A × List Token) → Type 0
IsFront f ts None = ⊤
IsFront f ts (Some p) = ts ≡ f p.0 ++ p.1

abbrev ReadsFront : {A : Type 0} → (A → List Token) → Parse A → Type 0
ReadsFront f p = (ts : List Token) → IsFront f ts (p ts)

front_mapped : {A B : Type 0} (f : A → List Token) (g : B → List Token) (h : A → B) (ts us : List Token)
    → ((a : A) (r : List Token) → ts ≡ f a ++ r → us ≡ g (h a) ++ r)
    → (o : Option (A × List Token)) → IsFront f ts o → IsFront g us (parse_map h o)
front_mapped f g h ts us same None is = tt
front_mapped f g h ts us same (Some p) is = same p.0 p.1 is

front_more : {B : Type 0} (g : B → List Token) (h : Json → B → B) (ts us : List Token) (more : Parse B)
    → ReadsFront g more
    → ((j : Json) (b : B) (r : List Token) → ts ≡ json_tokens j ++ (g b ++ r) → us ≡ g (h j b) ++ r)
    → (o : Option (Json × List Token)) → IsFront json_tokens ts o
    → IsFront g us (option_and_then (λ q. parse_map (h q.0) (more q.1)) o)
front_more g h ts us more fronts same None is = tt
front_more g h ts us more fronts same (Some q) is =
    front_mapped g g (h q.0) q.1 us (λ b r e. same q.0 b r (is ∙ ap (λ l. json_tokens q.0 ++ l) e)) (more q.1)
    (fronts q.1)

abbrev IsEnd : List Token → Option (List Token) → Type 0
IsEnd ts None = ⊤
IsEnd ts (Some r) = ts ≡ Token.end_array ∷ r

array_end : (ts : List Token) → IsEnd ts (after_end_array ts)
array_end [] = tt
array_end (Token.begin_object ∷ ts) = tt
array_end (Token.end_object ∷ ts) = tt
array_end (Token.begin_array ∷ ts) = tt
array_end (Token.end_array ∷ ts) = refl
array_end (Token.key s ∷ ts) = tt
array_end (Token.string s ∷ ts) = tt
array_end (Token.number s ∷ ts) = tt
array_end (Token.boolean b ∷ ts) = tt
array_end (Token.null ∷ ts) = tt
array_end (Token.bad ∷ ts) = tt

abbrev IsKey : List Token → Option (Option (List ℕ) × List Token) → Type 0
IsKey ts None = ⊤
IsKey ts (Some (None, r)) = ts ≡ Token.end_object ∷ r
IsKey ts (Some (Some k, r)) = ts ≡ Token.key k ∷ r

key_read : (ts : List Token) → IsKey ts (read_key ts)
key_read [] = tt
key_read (Token.begin_object ∷ ts) = tt
key_read (Token.end_object ∷ ts) = refl
key_read (Token.begin_array ∷ ts) = tt
key_read (Token.end_array ∷ ts) = tt
key_read (Token.key s ∷ ts) = refl
key_read (Token.string s ∷ ts) = tt
key_read (Token.number s ∷ ts) = tt
key_read (Token.boolean b ∷ ts) = tt
key_read (Token.null ∷ ts) = tt
key_read (Token.bad ∷ ts) = tt

module _ (p : Parse Json) (fronts : ReadsFront json_tokens p) where
  item_turn : (more : Parse Items) → ReadsFront items_tokens more → (ts : List Token)
      → (o : Option (List Token)) → IsEnd ts o → IsFront items_tokens ts (items_step p more ts o)
  item_turn more again ts (Some r) end = end
  item_turn more again ts None end =
      front_more items_tokens item ts ts more again
      (λ j js r e. e ∙ sym (append_assoc (json_tokens j) (items_tokens js) r)) (p ts) (fronts ts)

  items_front : (n : ℕ) → ReadsFront items_tokens (items p n)
  unfolding items
  items_front zero ts = tt
  items_front (suc n) ts = item_turn (items p n) (items_front n) ts (after_end_array ts) (array_end ts)

  member_turn : (more : Parse Members) → ReadsFront members_tokens more → (ts : List Token)
      → (o : Option (Option (List ℕ) × List Token)) → IsKey ts o
      → IsFront members_tokens ts (option_and_then (λ q. members_step p more q.0 q.1) o)
  member_turn more again ts None key = tt
  member_turn more again ts (Some (None, r)) key = key
  member_turn more again ts (Some (Some k, us)) key =
      front_more members_tokens (member k) us ts more again
      (λ j ms r e. key ∙ ap (λ l. Token.key k ∷ l)
      (e ∙ sym (append_assoc (json_tokens j) (members_tokens ms) r))) (p us) (fronts us)

  members_front : (n : ℕ) → ReadsFront members_tokens (members p n)
  unfolding members
  members_front zero ts = tt
  members_front (suc n) ts = member_turn (members p n) (members_front n) ts (read_key ts) (key_read ts)

one_level : (a : Parse Items) (o : Parse Members) → ReadsFront items_tokens a
    → ReadsFront members_tokens o → ReadsFront json_tokens (value_with a o)
one_level a o items_read members_read [] = tt
one_level a o items_read members_read (Token.begin_object ∷ ts) =
    front_mapped members_tokens json_tokens object ts (Token.begin_object ∷ ts)
    (λ ms r e. ap (λ l. Token.begin_object ∷ l) e) (o ts) (members_read ts)
one_level a o items_read members_read (Token.end_object ∷ ts) = tt
one_level a o items_read members_read (Token.begin_array ∷ ts) =
    front_mapped items_tokens json_tokens array ts (Token.begin_array ∷ ts)
    (λ js r e. ap (λ l. Token.begin_array ∷ l) e) (a ts) (items_read ts)
one_level a o items_read members_read (Token.end_array ∷ ts) = tt
one_level a o items_read members_read (Token.key s ∷ ts) = tt
one_level a o items_read members_read (Token.string s ∷ ts) = refl
one_level a o items_read members_read (Token.number s ∷ ts) = refl
one_level a o items_read members_read (Token.boolean b ∷ ts) = refl
one_level a o items_read members_read (Token.null ∷ ts) = refl
one_level a o items_read members_read (Token.bad ∷ ts) = tt

value_front : (depth : ℕ) → ReadsFront json_tokens (value depth)
unfolding value
value_front zero = one_level (λ ts. None) (λ ts. None) (λ ts. tt) (λ ts. tt)
value_front (suc depth) =
    one_level (λ ts. items (value depth) (length ts) ts) (λ ts. members (value depth) (length ts) ts)
    (λ ts. items_front (value depth) (value_front depth) (length ts) ts)
    (λ ts. members_front (value depth) (value_front depth) (length ts) ts)

-- ---- the numbers of what was read fit

mapped_some : {A B : Type 0} (f : A → B) (o : Option A) (b : B) → option_map f o ≡ Some b
    → (a : A) × (o ≡ Some a)
mapped_some f None b e = absurd (cc)
mapped_some f (Some a) b e = (a, refl)

then_some : {A B : Type 0} (f : A → Option B) (o : Option A) (b : B) → option_and_then f o ≡ Some b
    → (a : A) × (o ≡ Some a) × (f a ≡ Some b)
then_some f None b e = absurd (cc)
then_some f (Some a) b e = (a, refl, e)

fits_and : (b : Bool) → b ≡ true → (b && true) ≡ true
fits_and true e = refl
fits_and false e = absurd (cc)

mutual
  json_fits : (j : Json) (d : Data) → of_json j ≡ Some d → Fit (json_tokens j)
  json_fits null d e = refl
  json_fits (boolean b) d e = refl
  json_fits (number s) d e =
      let some = mapped_some serde.number (number_of s) d e in
      fits_and (number_fits s) (ap is_some some.1)
  json_fits (string s) d e = refl
  json_fits (array js) d e =
      let some = mapped_some serde.array (of_items js) d e in
      items_fit js some.0 some.1
  json_fits (object ms) d e =
      let some = mapped_some serde.object (of_members ms serde.no_members) d e in
      members_fit ms serde.no_members some.0 some.1

  items_fit : (js : Items) (ds : serde.Items) → of_items js ≡ Some ds → Fit (items_tokens js)
  items_fit no_items ds e = refl
  items_fit (item j js) ds e =
      let first = then_some (λ d. option_map (serde.item d) (of_items js)) (of_json j) ds e in
      let more = mapped_some (serde.item first.0) (of_items js) ds first.2 in
      Fit-append (json_tokens j) (items_tokens js) (json_fits j first.0 first.1) (items_fit js more.0 more.1)

  members_fit : (ms : Members) (found all : serde.Members) → of_members ms found ≡ Some all
      → Fit (members_tokens ms)
  members_fit no_members found all e = refl
  members_fit (member k j ms) found all e =
      let first = then_some (λ d. of_members ms (put k d found)) (of_json j) all e in
      Fit-append (json_tokens j) (members_tokens ms) (json_fits j first.0 first.1)
      (members_fit ms (put k first.0 found) all first.2)

-- ---- a text that is read is the text of a value

text_of_read : (text : List ℕ) (d : Data) (r : Option (Json × List Token)) → value 127 (tokens text) ≡ r
    → IsFront json_tokens (tokens text) r
    → option_and_then of_json (option_and_then (λ p. if_last p.0 p.1) r) ≡ Some d
    → (j : Json) × IsTextOf text j
text_of_read text d None is front e = absurd (cc)
text_of_read text d (Some (j, [])) is front e =
    (j, (front ∙ append-nil (json_tokens j), value-depth 127 (tokens text) [] j is, json_fits j d e))
text_of_read text d (Some (j, t ∷ ts)) is front e = absurd (cc)

none_read : {A : Type 0} (o : Option A) → ((a : A) → o ≡ Some a → ⊥) → o ≡ None
none_read None never = refl
none_read (Some a) never = absurd (never a refl)

pub unreadable_read : (text : List ℕ) → IsUnreadable text → read text ≡ None
unreadable_read text none =
    none_read (read text) (λ d e.
    let whole = text_of_read text d (value 127 (tokens text)) refl (value_front 127 (tokens text)) e in
    none whole.0 whole.1)
