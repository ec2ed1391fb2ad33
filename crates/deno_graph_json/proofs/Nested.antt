-- The nodes of an array or object, after all its items or members were read.
use Rattle.std.proofs.Common.{◌≡◌, ℕ, ◌+◌, ◌<◌, List, [], ◌∷◌, ◌++◌, length, map, slice_set, arith, refl, sym}
use Rattle.std.proofs.Common.{ap, ◌∙◌, append_assoc}
use Rattle.std.proofs.lemmas.List.{map-set, length-map, length-append, map-append}
use Rattle.std.proofs.Math.Seq.{set-append_seam}
use Rattle.std.specs.Result.{OnOk}
use Rattle.std.specs.declared.result.Result.{Result}
use Rattle.std.specs.declared.result.Result.TheVariants.{Ok, Err}
use Rattle.std.specs.Borrow.{Bor}
use Rattle.json.specs.Json.{Json, null, boolean, number, string, array, object}
use Rattle.json.specs.Reads.{token_of}
use Rattle.json.specs.Token.{Token}
use Rattle.json.specs.declared.token.Token.{Token as Read}
use Rattle.json.specs.declared.token.Token.TheVariants.{BeginObject, EndObject, BeginArray, EndArray, Key}
use Rattle.json.specs.declared.token.Token.TheVariants.{String, Number, Bool, Null, Bad}
use Rattle.deno_graph_json.specs.Flat.{PlainNode, plain, flat_list}
use Rattle.deno_graph_json.specs.declared.flat.FlatNode.{FlatNode}

module _ (old now : List FlatNode) (hole : PlainNode) (inside : List PlainNode)
    (has : map plain now ≡ map plain old ++ hole ∷ inside) where
  pub filled : (at : ℕ) (n : FlatNode) → at ≡ length old
      → map plain (slice_set now at n) ≡ map plain old ++ plain n ∷ inside
  filled at n is =
      let place : at ≡ length (map plain old) = is ∙ sym (length-map old plain) in
      map-set plain now at n ∙ ap (λ l. slice_set l at (plain n)) has
      ∙ ap (λ i. slice_set (map plain old ++ hole ∷ inside) i (plain n)) place
      ∙ set-append_seam (map plain old) hole inside (plain n)

  pub room_taken : length now ≡ length old + (length inside + 1)
  room_taken =
      omega (
        arith,
        length-map now plain,
        length-map old plain,
        ap length has,
        length-append (map plain old) (hole ∷ inside),
      )

  pub has_more : (next : List FlatNode) (j : List PlainNode) → map plain next ≡ map plain now ++ j
      → map plain next ≡ map plain old ++ hole ∷ (inside ++ j)
  has_more next j more = more ∙ ap (λ l. l ++ j) has ∙ append_assoc (map plain old) (hole ∷ inside) j

pub begun : (old now : List FlatNode) (n : FlatNode) → now ≡ old ++ n ∷ []
    → map plain now ≡ map plain old ++ plain n ∷ []
begun old now n is = ap (map plain) is ∙ map-append plain old (n ∷ [])

pub with_ok : {T E : Type 0} (r : Result T E) (A B C : Type 0) → (A → B → C) → OnOk r A → OnOk r B → OnOk r C
with_ok (Ok x) A B C f a b = f a b
with_ok (Err e) A B C f a b = tt

-- a value has at least one node
pub some_node : (j : Json) → 0 < length (flat_list j)
some_node null = omega arith
some_node (boolean b) = omega arith
some_node (number text) = omega arith
some_node (string text) = omega arith
some_node (array js) = omega arith
some_node (object ms) = omega arith

pub is_end_array : (k : Read) → token_of k ≡ Token.end_array → k ≡ EndArray
is_end_array BeginObject e = absurd (cc)
is_end_array EndObject e = absurd (cc)
is_end_array BeginArray e = absurd (cc)
is_end_array EndArray e = refl
is_end_array (Key s) e = absurd (cc)
is_end_array (String s) e = absurd (cc)
is_end_array (Number s) e = absurd (cc)
is_end_array (Bool b) e = absurd (cc)
is_end_array Null e = absurd (cc)
is_end_array Bad e = absurd (cc)

pub is_end_object : (k : Read) → token_of k ≡ Token.end_object → k ≡ EndObject
is_end_object BeginObject e = absurd (cc)
is_end_object EndObject e = refl
is_end_object BeginArray e = absurd (cc)
is_end_object EndArray e = absurd (cc)
is_end_object (Key s) e = absurd (cc)
is_end_object (String s) e = absurd (cc)
is_end_object (Number s) e = absurd (cc)
is_end_object (Bool b) e = absurd (cc)
is_end_object Null e = absurd (cc)
is_end_object Bad e = absurd (cc)

pub is_key : (k : Read) (name : List ℕ) → token_of k ≡ Token.key name → (s : Bor (List ℕ)) × (k ≡ Key s)
is_key BeginObject name e = absurd (cc)
is_key EndObject name e = absurd (cc)
is_key BeginArray name e = absurd (cc)
is_key EndArray name e = absurd (cc)
is_key (Key s) name e = (s, refl)
is_key (String s) name e = absurd (cc)
is_key (Number s) name e = absurd (cc)
is_key (Bool b) name e = absurd (cc)
is_key Null name e = absurd (cc)
is_key Bad name e = absurd (cc)
