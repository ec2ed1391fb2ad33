-- Writing the items of a list, or the entries of a map, one after another.
use Rattle.std.proofs.Common.{◌≡◌, ℕ, ◌+◌, ◌<◌, ◌≤◌, List, [], ◌∷◌, ◌++◌, All, length, get_or, map, take}
use Rattle.std.proofs.Common.{drop, sym, ap, subst, ◌∙◌}
use Rattle.std.proofs.lemmas.List.{map-append, take_all, take_more, at_drop_more, at_drop_all}
use Rattle.std.proofs.lemmas.List.Elements.{All-head, All-more, All-tail}
use Rattle.json.specs.Token.{Token, end_array}
use Rattle.json.specs.Tree.{items_tokens}
use Rattle.serde_json.specs.Data.{Data, array}
use Rattle.serde_json.specs.View.{view, items_of}
use Rattle.serde_json.specs.Written.{items_outline}
use Rattle.serde_json.specs.declared.value.Value.{Value}
use Rattle.deno_graph_json.specs.JsonWriter.{Output, with_value}
use Rattle.deno_graph_json.specs.Object.{with_entries, map_entries}
use Rattle.deno_graph_json.specs.Text.{text_tokens}
use Rattle.deno_graph_json.proofs.Outputs.{more_after, with_more}

module _ {A : Type 0} (P : A → Type 0) (xs : List A) (i : ℕ) where
  -- a property of the items so far holds with one more item
  pub held_more : (x : A) → i < length xs → x ≡ get_or xs i x → All P (take i xs) → P x
      → All P (take (i + 1) xs)
  held_more x below is so_far here = All-more P xs i x below so_far (subst P is here)

  -- at the end it holds of all items
  pub held_all : length xs ≤ i → All P (take i xs) → All P xs
  held_all past so_far = subst (All P) (take_all i xs past) so_far

-- the tokens of items, followed by the bracket that closes the array
abbrev pub items_text : {A : Type 0} → (A → Data) → List A → List Token
items_text json xs = items_tokens (items_outline (items_of (map json xs)))

module _ {A : Type 0} (json : A → Data) (xs : List A) (i : ℕ) where
  -- the values so far are the JSON of the items so far, also after one more item
  pub forms_more : (x : A) (vs new : List Value) (v : Value) → i < length xs → x ≡ get_or xs i x
      → map view vs ≡ map json (take i xs) → view v ≡ json x → new ≡ vs ++ v ∷ []
      → map view new ≡ map json (take (i + 1) xs)
  forms_more x vs new v below is so_far form pushed =
      ap (map view) pushed ∙ map-append view vs (v ∷ [])
      ∙ ap (λ ds. ds ++ view v ∷ []) so_far
      ∙ ap (λ d. map json (take i xs) ++ d ∷ []) (form ∙ ap json is)
      ∙ sym (map-append json (take i xs) (get_or xs i x ∷ []))
      ∙ ap (map json) (sym (take_more xs i x below))

  -- at the end it holds of all items
  pub forms_all : (ds : List Data) → length xs ≤ i → ds ≡ map json (take i xs)
      → array (items_of ds) ≡ array (items_of (map json xs))
  forms_all ds past so_far =
      ap (λ es. array (items_of es)) (so_far ∙ ap (map json) (take_all i xs past))

  -- the output so far, with the tokens of the items that are left, is the same after an item is written
  pub output_more : (x : A) (out new whole : Output) → i < length xs → x ≡ get_or xs i x
      → with_more (items_text json (drop i xs)) out ≡ whole → new ≡ with_value (json x) out
      → with_more (items_text json (drop (i + 1) xs)) new ≡ whole
  output_more x out new whole below is so_far written =
      ap (with_more (items_text json (drop (i + 1) xs))) written
      ∙ more_after (json x) (items_text json (drop (i + 1) xs)) out
      ∙ ap (λ y. with_more (text_tokens (json y) ++ items_text json (drop (i + 1) xs)) out) is
      ∙ ap (λ ts. with_more ts out) (sym (at_drop_more (items_text json) xs i x below))
      ∙ so_far

  -- at the end no item is left
  pub output_all : (out whole : Output) → length xs ≤ i → with_more (items_text json (drop i xs)) out ≡ whole
      → with_more (end_array ∷ []) out ≡ whole
  output_all out whole past so_far =
      ap (λ ts. with_more ts out) (sym (at_drop_all (items_text json) xs i past)) ∙ so_far

module _ {A S : Type 0} (with_member : List ℕ → Data → S → S) (json : A → Data) where
  -- the state with a member for each entry of a map
  abbrev pub with_map : List (List ℕ × A) → S → S
  with_map es s = with_entries with_member (map_entries json es) s

  -- the state so far, with the members of the entries that are left, is the same after an entry is put
  pub map_more : (es rest : List (List ℕ × A)) (k : List ℕ) (x : A) (old new whole : S) → es ≡ (k, x) ∷ rest
      → with_map es old ≡ whole → new ≡ with_member k (json x) old → with_map rest new ≡ whole
  map_more es rest k x old new whole is so_far put =
      ap (with_map rest) put ∙ ap (λ all. with_map all old) (sym is) ∙ so_far

  -- at the end no entry is left
  pub map_all : (es : List (List ℕ × A)) (s whole : S) → es ≡ [] → with_map es s ≡ whole → s ≡ whole
  map_all es s whole none so_far = ap (λ all. with_map all s) (sym none) ∙ so_far

-- a property of two items
pub two_held : {A : Type 0} (P : A → Type 0) (x y : A) → All P (x ∷ y ∷ []) → P x × P y
two_held P x y h = (All-head P x (y ∷ []) h, All-head P y [] (All-tail P x (y ∷ []) h))
