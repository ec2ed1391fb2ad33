-- The numbers of an array of two whole numbers.
use Rattle.std.proofs.Common.{◌≡◌, ℕ, ◌<◌, ◌^◌, List, [], ◌∷◌, length, map, Option, Some, None, true, nat_lt}
use Rattle.std.proofs.Common.{get_or, arith, refl, sym, ap, ◌∙◌}
use Rattle.std.proofs.lemmas.Bool.Decides.{nat_tests}
use Rattle.serde_json.specs.Data as serde
use Rattle.serde_json.specs.Data.{Data, unsigned, negative, float}
use Rattle.serde_json.specs.Find.{as_array}
use Rattle.deno_graph_json.specs.Data.{data_of, elements_data, items_data, value_data}
use Rattle.deno_graph_json.specs.Flat.{plain}
use Rattle.deno_graph_json.specs.Flat as flat
use Rattle.deno_graph_json.specs.Read.Partial.{◌>>=◌, as_usize, reads_pair, two_items}
use Rattle.deno_graph_json.specs.Value.{Value, null, boolean, number, string, array, object, ValueItems}
use Rattle.deno_graph_json.specs.Value.{no_items, item, flat_items}
use Rattle.deno_graph_json.specs.View.{items_left}
use Rattle.deno_graph_json.specs.declared.flat.Element.{Element}
use Rattle.deno_graph_json.specs.declared.flat.Elements.{Elements}
use Rattle.deno_graph_json.specs.declared.flat.FlatNode.{FlatNode}
use Rattle.deno_graph_json.specs.declared.flat.FlatNode.TheVariants.{Null, Bool as TheBool, Whole, Negative}
use Rattle.deno_graph_json.specs.declared.flat.FlatNode.TheVariants.{Float, String, Key, Array, Object}
use Rattle.deno_graph_json.proofs.Values.{is_items}

abbrev both : Option ℕ → Option ℕ → Option (ℕ × ℕ)
both x y = ◌>>=◌ {B = ℕ × ℕ} x (λ a. ◌>>=◌ {B = ℕ × ℕ} y (λ b. Some (a, b)))

pair_of : serde.Items → Option (ℕ × ℕ)
pair_of ds = ◌>>=◌ {B = ℕ × ℕ} (two_items ds) (λ two. both (as_usize two.0) (as_usize two.1))

module _ (d : Data) where
  no_array : None ≡ as_array d → reads_pair as_usize d ≡ None
  unfolding reads_pair
  no_array is = rw (sym is) refl

  array_of : (ds : serde.Items) → Some ds ≡ as_array d → reads_pair as_usize d ≡ pair_of ds
  unfolding reads_pair pair_of
  array_of ds is = rw (sym is) refl

both_none : (x : Option ℕ) → both x None ≡ None
both_none None = refl
both_none (Some a) = refl

whole_is : (n : ℕ) → n < 2 ^ 64 → as_usize (serde.number (unsigned n)) ≡ Some n
unfolding as_usize
whole_is n fits = let below : nat_lt n (2 ^ 64) ≡ true = grind (arith, nat_tests, fits) in rw below refl

two : ℕ → ℕ → ValueItems
two m n = item (number (unsigned m)) (item (number (unsigned n)) no_items)

-- two values that aren't both whole numbers
not_both : (v w : Value) → ((m n : ℕ) → v ≡ number (unsigned m) → w ≡ number (unsigned n) → ⊥)
    → both (as_usize (value_data v)) (as_usize (value_data w)) ≡ None
unfolding as_usize value_data
not_both (number (unsigned m)) (number (unsigned n)) none = absurd (none m n refl refl)
not_both (number (unsigned m)) (number (negative z)) none = both_none _
not_both (number (unsigned m)) (number (float x)) none = both_none _
not_both (number (unsigned m)) null none = both_none _
not_both (number (unsigned m)) (boolean b) none = both_none _
not_both (number (unsigned m)) (string s) none = both_none _
not_both (number (unsigned m)) (array vs) none = both_none _
not_both (number (unsigned m)) (object ms) none = both_none _
not_both (number (negative z)) w none = refl
not_both (number (float x)) w none = refl
not_both null w none = refl
not_both (boolean b) w none = refl
not_both (string s) w none = refl
not_both (array vs) w none = refl
not_both (object ms) w none = refl

not_two : (vs : ValueItems) → ((m n : ℕ) → vs ≡ two m n → ⊥) → pair_of (items_data vs) ≡ None
unfolding two value_data pair_of
not_two no_items none = refl
not_two (item v no_items) none = refl
not_two (item v (item w no_items)) none =
    not_both v w (λ m n first second. none m n
    (ap (λ u. item u (item w no_items)) first
    ∙ ap (λ u. item (number (unsigned m)) (item u no_items)) second))
not_two (item v (item w (item u vs))) none = refl

is_whole : (node : FlatNode) (m : ℕ) → plain node ≡ flat.number (unsigned m) → node ≡ Whole m
is_whole Null m e = absurd (cc)
is_whole (TheBool b) m e = absurd (cc)
is_whole (Whole n) m e = cc
is_whole (Negative z) m e = absurd (cc)
is_whole (Float x) m e = absurd (cc)
is_whole (String s) m e = absurd (cc)
is_whole (Key s) m e = absurd (cc)
is_whole (Array a b) m e = absurd (cc)
is_whole (Object nodes) m e = absurd (cc)

two_nodes : (nodes : List FlatNode) (m n : ℕ)
    → map plain nodes ≡ flat.number (unsigned m) ∷ flat.number (unsigned n) ∷ []
    → nodes ≡ Whole m ∷ Whole n ∷ []
two_nodes [] m n e = absurd (cc)
two_nodes (x ∷ []) m n e = absurd (cc)
two_nodes (x ∷ (y ∷ [])) m n e =
    let one : x ≡ Whole m = is_whole x m (cc) in
    let other : y ≡ Whole n = is_whole y n (cc) in
    cc
two_nodes (x ∷ (y ∷ (z ∷ zs))) m n e = absurd (cc)

from_parts : (nodes : List FlatNode) (m n : ℕ) → length nodes ≡ 2 → get_or nodes 0 Null ≡ Whole m
    → get_or nodes 1 Null ≡ Whole n → nodes ≡ Whole m ∷ Whole n ∷ []
from_parts [] m n long first second = absurd (omega arith)
from_parts (x ∷ []) m n long first second = absurd (omega arith)
from_parts (x ∷ (y ∷ [])) m n long first second =
    ap (λ u. u ∷ y ∷ []) first ∙ ap (λ u. Whole m ∷ u ∷ []) second
from_parts (x ∷ (y ∷ (z ∷ zs))) m n long first second = absurd (omega arith)

pub no_elements : (e : Element) → None ≡ as_array (data_of e) → None ≡ reads_pair as_usize (data_of e)
no_elements e is = sym (no_array (data_of e) is)

module _ (e : Element) (elements : Elements) (is : Some (elements_data elements) ≡ as_array (data_of e)) where
  pub pair_found : (m n : ℕ) → length elements.nodes.now ≡ 2
      → get_or elements.nodes.now 0 Null ≡ Whole m → get_or elements.nodes.now 1 Null ≡ Whole n
      → m < 2 ^ 64 → n < 2 ^ 64
      → Some (m, n) ≡ reads_pair as_usize (data_of e)
  unfolding two value_data flat_items items_left elements_data pair_of
  pair_found m n long first second few_m few_n =
      let nodes = ap (map plain) (from_parts elements.nodes.now m n long first second) in
      let items : items_left elements ≡ two m n =
      is_items (map plain elements.nodes.now) (two m n) nodes in
      let whole = array_of (data_of e) (elements_data elements) is
      ∙ ap (λ vs. pair_of (items_data vs)) items in
      sym (whole ∙ rw (whole_is m few_m, whole_is n few_n) refl)

  pub no_pair : ((m n : ℕ) → elements.nodes.now ≡ Whole m ∷ Whole n ∷ [] → ⊥)
      → None ≡ reads_pair as_usize (data_of e)
  unfolding two flat_items items_left elements_data
  no_pair none =
      sym (array_of (data_of e) (elements_data elements) is
      ∙ not_two (items_left elements) (λ m n same.
      none m n (two_nodes elements.nodes.now m n (sym elements.of_items ∙ ap flat_items same))))
