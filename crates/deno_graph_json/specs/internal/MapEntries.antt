-- The keys of a map ascend.
use Rattle.std.specs.Prelude.{◌≡◌, ℕ, List, [], ◌∷◌, true, refl}
use Rattle.std.specs.Cmp.Lexicographic.{slice_cmp}
use Rattle.std.specs.List.{AllByRecursion}
use Rattle.std.specs.List.Sorted.{IsStrictlySortedBy}
use Rattle.std.specs.Map.{keys_of}
use Rattle.std.specs.Ordering.{nat_cmp}
use Rattle.std.specs.declared.cmp.Ordering.TheVariants.{Less}
use Rattle.serde_json.specs.Data.{Data}
use Rattle.deno_graph_base.specs.TextMap.{IsAscending}
use Rattle.deno_graph_json.specs.Ascending.{has_ascending_keys, is_below}
use Rattle.deno_graph_json.specs.Object.{map_entries}

-- the entries of a map have ascending keys
module _ {A : Type 0} (f : A → Data) where
  is_below-map : (k : List ℕ) (es : List (List ℕ × A))
      → AllByRecursion (λ l. slice_cmp nat_cmp k l ≡ Less) (keys_of es)
      → is_below k (map_entries f es) ≡ true
  is_below-map k [] h = refl
  is_below-map k (e ∷ es) h = rw (h.0, is_below-map k es h.1) refl

  pub ascending-map : (es : List (List ℕ × A)) → IsAscending es
      → has_ascending_keys (map_entries f es) ≡ true
  unfolding IsStrictlySortedBy
  ascending-map [] h = refl
  ascending-map (e ∷ es) h = rw (is_below-map e.0 es h.0, ascending-map es h.1) refl
