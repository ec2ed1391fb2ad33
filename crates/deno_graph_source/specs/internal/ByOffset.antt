-- A value by offset that is equal to another.
use Rattle.std.specs.Prelude.{◌≡◌, ℕ, List, Bool, true, IsSomeAnd}
use Rattle.deno_graph_source.specs.ByOffset.{item_at}

-- there is an item with this index at an offset, and it is equal to `other` by the test `eq`
abbrev pub HasEqualAt : {T : Type 0} → (T → T → Bool) → List (ℕ × List T) → ℕ → ℕ → T → Type 0
HasEqualAt eq entries pos number other = IsSomeAnd (item_at entries pos number) (λ item. eq item other ≡ true)
