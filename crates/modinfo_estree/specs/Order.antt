-- Lists in the order of the starts of their items, in bytes.
use Rattle.std.specs.Prelude.{ℕ, List, [], ◌∷◌, nat_le, if◌then◌else◌}

module _ {A : Type 0} (start_of : A → ℕ) where
  -- A list with one more item: before the first that doesn't start before it.
  unfoldable pub insert_by_start : A → List A → List A
  insert_by_start x [] = x ∷ []
  insert_by_start x (next ∷ others) = if nat_le (start_of x) (start_of next) then x ∷ next ∷ others
      else next ∷ insert_by_start x others

  -- A list in the order of starts. Items that start at the same byte keep their order.
  unfoldable pub sorted_by_start : List A → List A
  sorted_by_start [] = []
  sorted_by_start (x ∷ others) = insert_by_start x (sorted_by_start others)
