-- Steps along a text, from place to place. A place is an offset, or an offset with more.
use Rattle.std.specs.Prelude.{◌≡◌, ℕ, Option, Some, None}

-- Steps lead from `from` to this place. `next` says where a step ends that begins at a place, if one begins
-- there.
pub data Reaches {S : Type 0} (next : S → Option S) (from : S) : S → Type 0 where
  here : Reaches next from from
  step : {at to : S} → Reaches next from at → next at ≡ Some to → Reaches next from to

-- Steps from `from` lead to `end`, and no step begins there.
pub record Ends {S : Type 0} (next : S → Option S) (from end : S) : Type 0 where
  pub reached : Reaches next from end
  pub is_last : next end ≡ None

-- Steps from `from` end at a place where `close` has this value.
pub record Closes {S : Type 0} (next : S → Option S) (from : S) (close : S → Option ℕ)
    (end : Option ℕ) : Type 0 where
  pub inside : S
  pub ends : Ends next from inside
  pub is : end ≡ close inside
