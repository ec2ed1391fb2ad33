-- Tables of functions, with each 32nd value.
use Rattle.std.specs.Prelude.{ℕ, ◌+◌, ◌*◌, ◌/◌, List, map}
use Rattle.std.specs.List.{range_with_len}

-- The values of a function at the multiples of 32 up to `end`.
abbrev pub at_32nds : {X : Type 0} → (ℕ → X) → ℕ → List X
at_32nds f end = map (λ k. f (32 * k)) (range_with_len 0 (end / 32 + 1))
