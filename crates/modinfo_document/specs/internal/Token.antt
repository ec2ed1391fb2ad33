-- Offsets in a token.
use Rattle.std.specs.Prelude.{ℕ, ◌≤◌, Result, MatchResult}

-- The offset is from `start` to `end`.
abbrev pub IsFrom : ℕ → ℕ → ℕ → Type 0
IsFrom start end offset = (start ≤ offset) × (offset ≤ end)

-- The offset that was found, in a token or after it, is from `start` to `end`.
abbrev pub FindsFrom : ℕ → ℕ → Result ℕ ℕ → Type 0
FindsFrom start end found = MatchResult found (IsFrom start end) (IsFrom start end)
