-- Bytes between quotes.
use Rattle.std.specs.Prelude.{ℕ, ◌==◌, ◌||◌, Bool}

-- a byte of a character that does not stand for itself between two of these quotes
abbrev pub is_special_byte : ℕ → ℕ → Bool
is_special_byte quote b = b == 92 || (b == quote || (b == 10 || b == 13))
