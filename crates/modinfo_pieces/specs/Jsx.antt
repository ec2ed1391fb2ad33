-- Text and strings of JSX (<https://facebook.github.io/jsx/>: JSXText, JSXDoubleStringCharacters,
-- JSXSingleStringCharacters).
use Rattle.std.specs.Prelude.{ℕ, ◌+◌, ◌==◌, not, ◌&&◌, ◌||◌, List, Option, Some, None, if◌then◌else◌, length}
use Rattle.std.specs.Prelude.{nat_lt, slice_index}

-- A byte of text: any but `{` and `<`.
abbrev pub text_step : List ℕ → ℕ → Option ℕ
text_step text at =
    (if nat_lt at (length text) && not ((slice_index text at == 123) || (slice_index text at == 60))
    then Some (at + 1) else None)

-- A byte of a string with this quote: any but the quote. There are no escapes.
abbrev pub jsx_string_step : ℕ → List ℕ → ℕ → Option ℕ
jsx_string_step quote text at =
    (if nat_lt at (length text) && not (slice_index text at == quote) then Some (at + 1) else None)
