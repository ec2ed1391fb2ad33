-- Positions in a text: a line and a character, both counted from zero.
use Rattle.std.specs.Prelude.{◌≡◌, ◌==◌, ◌<◌, ◌⊎◌, ◌++◌, ℕ, List, length, take, count_by, encode_utf8_all}
use Rattle.std.specs.List.{after_last}
use Rattle.std.specs.Str.{IsCharBoundary, chars}
use Rattle.deno_graph_base.specs.declared.text.position.Position.{Position}

-- the number of line feeds (U+000A) among the characters `front`
abbrev pub line_of : List ℕ → ℕ
line_of front = count_by (λ c. c == 10) front

-- the number of characters after the last line feed of `front`, or of all if there is no line feed
abbrev pub character_of : List ℕ → ℕ
character_of front = length (after_last (λ c. c == 10) front)

-- the position after the characters `front`, which begin at the start of a text
unfoldable pub position_of : List ℕ → Position
position_of front = record { line = line_of front; character = character_of front }

-- `size` is the byte length of some prefix of the characters of `text`
abbrev pub IsFrontSize : List ℕ → ℕ → Type 0
IsFrontSize text size =
    (front : List ℕ) × (rest : List ℕ) × (front ++ rest ≡ chars text)
    × (length (encode_utf8_all front) ≡ size)

-- the position of the boundary of `text` at `offset`, in bytes
abbrev pub position_at : List ℕ → ℕ → Position
position_at text offset = position_of (chars (take offset text))

-- `offset` is that of a boundary of `text` with this position
abbrev pub IsAt : List ℕ → Position → ℕ → Type 0
IsAt text position offset = IsCharBoundary text offset × (position_at text offset ≡ position)

-- some boundary of `text` has this position
abbrev pub HasPosition : List ℕ → Position → Type 0
HasPosition text position = (offset : ℕ) × IsAt text position offset

-- `first` is before `second`: by line, and in one line by character
abbrev pub IsBefore : Position → Position → Type 0
IsBefore first second =
    (first.line < second.line) ⊎ ((first.line ≡ second.line) × (first.character < second.character))
