-- The last token of a text, for the comments after it: whether it is a name, a number or another token that
-- they trail. The text is as far as the token's end, and the bytes there say what the token is.
use Rattle.std.specs.Prelude.{ℕ, ◌+◌, ◌-◌, ◌==◌, Bool, false, not, ◌&&◌, ◌||◌, List, length, nat_le, nat_lt}
use Rattle.std.specs.Prelude.{slice_index, slice_index_or}
use Rattle.std.specs.List.{list_any}
use Rattle.modinfo_pieces.specs.Trails.{ends_in, keywords, last_byte}

-- A byte from one to another.
abbrev pub is_between : ℕ → ℕ → ℕ → Bool
is_between low high byte = nat_le low byte && nat_le byte high

-- A byte of a name or a number: an ASCII letter or digit, `$`, `_`, or a byte of another character.
abbrev pub is_name_byte : ℕ → Bool
is_name_byte byte =
    (is_between 48 57 byte || is_between 65 90 byte) || (is_between 97 122 byte || ((byte == 36)
    || ((byte == 95) || nat_le 128 byte)))

-- A byte of a name, or the `#` before a private name.
abbrev pub is_private_name_byte : ℕ → Bool
is_private_name_byte byte = is_name_byte byte || (byte == 35)

-- The byte at an offset is one of a name, also of a private one, and not of white space.
abbrev pub is_in_name : List Bool → List ℕ → ℕ → Bool
is_in_name gaps text at = not (slice_index_or gaps at false) && is_private_name_byte (slice_index text at)

-- A name with this many bytes at the end of a text begins there. `gaps` says of each byte of the text whether
-- it is between tokens.
abbrev pub begins_name : List Bool → List ℕ → ℕ → Bool
begins_name gaps text size =
    not (nat_lt size (length text) && is_in_name gaps text (length text - (size + 1)))

-- The last token of a text is this word.
abbrev pub is_last : List Bool → List ℕ → List ℕ → Bool
is_last gaps text word = ends_in text word && begins_name gaps text (length word)

-- The last token of a text is a name or a number, and no keyword.
unfoldable pub is_name : List Bool → List ℕ → Bool
is_name gaps text = is_name_byte (last_byte text) && not (list_any (is_last gaps text) keywords)

-- A byte `;`, `{` or `}`, or a quote of a string.
abbrev pub is_closing : ℕ → Bool
is_closing byte = ((byte == 59) || (byte == 123)) || ((byte == 125) || ((byte == 34) || (byte == 39)))
