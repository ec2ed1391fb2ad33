-- JSON Pointers (RFC 6901): the path to a value, as text.
use Rattle.std.specs.Prelude.{ℕ, ◌==◌, if◌then◌else◌, List, ◌∷◌, codes, flat_map}
use Rattle.std.specs.Char.{encode_utf8}
use Rattle.std.specs.Fmt.{decimal}
use Rattle.std.specs.Str.{chars}
use Rattle.deno_graph_json.specs.declared.pointer.ReferenceToken.{ReferenceToken}
use Rattle.deno_graph_json.specs.declared.pointer.ReferenceToken.TheVariants.{Index, Name}

-- `~`
abbrev pub tilde : ℕ
tilde = 126

-- `/`
abbrev pub slash : ℕ
slash = 47

-- a letter in a pointer: `~` as `~0`, and `/` as `~1`
abbrev pub escaped_letter : ℕ → List ℕ
escaped_letter letter = if letter == tilde then codes "~0"
    else (if letter == slash then codes "~1" else encode_utf8 letter)

abbrev pub escaped : List ℕ → List ℕ
escaped name = flat_map escaped_letter (chars name)

-- the index of an element, or the name of a member
pub data Part : Type 0 where
  index : ℕ → Part
  name : List ℕ → Part

abbrev pub part_text : Part → List ℕ
part_text (index number) = slash ∷ decimal number
part_text (name text) = slash ∷ escaped text

abbrev pub part_of_token : ReferenceToken → Part
part_of_token (Index number) = index number
part_of_token (Name text) = name text.now
