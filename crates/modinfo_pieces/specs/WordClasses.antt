-- What a word says of what may follow.
use Rattle.std.specs.Prelude.{ℕ, Bool, List, [], ◌∷◌, codes, if◌then◌else◌}
use Rattle.std.specs.List.{list_any}
use Rattle.std.specs.Str.{bytes_eq}
use Rattle.modinfo_pieces.specs.declared.place.Before.{Before}
use Rattle.modinfo_pieces.specs.declared.place.Before.TheVariants.{Dot, Free, Head, Value}

-- Words before the parenthesis of a statement's head.
abbrev pub heads : List (List ℕ)
heads = codes "if" ∷ codes "for" ∷ codes "with" ∷ codes "while" ∷ []

-- Words after which an expression may begin.
abbrev pub operators : List (List ℕ)
operators =
    codes "in" ∷ codes "of" ∷ codes "do" ∷ codes "new" ∷ codes "else" ∷ codes "case" ∷ codes "void"
    ∷ codes "throw" ∷ codes "await" ∷ codes "yield" ∷ codes "return" ∷ codes "typeof" ∷ codes "delete"
    ∷ codes "extends" ∷ codes "default" ∷ codes "instanceof" ∷ []

-- A word is one of these.
abbrev pub is_among : List (List ℕ) → List ℕ → Bool
is_among words word = list_any (bytes_eq word) words

-- What a word is by its letters.
unfoldable pub class_of : List ℕ → Before
class_of word = (if is_among heads word then Head else (if is_among operators word then Free else Value))

-- What a word is by the token before: after a dot a name, and after `for` another head if the word is
-- `await`.
unfoldable pub class_after : Before → List ℕ → Before
class_after Dot word = Value
class_after Head word = (if bytes_eq word (codes "await") then Head else class_of word)
class_after _ word = class_of word
