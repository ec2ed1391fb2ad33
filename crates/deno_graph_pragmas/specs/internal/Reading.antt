-- What is left of a text after its front. The front is read from left to right, each piece as long as it can
-- be.
use Rattle.std.specs.Prelude.{◌≡◌, ◌⊎◌, ℕ, ◌+◌, ◌-◌, ◌++◌, length, ◌==◌, ◌&&◌, Bool, false, nat_lt, List, []}
use Rattle.std.specs.Prelude.{◌∷◌, Option, Some, None, IsSome, IsTrue, codes, if◌then◌else◌, option_and_then}
use Rattle.std.specs.Borrow.{Bor}
use Rattle.std.specs.List.{list_all}
use Rattle.std.specs.Option.{option_map}
use Rattle.std.specs.Str.{chars, IsUtf8}
use Rattle.unicode.specs.CaseFolding.{simple_fold}
use Rattle.deno_graph_pragmas.specs.Piece.{Piece, one, any, some, run, exactly, keyword, any_white_space}
use Rattle.deno_graph_pragmas.specs.Piece.{literal, quote, unquoted, is_in_line, star, line_feed}
use Rattle.deno_graph_pragmas.specs.Split.{TextPart}

-- the characters of a text that is returned, if one is
abbrev pub chars_left : Option (Bor (List ℕ)) → Option (List ℕ)
chars_left result = option_map (λ rest. chars rest.now) result

-- what follows the characters that pass
abbrev pub skip_while : (ℕ → Bool) → List ℕ → List ℕ
skip_while test [] = []
skip_while test (c ∷ text) = if test c then skip_while test text else c ∷ text

-- what follows one character that passes
abbrev pub after_one : (ℕ → Bool) → List ℕ → Option (List ℕ)
after_one test [] = None
after_one test (c ∷ text) = if test c then Some text else None

-- what follows at least one character that passes
abbrev pub after_some : (ℕ → Bool) → List ℕ → Option (List ℕ)
after_some test text = option_map (skip_while test) (after_one test text)

-- what follows these characters
abbrev pub after_exactly : List ℕ → List ℕ → Option (List ℕ)
after_exactly [] text = Some text
after_exactly (d ∷ word) [] = None
after_exactly (d ∷ word) (c ∷ text) = if c == d then after_exactly word text else None

-- what follows these characters in any case
abbrev pub after_keyword : List ℕ → List ℕ → Option (List ℕ)
after_keyword [] text = Some text
after_keyword (d ∷ word) [] = None
after_keyword (d ∷ word) (c ∷ text) = if simple_fold c == simple_fold d then after_keyword word text else None

abbrev pub after_piece : Piece → List ℕ → Option (List ℕ)
after_piece (one test) text = after_one test text
after_piece (any test) text = Some (skip_while test text)
after_piece (some test) text = after_some test text
after_piece (run test) text = after_some test text
after_piece (exactly word) text = after_exactly word text
after_piece (keyword word) text = after_keyword word text

-- what follows the pieces, one after another
abbrev pub after_pieces : List Piece → List ℕ → Option (List ℕ)
after_pieces [] text = Some text
after_pieces (first ∷ others) text = option_and_then (after_pieces others) (after_piece first text)

-- a word of ASCII characters
abbrev pub is_ascii : List ℕ → Bool
is_ascii word = list_all (λ letter. nat_lt letter 128) word

-- the word begins with a character above `*`, so with no white space and no star
abbrev pub begins_above_star : List ℕ → Bool
begins_above_star [] = false
begins_above_star (letter ∷ word) = nat_lt star letter && nat_lt letter 128

-- K(name) W* `=` W*
abbrev pub assignment : List ℕ → List Piece
assignment name = keyword name ∷ any_white_space ∷ literal "=" ∷ any_white_space ∷ []

-- `text` ends with `rest`, and the part is at the start of `rest`: the characters that are read as `piece`.
-- After the part `back` can be read.
pub record IsCapturedAt (piece : Piece) (back : List Piece) (text rest : List ℕ) (part : TextPart) : Type 0
  where
    pub tail : List ℕ
    pub captured : after_piece piece (chars rest) ≡ Some tail
    pub back_read : IsSome (after_pieces back tail)
    pub whole : chars rest ≡ chars part.text ++ tail
    pub utf8 : IsUtf8 part.text
    pub start : part.start ≡ length text - length rest
    pub end : part.end ≡ part.start + length part.text

-- the start of an attribute, after the white space before it: K(name) W* `=` W* Q
abbrev pub attribute_front : List ℕ → List Piece
attribute_front name = keyword name ∷ any_white_space ∷ literal "=" ∷ any_white_space ∷ quote ∷ []

-- `text` ends with `rest`, `rest` begins with an attribute, and the part is the value of the attribute
pub record IsAttributeAt (name text rest : List ℕ) (part : TextPart) : Type 0 where
  pub value : List ℕ
  pub utf8 : IsUtf8 value
  pub front : after_pieces (attribute_front name) (chars rest) ≡ Some (chars value)
  pub read : IsCapturedAt unquoted (quote ∷ []) text value part

-- no attribute begins with these characters
abbrev pub HasNoAttribute : List ℕ → List ℕ → Type 0
HasNoAttribute name text =
    (value : List ℕ) → after_pieces (attribute_front name) text ≡ Some value
    → after_pieces (unquoted ∷ quote ∷ []) value ≡ None

-- `/>` is in the first line of the text
abbrev pub IsClosedInLine : List ℕ → Type 0
IsClosedInLine text =
    (line : List ℕ) × (after : List ℕ) × IsTrue (list_all is_in_line line)
    × (text ≡ line ++ (codes "/>" ++ after))

-- `line` is the text up to its first line feed
abbrev pub IsFirstLine : List ℕ → List ℕ → Type 0
IsFirstLine text line = IsTrue (list_all is_in_line line)
    × ((text ≡ line) ⊎ ((after : List ℕ) × (text ≡ line ++ line_feed ∷ after)))
