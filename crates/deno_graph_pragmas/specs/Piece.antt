-- The pieces that a finder's pattern is made of. A piece is a list of characters.
use Rattle.std.specs.Prelude.{◌≡◌, ◌≢◌, ◌==◌, ◌||◌, ℕ, Bool, false, not, ⊤, List, [], ◌∷◌, map, IsTrue, codes}
use Rattle.std.specs.Char.{is_whitespace, is_not_whitespace, char_set_contains}
use Rattle.std.specs.List.{list_all}
use Rattle.unicode.specs.CaseFolding.{simple_fold}
use Prim.Native.String.{String}

pub data Piece : Type 0 where
  -- one character that passes the test
  one : (ℕ → Bool) → Piece
  -- any number of them
  any : (ℕ → Bool) → Piece
  -- at least one of them
  some : (ℕ → Bool) → Piece
  -- as many of them as there are, at least one
  run : (ℕ → Bool) → Piece
  -- these characters
  exactly : List ℕ → Piece
  -- these characters in any case
  keyword : List ℕ → Piece

-- the first of the characters, if there is one, fails the test
abbrev pub IsStopped : (ℕ → Bool) → List ℕ → Type 0
IsStopped test [] = ⊤
IsStopped test (c ∷ after) = test c ≡ false

-- the two have equally many characters, each with the same simple folding as its partner
abbrev pub IsInAnyCase : List ℕ → List ℕ → Type 0
IsInAnyCase text word = map simple_fold text ≡ map simple_fold word

-- `text`, followed by `after`, is such a piece
abbrev pub IsPiece : Piece → List ℕ → List ℕ → Type 0
IsPiece (one test) text after = (c : ℕ) × (text ≡ c ∷ []) × IsTrue (test c)
IsPiece (any test) text after = IsTrue (list_all test text)
IsPiece (some test) text after = (text ≢ []) × IsTrue (list_all test text)
IsPiece (run test) text after = (text ≢ []) × IsTrue (list_all test text) × IsStopped test after
IsPiece (exactly word) text after = text ≡ word
IsPiece (keyword word) text after = IsInAnyCase text word

-- `*`
abbrev pub star : ℕ
star = 42

abbrev pub line_feed : ℕ
line_feed = 10

-- `"` or `'`
abbrev pub is_quote : ℕ → Bool
is_quote = char_set_contains (codes "\"'")

abbrev pub is_unquoted : ℕ → Bool
is_unquoted c = not (is_quote c)

abbrev pub is_white_or_star : ℕ → Bool
is_white_or_star c = is_whitespace c || (c == star)

abbrev pub is_number_or_at : ℕ → Bool
is_number_or_at = char_set_contains (codes "#@")

abbrev pub is_in_line : ℕ → Bool
is_in_line c = not (c == line_feed)

-- W: a character of White_Space
abbrev pub white_space : Piece
white_space = one is_whitespace

-- W*
abbrev pub any_white_space : Piece
any_white_space = any is_whitespace

-- W+
abbrev pub some_white_space : Piece
some_white_space = some is_whitespace

-- Q: a quote of either kind
abbrev pub quote : Piece
quote = one is_quote

-- T*: characters that are no quotes
abbrev pub unquoted : Piece
unquoted = any is_unquoted

-- T+
abbrev pub some_unquoted : Piece
some_unquoted = some is_unquoted

-- R: the longest run of characters outside White_Space
abbrev pub non_white_space : Piece
non_white_space = run is_not_whitespace

-- N*: characters of one line
abbrev pub in_line : Piece
in_line = any is_in_line

-- the characters that are written out
abbrev pub literal : String → Piece
literal text = exactly (codes text)
