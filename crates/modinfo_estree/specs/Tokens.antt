-- Where the tokens of a text begin and end. Between two tokens are only white space and comments.
use Rattle.std.specs.Prelude.{ℕ, ◌+◌, ◌-◌, ◌==◌, Bool, not, ◌&&◌, ◌||◌, List, drop, length, map, nat_le}
use Rattle.std.specs.Prelude.{nat_lt, replicate, take}
use Rattle.std.specs.Char.{is_whitespace, len_utf8}
use Rattle.std.specs.List.{enumerate_from, flat_map, list_all, list_any, prefix_len, suffix_len}
use Rattle.std.specs.Str.{chars}
use Rattle.deno_graph_base.specs.declared.text.position.SourceRange.{SourceRange}

-- A line terminator of ECMAScript: LF, CR, U+2028 or U+2029.
abbrev pub is_line_break : ℕ → Bool
is_line_break c = (((c == 0x0A) || (c == 0x0D)) || (c == 0x2028)) || (c == 0x2029)

-- A text has a line terminator.
abbrev pub has_line_break : List ℕ → Bool
has_line_break text = list_any is_line_break (chars text)

-- White space or a line terminator of ECMAScript: Unicode's `White_Space` without U+0085, and U+FEFF.
abbrev pub is_space : ℕ → Bool
is_space c = (is_whitespace c && not (c == 0x85)) || (c == 0xFEFF)

-- For each byte of a text, whether it belongs to a character that passes a test.
unfoldable pub bytes_of : (ℕ → Bool) → List ℕ → List Bool
bytes_of test text = flat_map (λ c. replicate (len_utf8 c) (test c)) (chars text)

-- A range has a byte with this offset.
abbrev pub has_byte : ℕ → SourceRange → Bool
has_byte at range = nat_le range.start at && nat_lt at range.end

-- For each byte of a text, whether it is between tokens: of white space or in a comment.
unfoldable pub gaps : List ℕ → List SourceRange → List Bool
gaps text comments =
    map (λ byte. byte.1 || list_any (has_byte byte.0) comments) (enumerate_from 0 (bytes_of is_space text))

-- For each byte of a text, whether it belongs to a line terminator.
abbrev pub breaks : List ℕ → List Bool
breaks text = bytes_of is_line_break text

-- The start of the first token that begins at an offset or after it; the end of the text if there is
-- none.
unfoldable pub token_start : List Bool → ℕ → ℕ
token_start gaps offset = offset + prefix_len (λ gap. gap) (drop offset gaps)

-- The end of the last token that ends at an offset or before it; zero if there is none. An offset after
-- the end of the text is as good as the end.
unfoldable pub token_end : List Bool → ℕ → ℕ
token_end gaps offset = length (take offset gaps) - suffix_len (λ gap. gap) (take offset gaps)

-- There is no line terminator between the last token before an offset and the offset.
unfoldable pub is_on_line : List Bool → List Bool → ℕ → Bool
is_on_line breaks gaps offset = list_all not (drop (token_end gaps offset) (take offset breaks))

-- For each byte of a text, whether it is between tokens, and whether it belongs to a line terminator.
pub record Layout : Type 0 where
  pub is_gap : List Bool
  pub is_break : List Bool

-- The layout of a text with these comments.
abbrev pub layout : List ℕ → List SourceRange → Layout
layout text comments = record { is_gap = gaps text comments; is_break = breaks text }
