-- Which kind of piece begins at an offset. Bytes decide, and where they don't, what is before: the innermost
-- opening, the token before, and the parser's choice for the offset.
use Rattle.std.specs.Prelude.{ℕ, ◌+◌, ◌==◌, Bool, true, false, not, ◌&&◌, ◌||◌, List, Option, Some, codes}
use Rattle.std.specs.Prelude.{if◌then◌else◌, nat_le, slice_index}
use Rattle.modinfo_pieces.specs.Comments.{has_bytes}
use Rattle.modinfo_pieces.specs.Openings.{is_element}
use Rattle.modinfo_pieces.specs.Spaces.{space_size}
use Rattle.modinfo_pieces.specs.Words.{is_word_byte}
use Rattle.modinfo_pieces.specs.declared.choice.ChoiceKind.{ChoiceKind}
use Rattle.modinfo_pieces.specs.declared.choice.ChoiceKind.TheVariants as choices
use Rattle.modinfo_pieces.specs.declared.piece.PieceKind.{PieceKind}
use Rattle.modinfo_pieces.specs.declared.piece.PieceKind.TheVariants.{BlockComment, Hashbang, HtmlComment}
use Rattle.modinfo_pieces.specs.declared.piece.PieceKind.TheVariants.{JsxString, JsxText, LineComment}
use Rattle.modinfo_pieces.specs.declared.piece.PieceKind.TheVariants.{Punctuation, RegularExpression, Space}
use Rattle.modinfo_pieces.specs.declared.piece.PieceKind.TheVariants.{String, Template, Word}
use Rattle.modinfo_pieces.specs.declared.place.Before.{Before}
use Rattle.modinfo_pieces.specs.declared.place.Before.TheVariants.{Equal, Free, Minus, Plus}
use Rattle.modinfo_pieces.specs.declared.place.Context.{Context}
use Rattle.modinfo_pieces.specs.declared.place.Opening.{Opening}
use Rattle.modinfo_pieces.specs.declared.place.Opening.TheVariants.{Substitution, Tag}

-- A token after which an expression may begin on the same line.
abbrev pub is_operator : Before → Bool
is_operator Free = true
is_operator Equal = true
is_operator Plus = true
is_operator Minus = true
is_operator _ = false

-- A slash begins a regular expression: the parser says so, and the token before is an operator or on another
-- line.
abbrev pub begins_regular_expression : Option ChoiceKind → Bool → Before → Bool
begins_regular_expression (Some choices.RegularExpression) is_after before = is_after || is_operator before
begins_regular_expression _ _ _ = false

-- `<!--`, or `-->` as the first on its line, begins a comment: the parser says so.
unfoldable pub begins_html_comment : List ℕ → ℕ → Option ChoiceKind → Bool → Bool
begins_html_comment text at (Some choices.HtmlComment) is_after =
    has_bytes text at (codes "<!--") || (is_after && has_bytes text at (codes "-->"))
begins_html_comment _ _ _ _ = false

-- `#!` is at the text's start, or after a byte order mark there.
unfoldable pub begins_hashbang : List ℕ → ℕ → Bool
begins_hashbang text at =
    has_bytes text at (codes "#!") && ((at == 0) || ((at == 3) && (space_size text 0 == 3)))

-- The kind of the piece that begins with a slash.
abbrev pub kind_of_slash : ℕ → Context → PieceKind
kind_of_slash second context =
    (if second == 47 then LineComment else (if second == 42 then BlockComment
    else (if begins_regular_expression context.chosen context.is_after_line_end context.before
    then RegularExpression else Punctuation)))

-- The kind of the piece that begins with a quote: in a tag `=` is before a string of JSX.
abbrev pub kind_of_quote : Opening → Before → PieceKind
kind_of_quote Tag Equal = JsxString
kind_of_quote _ _ = String

-- The kind of the piece that begins with `}`.
abbrev pub kind_of_closing_brace : Opening → PieceKind
kind_of_closing_brace Substitution = Template
kind_of_closing_brace _ = Punctuation

-- The kind of the piece that begins with a byte of punctuation, a quote or a backtick.
unfoldable pub kind_of_punctuation : List ℕ → ℕ → Context → PieceKind
kind_of_punctuation text at context =
    let byte = slice_index text at in
    (if byte == 47 then kind_of_slash (slice_index text (at + 1)) context
    else (if (byte == 34) || (byte == 39) then kind_of_quote context.inside context.before
    else (if byte == 96 then Template
    else (if byte == 125 then kind_of_closing_brace context.inside
    else (if begins_html_comment text at context.chosen context.is_after_line_end then HtmlComment
    else (if begins_hashbang text at then Hashbang else Punctuation))))))

-- The kind of the piece that begins outside of a JSX element's text.
unfoldable pub kind_in_code : List ℕ → ℕ → Context → PieceKind
kind_in_code text at context =
    let byte = slice_index text at in
    (if is_word_byte byte || (byte == 92) then Word
    else (if not (space_size text at == 0) then Space
    else (if nat_le 128 byte then Word else kind_of_punctuation text at context)))

-- The kind of the piece that begins between the tags of a JSX element.
abbrev pub kind_in_element : ℕ → PieceKind
kind_in_element byte = (if (byte == 123) || (byte == 60) then Punctuation else JsxText)

-- The kind of the piece that begins at an offset.
unfoldable pub kind_at : List ℕ → ℕ → Context → PieceKind
kind_at text at context =
    (if is_element context.inside then kind_in_element (slice_index text at)
    else kind_in_code text at context)
