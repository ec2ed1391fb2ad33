-- The comments of a text by their ranges, and where each is filed.
use Rattle.std.specs.Prelude.{◌≡◌, ℕ, ◌-◌, ◌==◌, Bool, true, false, ◌&&◌, ◌||◌, List, [], ◌∷◌, codes, drop}
use Rattle.std.specs.Prelude.{filter, map, nat_le, length, nat_eq, nat_lt, not, slice_index_or, take}
use Rattle.std.specs.Prelude.{if◌then◌else◌}
use Rattle.std.specs.Str.{chars}
use Rattle.std.specs.List.{ends_with, flat_map, starts_with}
use Rattle.deno_graph_base.specs.SourceRange.{slice_of}
use Rattle.deno_graph_base.specs.declared.text.position.SourceRange.{SourceRange}
use Rattle.deno_graph_source.specs.declared.tree.comments.CommentKind.{CommentKind}
use Rattle.deno_graph_source.specs.declared.tree.comments.CommentKind.TheVariants.{Line, Block}
use Rattle.deno_graph_source.specs.declared.tree.comments.CommentSide.{CommentSide}
use Rattle.deno_graph_source.specs.declared.tree.comments.CommentSide.TheVariants.{Leading, Trailing}
use Rattle.deno_graph_source.specs.declared.tree.comments.DependencyComment.{DependencyComment}
use Rattle.modinfo_document.specs.Comments.{Sides, entry_with}
use Rattle.modinfo_document.specs.declared.comments.FiledEntry.{FiledEntry}
use Rattle.modinfo_estree.specs.LastToken.{is_closing, is_name}
use Rattle.modinfo_estree.specs.Order.{sorted_by_start}
use Rattle.modinfo_estree.specs.Range.{is_range, is_text_range, rest_range}
use Rattle.modinfo_estree.specs.Tokens.{Layout, has_line_break, is_line_break, is_on_line, is_space}
use Rattle.modinfo_estree.specs.Tokens.{token_end, token_start}
use Rattle.modinfo_estree.specs.declared.comments.Place.{Place}
use Rattle.modinfo_pieces.specs.Trails as rule
use Rattle.modinfo_pieces.specs.Trails.{is_operator, last_byte}

-- The comment of this kind with this range and text.
abbrev pub comment_with : CommentKind → SourceRange → List ℕ → DependencyComment
comment_with kind range text = record { kind = kind; range = range; text = text }

-- A `*/` occurs in the bytes.
abbrev pub has_close : List ℕ → Bool
has_close [] = false
has_close (byte ∷ bytes) = starts_with nat_eq (byte ∷ bytes) (codes "*/") || has_close bytes

-- The bytes after the `/*` of a block comment end with their first `*/`.
abbrev pub is_whole_block : List ℕ → Bool
is_whole_block rest = ends_with nat_eq rest (codes "*/") && not (has_close (take (length rest - 2) rest))

-- The text of a block comment by the bytes after its `/*`: what is before their first `*/`, if this is at
-- their end. Otherwise the text is empty, and the check of the source reports the comment.
abbrev pub block_text : List ℕ → List ℕ
block_text rest = if is_whole_block rest then take (length rest - 2) rest else []

-- The bytes begin as a `#!` line or a comment as in HTML does.
abbrev pub begins_other : List ℕ → Bool
begins_other bytes = starts_with nat_eq bytes (codes "#!")
    || (starts_with nat_eq bytes (codes "<!--") || starts_with nat_eq bytes (codes "-->"))

-- Some characters are at the end of a line: none is left, or the first is a line terminator.
abbrev pub ends_line : List ℕ → Bool
ends_line [] = true
ends_line (c ∷ _) = is_line_break c

-- The range of a line comment is as far as the end of the line: it has no line terminator, and one follows,
-- or nothing.
abbrev pub is_whole_line : List ℕ → SourceRange → Bool
is_whole_line text range = not (has_line_break (slice_of text range))
    && (is_text_range text (rest_range text range.end)
    && ends_line (chars (slice_of text (rest_range text range.end))))

-- The line comment at a range. One that isn't as far is read as an empty block comment, and the check of the
-- source reports the comment.
abbrev pub line_comment : List ℕ → SourceRange → List ℕ → DependencyComment
line_comment text range rest =
    if is_whole_line text range then comment_with Line range rest else comment_with Block range []

-- The comment with these bytes. Bytes that aren't a comment's are read as an empty line comment, and the
-- check of the source reports the comment.
unfoldable pub comment_of : List ℕ → SourceRange → List ℕ → DependencyComment
comment_of text range bytes =
    if starts_with nat_eq bytes (codes "//") then line_comment text range (drop 2 bytes) else
    (if starts_with nat_eq bytes (codes "/*") then comment_with Block range (block_text (drop 2 bytes)) else
    comment_with Line range [])

-- The comment of a text at a range. For a range that is none of the text it is an empty line comment, and
-- the check of the source reports the range.
unfoldable pub comment_at_range : List ℕ → SourceRange → DependencyComment
comment_at_range text range =
    if is_text_range text range then comment_of text range (slice_of text range) else
    comment_with Line range []

-- The start of a range.
abbrev pub range_start : SourceRange → ℕ
range_start range = range.start

-- A `#!` line or a comment as in HTML begins at a range of the text.
unfoldable pub is_other : List ℕ → SourceRange → Bool
is_other text range = is_text_range text range && begins_other (slice_of text range)

-- The range isn't that of a `#!` line or of a comment as in HTML.
abbrev pub is_comment : List ℕ → SourceRange → Bool
is_comment text range = not (is_other text range)

-- Ranges in the order of the text after the range `last`: equal ones once, up to the first that begins before
-- the one before it ends.
unfoldable pub apart_after : SourceRange → List SourceRange → List SourceRange
apart_after last [] = []
apart_after last (next ∷ others) = if is_range last next then apart_after last others else
    (if nat_lt next.start last.end then next ∷ [] else next ∷ apart_after next others)

abbrev pub apart : List SourceRange → List SourceRange
apart [] = []
apart (first ∷ others) = first ∷ apart_after first others

-- Ranges in the order of the text, equal ones once, up to the first two that share a byte.
abbrev pub in_order : List SourceRange → List SourceRange
in_order ranges = apart (sorted_by_start range_start ranges)

-- The text has a range, without a line terminator.
abbrev pub is_in_line : List ℕ → SourceRange → Bool
is_in_line text range = is_text_range text range && not (has_line_break (slice_of text range))

-- Each range is in a line, and begins where the one before it ends, or after it; the first at `from` or
-- after.
abbrev pub are_in_lines : List ℕ → ℕ → List SourceRange → Bool
are_in_lines text from [] = true
are_in_lines text from (range ∷ ranges) =
    nat_le from range.start && (is_in_line text range && are_in_lines text range.end ranges)

-- The ranges of the comments of a text, by those that a document has: in the order of the text, equal ones
-- once. After two that share a byte there are no others: the check of the source reports the two. `#!` lines
-- and comments as in HTML are passed over, if each is in a line and no two share a byte; otherwise their
-- ranges are taken for those of comments, and the check of the source reports them.
unfoldable pub comment_ranges : List ℕ → List SourceRange → List SourceRange
comment_ranges text ranges = let others = in_order (filter (is_other text) ranges) in
    if are_in_lines text 0 others then in_order (filter (is_comment text) ranges) else others

-- A line comment.
abbrev pub is_line : CommentKind → Bool
is_line Line = true
is_line Block = false

-- The range of a comment goes as far as the comment: of a line comment to the end of the line, of a block
-- comment to the first `*/`.
abbrev pub IsWhole : List ℕ → DependencyComment → Type 0
IsWhole text comment = (is_line comment.kind ≡ true → is_whole_line text comment.range ≡ true)
    × (is_line comment.kind ≡ false → has_close comment.text ≡ false)

-- The characters of a text after white space.
abbrev pub after_space : List ℕ → List ℕ
after_space [] = []
after_space (c ∷ cs) = if is_space c then after_space cs else c ∷ cs

-- The characters begin with `;`.
abbrev pub is_semicolon : List ℕ → Bool
is_semicolon [] = false
is_semicolon (c ∷ _) = c == 59

-- A `;` follows white space from an offset of a text on.
unfoldable pub is_before_semicolon : List ℕ → ℕ → Bool
is_before_semicolon text at = is_text_range text (rest_range text at)
    && is_semicolon (after_space (chars (slice_of text (rest_range text at))))

-- A value that could be an operator ends at an offset, by the table of these ends.
abbrev pub is_value_end : List Bool → ℕ → Bool
is_value_end ends at = slice_index_or ends at false

-- The last token of a text is a binary operator. A value may end there that could be one.
abbrev pub is_operator_token : List ℕ → Bool → Bool
is_operator_token front is_value_end = not is_value_end && is_operator front

-- Block comments on the line of the last token of a text trail it, whatever follows: it is a name that is no
-- keyword, a number, a string, a regular expression, or `{`, `}`, `;` or the `${` of a template. A value may
-- end there that could be an operator or a dot; after one that ends with `>`, an element, they lead the next
-- token.
abbrev pub is_trailed : List Bool → List ℕ → Bool → Bool
is_trailed gaps front is_value_end = (is_value_end && not (last_byte front == 62))
    || (is_closing (last_byte front) || is_name gaps front)

-- A comment on the line of the token that ends at `last` trails this token, by the rule of texts.
abbrev pub trails_token : List ℕ → List Bool → List Bool → ℕ → DependencyComment → Bool
trails_token text gaps ends last comment =
    let front = take last text in
    let is_value = is_value_end ends last in
    rule.trails (is_line comment.kind) (is_operator_token front is_value) (is_trailed gaps front is_value)
    (is_before_semicolon text comment.range.end)

-- Whether a comment trails the token before it: the comment starts on the token's line, and trails a token of
-- its kind.
unfoldable pub trails : List ℕ → Layout → List Bool → DependencyComment → Bool
trails text layout ends comment =
    let last = token_end layout.is_gap comment.range.start in
    (nat_lt 0 last && is_on_line layout.is_break layout.is_gap comment.range.start)
    && trails_token text layout.is_gap ends last comment

-- The place with this side and position.
abbrev pub place_at : CommentSide → ℕ → Place
place_at side position = record { side = side; position = position }

-- Where a comment is filed: as trailing at the end of the token before it, if the comment trails this
-- token; otherwise as leading at the start of the token after it. If no token is after it, as trailing at
-- the end of the text. In a text without tokens, as leading at the start of the text.
unfoldable pub place_of : List ℕ → Layout → List Bool → Bool → DependencyComment → Place
place_of text layout ends is_empty comment =
    let next = token_start layout.is_gap comment.range.end in
    if next == length text then (if is_empty then place_at Leading 0 else place_at Trailing next) else
    (if trails text layout ends comment then place_at Trailing (token_end layout.is_gap comment.range.start)
    else place_at Leading next)

-- The two sides are the same.
abbrev pub same_side : CommentSide → CommentSide → Bool
same_side Leading Leading = true
same_side Leading Trailing = false
same_side Trailing Leading = false
same_side Trailing Trailing = true

-- The entry of a comment that is filed at a place, if the place is on this side.
abbrev pub entry_on : CommentSide → Place → DependencyComment → List FiledEntry
entry_on side place comment =
    if same_side place.side side then entry_with place.position (comment ∷ []) ∷ [] else []

-- The entries of the comments on one side, each with one comment.
abbrev pub entries_on : CommentSide → List ℕ → Layout → List Bool → Bool → List DependencyComment
    → List FiledEntry
entries_on side text layout ends is_empty comments =
    flat_map (λ comment. entry_on side (place_of text layout ends is_empty comment) comment) comments

-- The entries of both sides for the comments at these ranges, in the order of the ranges.
unfoldable pub sides_of : List ℕ → Layout → List Bool → Bool → List SourceRange → Sides
sides_of text layout ends is_empty ranges =
    let comments = map (comment_at_range text) ranges in
    record {
      leading = entries_on Leading text layout ends is_empty comments;
      trailing = entries_on Trailing text layout ends is_empty comments;
    }
