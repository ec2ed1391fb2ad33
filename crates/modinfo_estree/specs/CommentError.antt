-- Which ranges of a text are those of comments, and why others aren't.
use Rattle.std.specs.Prelude.{◌≡◌, ◌&&◌, ℕ, Bool, true, false, List, codes, drop, nat_eq}
use Rattle.std.specs.Prelude.{if◌then◌else◌}
use Rattle.std.specs.List.{starts_with}
use Rattle.deno_graph_base.specs.SourceRange.{slice_of}
use Rattle.deno_graph_base.specs.declared.text.position.SourceRange.{SourceRange}
use Rattle.deno_graph_source.specs.declared.tree.comments.CommentKind.TheVariants.{Block}
use Rattle.deno_graph_source.specs.declared.tree.comments.DependencyComment.{DependencyComment}
use Rattle.modinfo_estree.specs.Comments.{block_text, comment_at_range, comment_of, comment_with}
use Rattle.modinfo_estree.specs.Comments.{is_whole_block, is_whole_line}
use Rattle.modinfo_estree.specs.Range.{is_text_range}
use Rattle.modinfo_estree.specs.declared.comment_error.CommentError.{CommentError}
use Rattle.modinfo_estree.specs.declared.comment_error.CommentError.TheVariants.{Range, Start, LineEnd}
use Rattle.modinfo_estree.specs.declared.comment_error.CommentError.TheVariants.{BlockEnd, OutOfMemory}

-- Whether bytes begin as a line comment does.
abbrev pub begins_line : List ℕ → Bool
begins_line bytes = starts_with nat_eq bytes (codes "//")

-- Whether bytes begin as a block comment does.
abbrev pub begins_block : List ℕ → Bool
begins_block bytes = starts_with nat_eq bytes (codes "/*")

-- The bytes after a `/*` are the rest of a block comment, which is this one.
abbrev pub IsBlockOf : SourceRange → List ℕ → DependencyComment → Type 0
IsBlockOf range rest comment =
    (is_whole_block rest ≡ true) × (comment ≡ comment_with Block range (block_text rest))

-- Why the bytes after a `/*` aren't the rest of a block comment.
abbrev pub IsBlockError : List ℕ → CommentError → Type 0
IsBlockError rest BlockEnd = is_whole_block rest ≡ false
IsBlockError rest OutOfMemory = Unit {0}
IsBlockError rest _ = ⊥

-- Whether the bytes at a range of a text are a line comment as far as the end of its line, or a block comment
-- as far as its first `*/`.
abbrev pub is_whole_comment : List ℕ → SourceRange → List ℕ → Bool
is_whole_comment text range bytes = if begins_line bytes then is_whole_line text range
    else (begins_block bytes && is_whole_block (drop 2 bytes))

-- The bytes at a range of a text are a whole comment, which is this one.
abbrev pub IsCommentOf : List ℕ → SourceRange → List ℕ → DependencyComment → Type 0
IsCommentOf text range bytes comment =
    (is_whole_comment text range bytes ≡ true) × (comment ≡ comment_of text range bytes)

-- Why the bytes at a range of a text aren't a whole comment.
abbrev pub IsErrorOf : List ℕ → SourceRange → List ℕ → CommentError → Type 0
IsErrorOf text range bytes Range = ⊥
IsErrorOf text range bytes Start = (begins_line bytes ≡ false) × (begins_block bytes ≡ false)
IsErrorOf text range bytes LineEnd = (begins_line bytes ≡ true) × (is_whole_line text range ≡ false)
IsErrorOf text range bytes BlockEnd = (begins_line bytes ≡ false) × (begins_block bytes ≡ true)
    × (is_whole_block (drop 2 bytes) ≡ false)
IsErrorOf text range bytes OutOfMemory = Unit {0}

-- The text has the range, which is that of a whole comment, and the comment is this one.
abbrev pub IsCommentAt : List ℕ → SourceRange → DependencyComment → Type 0
IsCommentAt text range comment = (is_text_range text range ≡ true)
    × (is_whole_comment text range (slice_of text range) ≡ true) × (comment ≡ comment_at_range text range)

-- Why the range isn't that of a whole comment of the text; or an allocation failed.
abbrev pub IsCommentError : List ℕ → SourceRange → CommentError → Type 0
IsCommentError text range Range = is_text_range text range ≡ false
IsCommentError text range OutOfMemory = Unit {0}
IsCommentError text range error =
    (is_text_range text range ≡ true) × IsErrorOf text range (slice_of text range) error
