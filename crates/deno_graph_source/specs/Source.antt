-- Valid sources: a text with a tree and comments that fit the text.
use Rattle.std.specs.Prelude.{◌≡◌, ◌≢◌, ℕ, ◌<◌, ◌≤◌, List, ◌++◌, map, Any, All, Contains, ◌⊎◌, length, codes}
use Rattle.std.specs.Str.{IsCharBoundary}
use Rattle.deno_graph_source.specs.Comments.{FiledComments, comments_of}
use Rattle.deno_graph_source.specs.Node.{nodes_of, program_ranges, IsShaped}
use Rattle.deno_graph_base.specs.SourceRange.{IsTextRange, slice_of}
use Rattle.deno_graph_base.specs.declared.text.position.SourceRange.{SourceRange}
use Rattle.deno_graph_source.specs.declared.tree.comments.CommentKind.{CommentKind}
use Rattle.deno_graph_source.specs.declared.tree.comments.CommentKind.TheVariants.{Line, Block}
use Rattle.deno_graph_source.specs.declared.tree.comments.DependencyComment.{DependencyComment}
use Rattle.deno_graph_source.specs.declared.tree.fault.SourceFault.{SourceFault}
use Rattle.deno_graph_source.specs.declared.tree.fault.SourceFault.TheVariants.{RangeReversed, RangeOutside}
use Rattle.deno_graph_source.specs.declared.tree.fault.SourceFault.TheVariants.{RangeOffBoundary, CommentText}
use Rattle.deno_graph_source.specs.declared.tree.fault.SourceFault.TheVariants.{CommentsOverlap, Shape}
use Rattle.deno_graph_source.specs.declared.tree.fault.SourceFault.TheVariants.{OutOfMemory}
use Rattle.deno_graph_source.specs.declared.tree.node.Program.{Program}

-- all ranges of a source: of the program, of the nodes with their literals and arguments, and of the
-- comments
unfoldable pub ranges_of : Program → FiledComments → List SourceRange
ranges_of program comments =
    program_ranges program ++ map (λ comment. comment.range) (comments_of comments)

-- the spelling of a comment of this kind with this text
abbrev pub spelling : CommentKind → List ℕ → List ℕ
spelling Line text = codes "//" ++ text
spelling Block text = codes "/*" ++ text ++ codes "*/"

-- the text has the spelling of the comment at the comment's range
pub record IsSpelled (text : List ℕ) (comment : DependencyComment) : Type 0 where
  pub range : IsTextRange text comment.range
  pub slice : slice_of text comment.range ≡ spelling comment.kind comment.text

-- the ranges have a byte in common
abbrev pub SharesByte : SourceRange → SourceRange → Type 0
SharesByte a b = (n : ℕ) × (a.start ≤ n) × (n < a.end) × (b.start ≤ n) × (n < b.end)

-- a source without a fault
pub record IsValid (text : List ℕ) (program : Program) (comments : FiledComments) : Type 0 where
  -- each range is inside the text, not reversed, and starts and ends at character boundaries
  pub ranges : All (IsTextRange text) (ranges_of program comments)
  -- each node has the children that its kind needs
  pub shapes : All IsShaped (nodes_of program)
  -- the text has each comment
  pub spelled : All (IsSpelled text) (comments_of comments)
  -- two comments that share a byte are equal
  pub apart : (a b : DependencyComment) → Contains (comments_of comments) a
      → Contains (comments_of comments) b → SharesByte a.range b.range → a ≡ b

-- the range starts after its end
abbrev pub IsReversed : SourceRange → Type 0
IsReversed range = range.end < range.start

-- the range starts or ends after the end of the text
abbrev pub IsOutside : List ℕ → SourceRange → Type 0
IsOutside text range = (length text < range.start) ⊎ (length text < range.end)

-- the offset is inside the text, and not at a character boundary
abbrev pub CutsCharacter : List ℕ → ℕ → Type 0
CutsCharacter text offset = (offset ≤ length text) × (¬ IsCharBoundary text offset)

-- the range starts or ends inside a character of the text
abbrev pub IsOffBoundary : List ℕ → SourceRange → Type 0
IsOffBoundary text range = CutsCharacter text range.start ⊎ CutsCharacter text range.end

-- two comments of the list are unequal and share a byte
abbrev pub HasOverlap : List DependencyComment → Type 0
HasOverlap comments =
    (a : DependencyComment) × (b : DependencyComment) × Contains comments a × Contains comments b
    × (a ≢ b) × SharesByte a.range b.range

-- the source has this fault
abbrev pub HasFault : List ℕ → Program → FiledComments → SourceFault → Type 0
HasFault text program comments RangeReversed = Any IsReversed (ranges_of program comments)
HasFault text program comments RangeOutside = Any (IsOutside text) (ranges_of program comments)
HasFault text program comments RangeOffBoundary = Any (IsOffBoundary text) (ranges_of program comments)
HasFault text program comments CommentText = Any (λ comment. ¬ IsSpelled text comment) (comments_of comments)
HasFault text program comments CommentsOverlap = HasOverlap (comments_of comments)
HasFault text program comments Shape = Any (λ node. ¬ IsShaped node) (nodes_of program)
HasFault text program comments OutOfMemory = ⊥
