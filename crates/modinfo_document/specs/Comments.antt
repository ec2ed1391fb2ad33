-- Reading comments, and at which position each is filed.
use Rattle.std.specs.Prelude.{◌≡◌, ℕ, ◌==◌, List, [], ◌∷◌, ◌++◌, codes, IsPermutation, Option, Some, None}
use Rattle.std.specs.Prelude.{unwrap_or, if◌then◌else◌}
use Rattle.std.specs.List.{flat_map}
use Rattle.serde_json.specs.Data.{Data, Members}
use Rattle.serde_json.specs.Find.{as_object, as_str}
use Rattle.deno_graph_json.specs.Read.Partial.{◌>>=◌, as_usize, member_at, member_or, reads_array}
use Rattle.deno_graph_source.specs.ByOffset.{all_items, value_at}
use Rattle.deno_graph_source.specs.Comments.{Ascends, Filing, FiledComments}
use Rattle.deno_graph_source.specs.declared.tree.node.Program.{Program}
use Rattle.deno_graph_source.specs.declared.tree.comments.CommentSide.{CommentSide}
use Rattle.deno_graph_source.specs.declared.tree.comments.CommentSide.TheVariants.{Leading, Trailing}
use Rattle.deno_graph_source.specs.declared.tree.comments.DependencyComment.{DependencyComment}
use Rattle.modinfo_document.specs.Literal.{reads_source_range}
use Rattle.modinfo_document.specs.declared.comments.FiledEntry.{FiledEntry}
use Rattle.modinfo_document.specs.Kind.{comment_kinds}
use Rattle.modinfo_document.specs.Named.{reads_named}

-- A comment: `{"kind":"line","range":[START,END],"text":TEXT}`, or with the kind `block`.
unfoldable pub reads_comment : Data → Option DependencyComment
reads_comment value = do
  members ← as_object value
  kind ← member_at (reads_named comment_kinds) (codes "kind") members
  range ← member_at reads_source_range (codes "range") members
  text ← member_at as_str (codes "text") members
  Some (record { kind = kind; range = range; text = text })

-- The entry with this position and these comments.
abbrev pub entry_with : ℕ → List DependencyComment → FiledEntry
entry_with position comments = record { position = position; comments = comments }

-- `{"pos":POSITION,"comments":[COMMENT ..]}`.
unfoldable pub reads_entry : Data → Option FiledEntry
reads_entry value = do
  members ← as_object value
  position ← member_at as_usize (codes "pos") members
  comments ← member_at (reads_array reads_comment) (codes "comments") members
  Some (record { position = position; comments = comments })

-- The name of the member with the comments of a side.
abbrev pub side_name : CommentSide → List ℕ
side_name Leading = codes "leading"
side_name Trailing = codes "trailing"

-- The entries of a side, none where the member is missing.
unfoldable pub reads_side : CommentSide → Members → Option (List FiledEntry)
reads_side side members = member_or (reads_array reads_entry) (side_name side) [] members

-- The comments of all entries with this position, in the order of the entries.
abbrev pub comments_at : ℕ → List FiledEntry → List DependencyComment
comments_at position entries = flat_map (λ e. if e.position == position then e.comments else []) entries

-- The comments of all entries, in the order of the entries.
abbrev pub all_comments : List FiledEntry → List DependencyComment
all_comments entries = flat_map (λ e. e.comments) entries

-- The comments of a position, if there are any, followed by others; `None` where there are neither.
abbrev pub followed_by : Option (List DependencyComment) → List DependencyComment
    → Option (List DependencyComment)
followed_by found [] = found
followed_by found (x ∷ xs) = Some (unwrap_or found [] ++ x ∷ xs)

-- The comments of a side are those of these entries.
pub record HasCommentsOf (entries : List FiledEntry) (filing : Filing) : Type 0 where
  -- The positions ascend.
  pub ascending : Ascends filing
  -- A position has the comments of its entries, in their order. A position without comments is left out.
  pub at_each : (position : ℕ) → value_at filing position ≡ followed_by None (comments_at position entries)
  -- Each comment is there as often as the entries have it.
  pub all : IsPermutation (all_comments entries) (all_items filing)

-- The entries of `leading` and of `trailing`.
pub record Sides : Type 0 where
  pub leading : List FiledEntry
  pub trailing : List FiledEntry

-- The entries of both members of a document.
unfoldable pub reads_sides : Members → Option Sides
reads_sides members = do
  leading ← reads_side Leading members
  trailing ← reads_side Trailing members
  Some (record { leading = leading; trailing = trailing })

-- The comments of each side are those of its entries.
abbrev pub AreThoseOf : Sides → FiledComments → Type 0
AreThoseOf sides comments = HasCommentsOf sides.leading comments.leading
    × HasCommentsOf sides.trailing comments.trailing

-- The comments are those of these entries, and the program is this one.
abbrev pub HasTree : Sides × Program → FiledComments × Program → Type 0
HasTree contents tree = AreThoseOf contents.0 tree.0 × (tree.1 ≡ contents.1)
