-- Documents with the tree of a parser, as ESTree describes it, and the module documents that they are.
use Rattle.std.specs.Prelude.{◌&&◌, ◌||◌, ℕ, List, [], ◌∷◌, ◌++◌, codes, Bool, true, false, not, length}
use Rattle.std.specs.Prelude.{nat_eq, Option, Some, if◌then◌else◌}
use Rattle.std.specs.List.{starts_with}
use Rattle.serde_json.specs.Data.{Data, Members}
use Rattle.serde_json.specs.Find.{as_object, as_str}
use Rattle.deno_graph_base.specs.declared.text.position.SourceRange.{SourceRange}
use Rattle.deno_graph_json.specs.Read.Partial.{◌>>=◌, member_at, member_or, reads_array}
use Rattle.deno_graph_source.specs.declared.tree.node.Node.{Node}
use Rattle.deno_graph_source.specs.declared.tree.node.Program.{Program as ParsedProgram}
use Rattle.modinfo_document.specs.Comments.{Sides}
use Rattle.modinfo_document.specs.Document.{Contents}
use Rattle.modinfo_document.specs.Kind.{media_types}
use Rattle.modinfo_document.specs.Named.{reads_named}
use Rattle.modinfo_estree.specs.Comments.{comment_ranges, sides_of}
use Rattle.modinfo_estree.specs.Member.{is_present, reads_range}
use Rattle.modinfo_estree.specs.Node.{reads_node}
use Rattle.modinfo_estree.specs.Offsets.{Counted}
use Rattle.modinfo_estree.specs.Source.{EstreeSource, byte_in}
use Rattle.modinfo_estree.specs.Tokens.{Layout, layout}
use Rattle.modinfo_estree.specs.ValueEnds.{value_ends}
use Rattle.modinfo_estree.specs.declared.offsets.OffsetUnit.{OffsetUnit}
use Rattle.modinfo_estree.specs.declared.offsets.OffsetUnit.TheVariants.{Utf16, Utf8}
use Rattle.modinfo_estree.specs.declared.program.Outermost.{Outermost}
use Rattle.modinfo_estree.specs.declared.program.Outermost.TheVariants.{File, Program}
use Rattle.modinfo_estree.specs.declared.program.ProgramType.{ProgramType}
use Rattle.modinfo_estree.specs.declared.program.ProgramType.TheVariants as inner
use Rattle.modinfo_estree.specs.declared.role.Role.TheVariants.{Other}

-- The units of offsets, by name.
abbrev pub units : List (List ℕ × OffsetUnit)
units = (codes "utf16", Utf16) ∷ (codes "utf8", Utf8) ∷ []

-- What the outermost node is, by its type: a program, or the `File` around one, as Babel has it.
abbrev pub outermost_types : List (List ℕ × Outermost)
outermost_types = (codes "Program", Program) ∷ (codes "File", File) ∷ []

-- The type of a program inside of a file.
abbrev pub program_types : List (List ℕ × ProgramType)
program_types = (codes "Program", inner.Program) ∷ []

-- Ranges of comments, in the tree of a text.
module _ (counted : Counted) where
  unfoldable pub reads_comment : Data → Option SourceRange
  reads_comment value = do
    members ← as_object value
    reads_range (byte_in counted) members

  -- The member `comments`, none if it isn't there.
  abbrev pub comments_in : Members → Option (List SourceRange)
  comments_in members = if is_present (codes "comments") members
      then member_at (reads_array reads_comment) (codes "comments") members else Some []

  unfoldable pub comments_of_program : Data → Option (List SourceRange)
  comments_of_program program = do
    members ← as_object program
    comments_in members

  -- The comments of a document: its own, or those of its program.
  unfoldable pub reads_comments : Members → Option (List SourceRange)
  reads_comments members = if is_present (codes "comments") members
      then member_at (reads_array reads_comment) (codes "comments") members
      else member_at comments_of_program (codes "program") members

-- The statements of a program, in the tree of a source.
module _ (source : EstreeSource) where
  unfoldable pub reads_body : Members → Option (List Node)
  reads_body members = do
    directives ← member_or (reads_array (reads_node source Other)) (codes "directives") [] members
    body ← member_at (reads_array (reads_node source Other)) (codes "body") members
    Some (directives ++ body)

  unfoldable pub reads_program : Data → Option (List Node)
  reads_program value = do
    members ← as_object value
    type ← member_at (reads_named program_types) (codes "type") members
    reads_body members

  -- What is inside of the outermost node.
  abbrev pub reads_inside : Members → Outermost → Option (List Node)
  reads_inside members Program = reads_body members
  reads_inside members File = member_at reads_program (codes "program") members

  -- A program, or the `File` around one.
  unfoldable pub reads_file : Data → Option (List Node)
  reads_file value = do
    members ← as_object value
    outermost ← member_at (reads_named outermost_types) (codes "type") members
    reads_inside members outermost

-- Whether a text begins with `#!`, after a byte order mark if there is one.
abbrev pub has_shebang : List ℕ → Bool
has_shebang text =
    starts_with nat_eq text (codes "#!") || starts_with nat_eq text (0xEF ∷ 0xBB ∷ 0xBF ∷ codes "#!")

-- Whether there is no statement.
abbrev pub has_none : List Node → Bool
has_none [] = true
has_none (_ ∷ _) = false

-- Whether a text with these statements has no token.
abbrev pub is_empty : List ℕ → List Node → Bool
is_empty text body = has_none body && not (has_shebang text)

-- The comments and the program of a text.
abbrev pub tree_of : List ℕ → Layout → List SourceRange → List Node → Sides × ParsedProgram
tree_of text layout comments body = (
  sides_of text layout (value_ends text body) (is_empty text body) (comment_ranges text comments),
  record {
    range = record { start = 0; end = length text };
    body = body;
    has_shebang = has_shebang text;
  },
)

-- The source of a text with these comments.
abbrev pub source_with : Counted → List SourceRange → EstreeSource
source_with counted comments = record {
  text = counted.text;
  counted = counted;
  gaps = (layout counted.text comments).is_gap;
}

unfoldable pub reads_tree : Counted → Members → Option (Sides × ParsedProgram)
reads_tree counted members = do
  comments ← reads_comments counted members
  body ← member_at (reads_file (source_with counted comments)) (codes "program") members
  Some (tree_of counted.text (layout counted.text comments) comments body)

-- `{"specifier":TEXT,"mediaType":NAME,"source":TEXT,"offsets":UNIT,"comments":[COMMENT ..],"program":NODE}`.
-- The program is the whole text, whatever the range of its node is, which some parsers begin at the first
-- token.
unfoldable pub reads_estree : Data → Option Contents
reads_estree value = do
  members ← as_object value
  specifier ← member_at as_str (codes "specifier") members
  media_type ← member_at (reads_named media_types) (codes "mediaType") members
  text ← member_at as_str (codes "source") members
  unit ← member_or (reads_named units) (codes "offsets") Utf16 members
  tree ← reads_tree (record { unit = unit; text = text }) members
  Some (record {
    specifier = specifier;
    media_type = media_type;
    source = text;
    comments = tree.0;
    program = tree.1;
  })
