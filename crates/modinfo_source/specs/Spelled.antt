-- Trees whose literals have the values that their slices of the text spell, by ECMA-262's definitions of a
-- string's and a template's value.
use Rattle.std.specs.Prelude.{◌≡◌, ℕ, ◌+◌, ◌-◌, ◌<◌, ◌≤◌, ⊤, List, [], ◌∷◌, map, slice_index, All, Option}
use Rattle.std.specs.Prelude.{Some, None}
use Rattle.std.specs.List.{Contains}
use Rattle.deno_graph_base.specs.SourceRange.{IsTextRange, slice_of}
use Rattle.deno_graph_base.specs.declared.text.position.SourceRange.{SourceRange}
use Rattle.deno_graph_source.specs.Node.{kind_of, range_of, children_of, literal_of, nodes_of}
use Rattle.deno_graph_source.specs.declared.tree.node.Kind.{Kind}
use Rattle.deno_graph_source.specs.declared.tree.node.Kind.TheVariants as kind
use Rattle.deno_graph_source.specs.declared.tree.node.Node.{Node}
use Rattle.deno_graph_source.specs.declared.tree.node.Program.{Program}
use Rattle.deno_graph_source.specs.declared.tree.node.PropKey.{PropKey}
use Rattle.deno_graph_source.specs.declared.tree.node.PropKey.TheVariants as key
use Rattle.deno_graph_source.specs.declared.tree.node.StrLit.{StrLit}
use Rattle.modinfo_imports.specs.Nodes.{part_claim}
use Rattle.modinfo_literals.specs.Literal.{Spells, SpellsCooked}
use Rattle.modinfo_pieces.specs.Tiles.{AreTiles}
use Rattle.modinfo_pieces.specs.declared.choice.Choice.{Choice}
use Rattle.modinfo_pieces.specs.declared.piece.Piece.{Piece}

-- the text has a string literal with this value at the range
pub record SpellsAt (text : List ℕ) (range : SourceRange) (value : List ℕ) : Type 0 where
  pub is_range : IsTextRange text range
  pub spells : Spells (slice_of text range) value

-- the text has a part of a template with this cooked value at the range, which is a piece with its marks
pub record CooksAt (text : List ℕ) (pieces : List Piece) (range : SourceRange) (value : List ℕ) : Type 0
  where
    pub is_range : IsTextRange text range
    pub cooks : SpellsCooked (slice_of text range) value
    pub is_piece : Contains pieces (part_claim text range)

-- the string literal of a kind, if it has one, is at its range
abbrev pub LiteralIsSpelled : List ℕ → Option StrLit → Type 0
LiteralIsSpelled text None = ⊤
LiteralIsSpelled text (Some literal) = SpellsAt text literal.range literal.value

-- a key that is a string is a string literal at the start of its property
abbrev pub KeyIsSpelled : List ℕ → SourceRange → PropKey → Type 0
KeyIsSpelled text range (key.Str value) = (slice : SourceRange) × (slice.start ≡ range.start) × SpellsAt
    text slice value
KeyIsSpelled text range _ = ⊤

-- a part of a template starts after the backquote at the template's start
abbrev pub IsFirstPart : List ℕ → ℕ → SourceRange → Type 0
IsFirstPart text from part = (slice_index text from ≡ 96) × (part.start ≡ from + 1)

-- `${` follows a part of a template, and then a child
abbrev pub IsBeforeChild : List ℕ → SourceRange → SourceRange → Type 0
IsBeforeChild text part child =
    (part.start ≤ part.end) × (slice_index text part.end ≡ 36) × (slice_index text (part.end + 1) ≡ 123)
    × (part.end + 2 ≤ child.start)

-- a `}` that is after a child is right before a part of a template
abbrev pub IsAfterChild : List ℕ → SourceRange → SourceRange → Type 0
IsAfterChild text child part =
    (child.start ≤ child.end) × (child.end < part.start) × (slice_index text (part.start - 1) ≡ 125)

-- the backquote at a template's end follows a part
abbrev pub IsLastPart : List ℕ → SourceRange → ℕ → Type 0
IsLastPart text part to = (part.start ≤ part.end) × (slice_index text part.end ≡ 96) × (part.end + 1 ≡ to)

-- Children and parts follow a part of a template by turns, up to the template's end. By ECMA-262 a part
-- before a child is in a TemplateHead or a TemplateMiddle, and a part after a child in a TemplateMiddle or a
-- TemplateTail.
abbrev pub FollowByTurns : List ℕ → SourceRange → List SourceRange → List SourceRange → ℕ → Type 0
FollowByTurns text part [] [] to = IsLastPart text part to
FollowByTurns text part (next ∷ parts) (child ∷ children) to =
    IsBeforeChild text part child × IsAfterChild text child next × FollowByTurns text next parts children to
FollowByTurns text part parts children to = ⊥

-- The ranges are those of all parts of a template at a range with children at these ranges. By ECMA-262 the
-- only part of a template without children is in a NoSubstitutionTemplate.
abbrev pub AreParts : List ℕ → SourceRange → List SourceRange → List SourceRange → Type 0
AreParts text range children [] = ⊥
AreParts text range children (part ∷ parts) =
    IsFirstPart text range.start part × FollowByTurns text part parts children range.end

-- each value is the cooked value of the part at its range
abbrev pub CookEach : List ℕ → List Piece → List SourceRange → List (List ℕ) → Type 0
CookEach text pieces [] [] = ⊤
CookEach text pieces (part ∷ parts) (value ∷ values) =
    CooksAt text pieces part value × CookEach text pieces parts values
CookEach text pieces parts values = ⊥

-- A template at a range with these children has parts with these cooked values. A part with a cooked value
-- has a backquote or `${` only in an escape, so the part ends at the first of them that is in no escape.
pub record TemplateIsSpelled (text : List ℕ) (pieces : List Piece) (range : SourceRange)
    (children : List Node) (values : List (List ℕ)) : Type 0 where
  pub parts : List SourceRange
  pub are_parts : AreParts text range (map range_of children) parts
  pub cooked : CookEach text pieces parts values

-- what a node's kind says of the text besides its literal
abbrev pub ValueIsSpelled : List ℕ → List Piece → SourceRange → List Node → Kind → Type 0
ValueIsSpelled text pieces range children (kind.Str value) = SpellsAt text range value
ValueIsSpelled text pieces range children (kind.KeyValue key) = KeyIsSpelled text range key
ValueIsSpelled text pieces range children (kind.Template values) =
    TemplateIsSpelled text pieces range children values
ValueIsSpelled text pieces range children _ = ⊤

-- each literal of a kind, of a node at a range with these children, has the value that the text spells
pub record KindIsSpelled (text : List ℕ) (pieces : List Piece) (range : SourceRange) (children : List Node)
    (kind : Kind) : Type 0 where
  pub literal : LiteralIsSpelled text (literal_of kind)
  pub value : ValueIsSpelled text pieces range children kind

-- each literal of a node has the value that its slice of the text spells
abbrev pub NodeIsSpelled : List ℕ → List Piece → Node → Type 0
NodeIsSpelled text pieces node = KindIsSpelled text pieces (range_of node) (children_of node) (kind_of node)

-- The text is pieces side by side, and each literal of a program has the value that its slice of the text
-- spells.
pub record IsSpelled (text : List ℕ) (program : Program) : Type 0 where
  pub choices : List Choice
  pub pieces : List Piece
  pub are_tiles : AreTiles text choices pieces
  pub spelled : All (NodeIsSpelled text pieces) (nodes_of program)
