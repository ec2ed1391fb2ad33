-- The places of the faults of a source: their ranges, and their paths in the JSON of a module document. The
-- first step of a path is the innermost.
use Rattle.std.specs.Prelude.{◌≡◌, ℕ, List, [], ◌∷◌, codes, Option, Some, None, IsSome, IsSomeAnd, option_map}
use Rattle.std.specs.Prelude.{slice_get, String}
use Rattle.std.specs.String.{string_bytes}
use Rattle.std.specs.declared.alloc.Global.{Global}
use Rattle.serde_json.specs.Data.{Data}
use Rattle.deno_graph_base.specs.declared.text.position.SourceRange.{SourceRange}
use Rattle.deno_graph_json.specs.Read.Error.{data_at}
use Rattle.deno_graph_json.specs.Read.Partial.{◌>>=◌}
use Rattle.deno_graph_json.specs.declared.error.Step.{Step}
use Rattle.deno_graph_json.specs.declared.error.Step.TheVariants.{Item, Member}
use Rattle.deno_graph_source.specs.Comments.{FiledComments}
use Rattle.deno_graph_source.specs.FaultPlace.{comment_at}
use Rattle.deno_graph_source.specs.Node.{args_of, kind_of, literal_of, range_of}
use Rattle.deno_graph_source.specs.NodePath.{LeadsTo, NodePath, node_at}
use Rattle.deno_graph_source.specs.declared.tree.comments.CommentPlace.{CommentPlace}
use Rattle.deno_graph_source.specs.declared.tree.comments.CommentSide.{CommentSide}
use Rattle.deno_graph_source.specs.declared.tree.fault.SourceFault.{SourceFault}
use Rattle.deno_graph_source.specs.declared.tree.fault.SourceFault.TheVariants.{CommentText}
use Rattle.deno_graph_source.specs.declared.tree.fault_place.FaultPlace.{FaultPlace}
use Rattle.deno_graph_source.specs.declared.tree.fault_place.FaultPlace.TheVariants.{Program as AtProgram}
use Rattle.deno_graph_source.specs.declared.tree.fault_place.FaultPlace.TheVariants.{Node as AtNode}
use Rattle.deno_graph_source.specs.declared.tree.fault_place.FaultPlace.TheVariants.{Comment as AtComment}
use Rattle.deno_graph_source.specs.declared.tree.fault_place.FaultPlace.TheVariants.{Comments as AtComments}
use Rattle.deno_graph_source.specs.declared.tree.fault_place.NodePart.{NodePart}
use Rattle.deno_graph_source.specs.declared.tree.fault_place.NodePart.TheVariants.{Range, Literal, Argument}
use Rattle.deno_graph_source.specs.declared.tree.fault_place.NodePart.TheVariants.{Children}
use Rattle.deno_graph_source.specs.declared.tree.node.Kind.{Kind}
use Rattle.deno_graph_source.specs.declared.tree.node.Node.{Node}
use Rattle.deno_graph_source.specs.declared.tree.node.Program.{Program}
use Rattle.modinfo_document.specs.Comments.{reads_comment, side_name}
use Rattle.modinfo_document.specs.Kind.{literal_member}
use Rattle.modinfo_document.specs.Node.{reads_node}
use Rattle.modinfo_document.specs.Pointer.{pointer_text}

-- The range of a part of a node; for its children, the node's.
abbrev pub part_range : Node → NodePart → Option SourceRange
part_range node Range = Some (range_of node)
part_range node Literal = option_map (λ literal. literal.range) (literal_of (kind_of node))
part_range node (Argument number) = option_map (λ arg. arg.range) (slice_get (args_of (kind_of node)) number)
part_range node (Children rule) = Some (range_of node)

-- The range at a place: of the program, a part of a node, or a comment. Of two comments, the second's.
abbrev pub range_at : Program → FiledComments → FaultPlace → Option SourceRange
range_at program comments AtProgram = Some program.range
range_at program comments (AtNode path part) = node_at program.body path >>= (λ node. part_range node part)
range_at program comments (AtComment place) = option_map (λ comment. comment.range)
    (comment_at comments place)
range_at program comments (AtComments one other) = option_map (λ comment. comment.range)
    (comment_at comments other)

-- The range of the value at a path.
abbrev pub range_in : List Step → List Step
range_in path = Member (codes "range") ∷ path

abbrev pub program_path : List Step
program_path = Member (codes "program") ∷ []

abbrev pub specifier_path : List Step
specifier_path = Member (codes "specifier") ∷ []

-- The path of a node below the node at a path, by the indices of children.
abbrev pub path_below : List Step → NodePath → List Step
path_below path [] = path
path_below path (index ∷ indices) = path_below (Item index ∷ Member (codes "children") ∷ path) indices

-- The path of the node with these indices; without an index, that of the program.
abbrev pub node_path : NodePath → List Step
node_path [] = program_path
node_path (index ∷ indices) = path_below (Item index ∷ Member (codes "body") ∷ program_path) indices

-- The path leads to the value that the node was read from.
abbrev pub LeadsToNode : Data → List Step → Node → Type 0
LeadsToNode value path node = (data_at path value >>= reads_node) ≡ Some node

-- The path of a part of the node at a path: its range, the range of its literal or of an argument, or, for
-- its children, the node.
abbrev pub part_path : Kind → NodePart → List Step → List Step
part_path kind Range node = range_in node
part_path kind Literal node = range_in (Member (literal_member kind) ∷ node)
part_path kind (Argument number) node = range_in (Item number ∷ Member (codes "args") ∷ node)
part_path kind (Children rule) node = node

-- The path of the comment with this number in an entry of a side.
abbrev pub comment_path : CommentSide → ℕ → ℕ → List Step
comment_path side entry number =
    Item number ∷ Member (codes "comments") ∷ Item entry ∷ Member (side_name side) ∷ []

-- The path leads to the value that the comment at a place was read from.
abbrev pub IsCommentPath : Data → FiledComments → CommentPlace → List Step → Type 0
IsCommentPath value comments place path = (entry : ℕ) × (number : ℕ)
    × (path ≡ comment_path place.side entry number)
    × ((data_at path value >>= reads_comment) ≡ comment_at comments place)

-- The path of the part of a comment that has this fault: the comment if its text is another, else its range.
abbrev pub comment_part : SourceFault → List Step → List Step
comment_part CommentText comment = comment
comment_part fault comment = range_in comment

-- There is a value at the path, and the pointer is the path as a JSON Pointer.
abbrev pub Points : Data → List Step → Option (String Global) → Type 0
Points value path pointer = IsSome (data_at path value)
    × IsSomeAnd pointer (λ text. string_bytes text ≡ pointer_text path)

-- The pointer leads to the part that has this fault; of two comments, to the second.
abbrev pub PointsToFault : Data → Program → FiledComments → SourceFault → FaultPlace → Option (String Global)
    → Type 0
PointsToFault value program comments fault AtProgram pointer = Points value (range_in program_path) pointer
PointsToFault value program comments fault (AtNode indices part) pointer =
    LeadsTo (λ node. Points value (part_path (kind_of node) part (node_path indices)) pointer)
    program.body indices
PointsToFault value program comments fault (AtComment place) pointer = (path : List Step)
    × IsCommentPath value comments place path × Points value (comment_part fault path) pointer
PointsToFault value program comments fault (AtComments one other) pointer = (path : List Step)
    × IsCommentPath value comments other path × Points value path pointer

-- The pointer leads to the first of two comments. There is none for any other place.
abbrev pub PointsToOther : Data → FiledComments → FaultPlace → Option (String Global) → Type 0
PointsToOther value comments (AtComments one other) pointer = (path : List Step)
    × IsCommentPath value comments one path × Points value path pointer
PointsToOther value comments place pointer = pointer ≡ None
