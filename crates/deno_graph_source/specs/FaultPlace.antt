-- The places of the faults of a source.
use Rattle.std.specs.Prelude.{◌≡◌, ◌≢◌, ℕ, List, length, Option, Some, None, IsSomeAnd, slice_get}
use Rattle.deno_graph_source.specs.ByOffset.{item_at}
use Rattle.deno_graph_source.specs.Comments.{FiledComments, Filing}
use Rattle.deno_graph_source.specs.Node.{kind_of, range_of, children_of, literal_of, args_of, has_with}
use Rattle.deno_graph_source.specs.Node.{HasClause, HasCountOfKind}
use Rattle.deno_graph_source.specs.NodePath.{LeadsTo}
use Rattle.deno_graph_source.specs.Source.{IsReversed, IsOutside, IsOffBoundary, IsSpelled, SharesByte}
use Rattle.deno_graph_base.specs.declared.text.position.SourceRange.{SourceRange}
use Rattle.deno_graph_source.specs.declared.tree.comments.DependencyComment.{DependencyComment}
use Rattle.deno_graph_source.specs.declared.tree.fault.SourceFault.{SourceFault}
use Rattle.deno_graph_source.specs.declared.tree.fault.SourceFault.TheVariants.{RangeReversed, RangeOutside}
use Rattle.deno_graph_source.specs.declared.tree.fault.SourceFault.TheVariants.{RangeOffBoundary, CommentText}
use Rattle.deno_graph_source.specs.declared.tree.fault.SourceFault.TheVariants.{CommentsOverlap, Shape}
use Rattle.deno_graph_source.specs.declared.tree.comments.CommentPlace.{CommentPlace}
use Rattle.deno_graph_source.specs.declared.tree.comments.CommentSide.{CommentSide}
use Rattle.deno_graph_source.specs.declared.tree.comments.CommentSide.TheVariants.{Leading, Trailing}
use Rattle.deno_graph_source.specs.declared.tree.fault_place.FaultPlace.{FaultPlace}
use Rattle.deno_graph_source.specs.declared.tree.fault_place.FaultPlace.TheVariants.{Program as AtProgram}
use Rattle.deno_graph_source.specs.declared.tree.fault_place.FaultPlace.TheVariants.{Node as AtNode}
use Rattle.deno_graph_source.specs.declared.tree.fault_place.FaultPlace.TheVariants.{Comment as AtComment}
use Rattle.deno_graph_source.specs.declared.tree.fault_place.FaultPlace.TheVariants.{Comments as AtComments}
use Rattle.deno_graph_source.specs.declared.tree.fault_place.NodePart.{NodePart}
use Rattle.deno_graph_source.specs.declared.tree.fault_place.NodePart.TheVariants.{Range, Literal, Argument}
use Rattle.deno_graph_source.specs.declared.tree.fault_place.NodePart.TheVariants.{Children}
use Rattle.deno_graph_source.specs.declared.tree.fault_place.ShapeRule.{ShapeRule}
use Rattle.deno_graph_source.specs.declared.tree.fault_place.ShapeRule.TheVariants.{WithClause}
use Rattle.deno_graph_source.specs.declared.tree.fault_place.ShapeRule.TheVariants.{Template as TemplateRule}
use Rattle.deno_graph_source.specs.declared.tree.fault_place.ShapeRule.TheVariants.{Binary as BinaryRule}
use Rattle.deno_graph_source.specs.declared.tree.fault_place.ShapeRule.TheVariants.{KeyValue as KeyValueRule}
use Rattle.deno_graph_source.specs.declared.tree.fault_place.ShapeRule.TheVariants.{Call as CallRule}
use Rattle.deno_graph_source.specs.declared.tree.node.Kind.{Kind}
use Rattle.deno_graph_source.specs.declared.tree.node.Kind.TheVariants.{Template, Binary, KeyValue, Call}
use Rattle.deno_graph_source.specs.declared.tree.node.Node.{Node}
use Rattle.deno_graph_source.specs.declared.tree.node.Program.{Program}

-- the range has this fault
abbrev pub RangeHas : List ℕ → SourceFault → SourceRange → Type 0
RangeHas text RangeReversed range = IsReversed range
RangeHas text RangeOutside range = IsOutside text range
RangeHas text RangeOffBoundary range = IsOffBoundary text range
RangeHas text _ range = ⊥

-- the comment has this fault: the text at its range is another, or its range has the fault
abbrev pub CommentHas : List ℕ → SourceFault → DependencyComment → Type 0
CommentHas text CommentText comment = ¬ IsSpelled text comment
CommentHas text fault comment = RangeHas text fault comment.range

-- the rule on the number of children of a kind, if there is one
abbrev pub count_rule : Kind → Option ShapeRule
count_rule (Template quasis) = Some TemplateRule
count_rule (Binary op) = Some BinaryRule
count_rule (KeyValue key) = Some KeyValueRule
count_rule (Call callee args) = Some CallRule
count_rule _ = None

-- the node's children break this rule: the node has a `with` clause and the first child is no object
-- literal, or the rule is that on the number of children and the number is wrong
abbrev pub BreaksRule : Node → ShapeRule → Type 0
BreaksRule node WithClause = ¬ HasClause (has_with (kind_of node)) (children_of node)
BreaksRule node rule =
    (count_rule (kind_of node) ≡ Some rule) × (¬ HasCountOfKind (kind_of node) (length (children_of node)))

-- this part of the node has this fault: its range, the range of its literal or of an argument, or,
-- for the fault `Shape`, its children
abbrev pub PartHas : List ℕ → SourceFault → Node → NodePart → Type 0
PartHas text fault node Range = RangeHas text fault (range_of node)
PartHas text fault node Literal =
    IsSomeAnd (literal_of (kind_of node)) (λ literal. RangeHas text fault literal.range)
PartHas text fault node (Argument number) =
    IsSomeAnd (slice_get (args_of (kind_of node)) number) (λ arg. RangeHas text fault arg.range)
PartHas text fault node (Children rule) = (fault ≡ Shape) × BreaksRule node rule

-- the comments that are filed on this side
abbrev pub side_of : FiledComments → CommentSide → Filing
side_of comments Leading = comments.leading
side_of comments Trailing = comments.trailing

-- the comment that is filed at a place, if there is one
abbrev pub comment_at : FiledComments → CommentPlace → Option DependencyComment
comment_at comments place = item_at (side_of comments place.side) place.position place.number

-- the comments are unequal and share a byte
abbrev pub Overlap : DependencyComment → DependencyComment → Type 0
Overlap a b = (a ≢ b) × SharesByte a.range b.range

-- the source has this fault at this place: the program's own range, a part of the node to which the
-- path leads, the comment that is filed there, or the two comments that are filed there
abbrev pub HasFaultAt : List ℕ → Program → FiledComments → SourceFault → FaultPlace → Type 0
HasFaultAt text program comments fault AtProgram = RangeHas text fault program.range
HasFaultAt text program comments fault (AtNode path part) =
    LeadsTo (λ node. PartHas text fault node part) program.body path
HasFaultAt text program comments fault (AtComment place) =
    IsSomeAnd (comment_at comments place) (CommentHas text fault)
HasFaultAt text program comments fault (AtComments one other) =
    (fault ≡ CommentsOverlap)
    × IsSomeAnd (comment_at comments one) (λ a. IsSomeAnd (comment_at comments other) (Overlap a))
