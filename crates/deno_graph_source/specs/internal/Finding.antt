-- What the checks of a source find: a fault, and the part of the source that has it.
use Rattle.std.specs.Prelude.{◌≡◌, ℕ, List, Contains, reverse, IsSomeAnd, Some, ⊤}
use Rattle.deno_graph_source.specs.Comments.{FiledComments, comments_of}
use Rattle.deno_graph_source.specs.FaultPlace.{RangeHas, CommentHas, PartHas, Overlap, comment_at}
use Rattle.deno_graph_source.specs.NodePath.{node_below, LeadsTo}
use Rattle.deno_graph_source.specs.declared.tree.check.finding.Finding.{Finding}
use Rattle.deno_graph_source.specs.declared.tree.check.finding.Finding.TheVariants.{Program as ProgramFinding}
use Rattle.deno_graph_source.specs.declared.tree.check.finding.Finding.TheVariants.{Node as TreeFinding}
use Rattle.deno_graph_source.specs.declared.tree.check.finding.Finding.TheVariants.{Comment as TextFinding}
use Rattle.deno_graph_source.specs.declared.tree.check.finding.Finding.TheVariants.{Overlap as OverlapFinding}
use Rattle.deno_graph_source.specs.declared.tree.check.finding.CommentFinding.{CommentFinding}
use Rattle.deno_graph_source.specs.declared.tree.check.finding.NodeFinding.{NodeFinding}
use Rattle.deno_graph_source.specs.declared.tree.comments.DependencyComment.{DependencyComment}
use Rattle.deno_graph_source.specs.declared.tree.fault.SourceFault.{SourceFault}
use Rattle.deno_graph_source.specs.declared.tree.fault.SourceFault.TheVariants.{CommentsOverlap}
use Rattle.deno_graph_source.specs.declared.tree.comments.CommentPlace.{CommentPlace}
use Rattle.deno_graph_source.specs.declared.tree.fault_place.FaultPlace.{FaultPlace}
use Rattle.deno_graph_source.specs.declared.tree.fault_place.FaultPlace.TheVariants.{Program as AtProgram}
use Rattle.deno_graph_source.specs.declared.tree.fault_place.FaultPlace.TheVariants.{Node as AtNode}
use Rattle.deno_graph_source.specs.declared.tree.fault_place.FaultPlace.TheVariants.{Comment as AtComment}
use Rattle.deno_graph_source.specs.declared.tree.fault_place.FaultPlace.TheVariants.{Comments as AtComments}
use Rattle.deno_graph_source.specs.declared.tree.node.Node.{Node}
use Rattle.deno_graph_source.specs.declared.tree.node.Program.{Program}

-- the path, read from its end, leads from this node to one that has the fault
abbrev pub IsFindingBelow : List ℕ → Node → NodeFinding → Type 0
IsFindingBelow text node found =
    IsSomeAnd (node_below (Some node) (reverse found.reversed_path.items))
    (λ below. PartHas text found.at.fault below found.at.part)

-- the path, read from its end, leads from the body to a node that has the fault
abbrev pub IsFindingInBody : List ℕ → Program → NodeFinding → Type 0
IsFindingInBody text program found =
    LeadsTo (λ node. PartHas text found.at.fault node found.at.part) program.body
    (reverse found.reversed_path.items)

-- the comment is in the list and has the fault
abbrev pub IsFindingAmong : List ℕ → List DependencyComment → CommentFinding → Type 0
IsFindingAmong text comments found =
    Contains comments found.comment.now × CommentHas text found.fault found.comment.now

-- the source has the fault: in the program's range, in a node, in a comment or in two comments
abbrev pub IsFindingIn : List ℕ → Program → FiledComments → Finding → Type 0
IsFindingIn text program comments (ProgramFinding fault) = RangeHas text fault program.range
IsFindingIn text program comments (TreeFinding found) = IsFindingInBody text program found
IsFindingIn text program comments (TextFinding found) = IsFindingAmong text (comments_of comments) found
IsFindingIn text program comments (OverlapFinding one other) =
    Contains (comments_of comments) one.now × Contains (comments_of comments) other.now
    × Overlap one.now other.now

-- the fault without the part that has it
abbrev pub finding_fault : Finding → SourceFault
finding_fault (ProgramFinding fault) = fault
finding_fault (TreeFinding found) = found.at.fault
finding_fault (TextFinding found) = found.fault
finding_fault (OverlapFinding one other) = CommentsOverlap

-- the comments of the finding are filed
abbrev pub AreFiled : FiledComments → Finding → Type 0
AreFiled comments (TextFinding found) = Contains (comments_of comments) found.comment.now
AreFiled comments (OverlapFinding one other) =
    Contains (comments_of comments) one.now × Contains (comments_of comments) other.now
AreFiled comments _ = ⊤

-- the place is that of the part of the source that has the fault
abbrev pub IsPlaceOf : FiledComments → Finding → FaultPlace → Type 0
IsPlaceOf comments (ProgramFinding fault) place = place ≡ AtProgram
IsPlaceOf comments (TreeFinding found) place = place
    ≡ AtNode (reverse found.reversed_path.items) found.at.part
IsPlaceOf comments (TextFinding found) place =
    (at : CommentPlace) × (place ≡ AtComment at) × (comment_at comments at ≡ Some found.comment.now)
IsPlaceOf comments (OverlapFinding one other) place =
    (a : CommentPlace) × (b : CommentPlace) × (place ≡ AtComments a b)
    × (comment_at comments a ≡ Some one.now) × (comment_at comments b ≡ Some other.now)
