-- The results of the checks of a source: `Ok` or `None` without a fault, and else a fault.
use Rattle.std.specs.Prelude.{◌≡◌, ◌≢◌, ℕ, ◌+◌, ◌<◌, ◌≤◌, List, Any, All, ◌⊎◌, length, slice_get}
use Rattle.std.specs.Prelude.{slice_index_or, IsSomeAnd, Option, MatchOption, Result, MatchResult}
use Rattle.std.specs.Borrow.{Bor}
use Rattle.std.specs.List.{AllAdjacentBelow}
use Rattle.std.specs.Option.{option_to_list}
use Rattle.deno_graph_source.specs.Comments.{FiledComments}
use Rattle.deno_graph_source.specs.FaultPlace.{RangeHas, CommentHas, PartHas}
use Rattle.deno_graph_source.specs.internal.Finding.{IsFindingBelow, IsFindingInBody, IsFindingAmong}
use Rattle.deno_graph_source.specs.Node.{held_ranges, literal_of, nodes_in, nodes_of, IsShaped}
use Rattle.deno_graph_source.specs.Source.{IsSpelled, IsValid, HasFault}
use Rattle.deno_graph_base.specs.SourceRange.{IsTextRange}
use Rattle.deno_graph_base.specs.declared.text.position.SourceRange.{SourceRange}
use Rattle.deno_graph_source.specs.declared.tree.check.finding.CommentFinding.{CommentFinding}
use Rattle.deno_graph_source.specs.declared.tree.check.finding.NodeFinding.{NodeFinding}
use Rattle.deno_graph_source.specs.declared.tree.check.finding.PartFinding.{PartFinding}
use Rattle.deno_graph_source.specs.declared.tree.comments.DependencyComment.{DependencyComment}
use Rattle.deno_graph_source.specs.declared.tree.fault.SourceFault.{SourceFault}
use Rattle.deno_graph_source.specs.declared.tree.fault.SourceFault.TheVariants.{OutOfMemory}
use Rattle.deno_graph_source.specs.declared.tree.fault_place.NodePart.{NodePart}
use Rattle.deno_graph_source.specs.declared.tree.fault_place.NodePart.TheVariants.{Literal, Argument}
use Rattle.deno_graph_source.specs.declared.tree.node.Arg.{Arg}
use Rattle.deno_graph_source.specs.declared.tree.node.Kind.{Kind}
use Rattle.deno_graph_source.specs.declared.tree.node.Node.{Node}
use Rattle.deno_graph_source.specs.declared.tree.node.Program.{Program}

-- the node itself has no fault
abbrev pub IsSound : List ℕ → Node → Type 0
IsSound text node = All (IsTextRange text) (held_ranges node) × IsShaped node

-- the result of a check of ranges: `Ok` if no range has a fault, and else a fault of a range
abbrev pub JudgesRanges : List ℕ → List SourceRange → Result (Unit {0}) SourceFault → Type 0
JudgesRanges text ranges result =
    MatchResult result (λ _. All (IsTextRange text) ranges)
    (λ fault. Any (RangeHas text fault) ranges)

-- the result of a check of the range of a part of a node, which names the part
abbrev pub JudgesPart : List ℕ → SourceRange → NodePart → Result (Unit {0}) PartFinding → Type 0
JudgesPart text range part result =
    MatchResult result (λ _. IsTextRange text range)
    (λ found. (found.part ≡ part) × RangeHas text found.fault range)

-- the result of a check of the literal of a kind
abbrev pub JudgesLiteral : List ℕ → Kind → Result (Unit {0}) PartFinding → Type 0
JudgesLiteral text kind result =
    MatchResult result
    (λ _. All (λ literal. IsTextRange text literal.range) (option_to_list (literal_of kind)))
    (λ found. (found.part ≡ Literal)
    × IsSomeAnd (literal_of kind) (λ literal. RangeHas text found.fault literal.range))

-- the result of a check of arguments, which has the index of the argument with a fault
abbrev pub JudgesArgs : List ℕ → List Arg → Result (Unit {0}) PartFinding → Type 0
JudgesArgs text args result =
    MatchResult result (λ _. All (λ arg. IsTextRange text arg.range) args)
    (λ found. (number : ℕ) × (found.part ≡ Argument number)
    × IsSomeAnd (slice_get args number) (λ arg. RangeHas text found.fault arg.range))

-- the result of a check of a node itself: `Ok` if it has no fault, and else a fault of a part
abbrev pub JudgesNode : List ℕ → Node → Result (Unit {0}) PartFinding → Type 0
JudgesNode text node result =
    MatchResult result (λ _. IsSound text node) (λ found. PartHas text found.fault node found.part)

-- the result of a check of a node and all nodes below it: `None` if no node has a fault
abbrev pub JudgesBelow : List ℕ → Node → Option NodeFinding → Type 0
JudgesBelow text node result =
    MatchOption result (All (IsSound text) (nodes_in node)) (IsFindingBelow text node)

-- the result of a check of all nodes of a program
abbrev pub JudgesBody : List ℕ → Program → Option NodeFinding → Type 0
JudgesBody text program result =
    MatchOption result (All (IsSound text) (nodes_of program)) (IsFindingInBody text program)

-- the result of a check of one comment
abbrev pub JudgesComment : List ℕ → DependencyComment → Result (Unit {0}) SourceFault → Type 0
JudgesComment text comment result =
    MatchResult result (λ _. IsSpelled text comment) (λ fault. CommentHas text fault comment)

-- the result of a check of comments: `None` if no comment has a fault
abbrev pub JudgesComments : List ℕ → List DependencyComment → Option CommentFinding → Type 0
JudgesComments text comments result =
    MatchOption result (All (IsSpelled text) comments) (IsFindingAmong text comments)

-- `b` starts at or after the end of `a`, or has the same range
abbrev pub Passes : DependencyComment → DependencyComment → Type 0
Passes a b = (a.range ≡ b.range) ⊎ (a.range.end ≤ b.range.start)

-- `b` has another range and starts before the end of `a`
abbrev pub RunsInto : DependencyComment → DependencyComment → Type 0
RunsInto a b = (a.range ≢ b.range) × (b.range.start < a.range.end)

-- `a` and `b` are neighbours in the list, and `b` runs into `a`
pub record AreNeighbours (comments : List DependencyComment) (a b : DependencyComment) : Type 0 where
  pub at : ℕ
  pub within : at + 1 < length comments
  pub first : (d : DependencyComment) → slice_index_or comments at d ≡ a
  pub second : (d : DependencyComment) → slice_index_or comments (at + 1) d ≡ b
  pub into : RunsInto a b

-- the result of a check of neighbours in a list: `None` if each comment passes the one before it
abbrev pub JudgesNeighbours : List DependencyComment
    → Option (Bor DependencyComment × Bor DependencyComment) → Type 0
JudgesNeighbours comments result =
    MatchOption result (AllAdjacentBelow Passes comments (length comments))
    (λ found. AreNeighbours comments found.0.now found.1.now)

-- the result of a check of a source
abbrev pub JudgesSource : List ℕ → Program → FiledComments → Result (Unit {0}) SourceFault → Type 0
JudgesSource text program comments result =
    MatchResult result (λ _. IsValid text program comments)
    (λ fault. (fault ≡ OutOfMemory) ⊎ HasFault text program comments fault)
