-- The faults and the validity of a source, from those of its parts.
use Rattle.std.proofs.Common.{◌≡◌, ℕ, List, Option, Some, map, length, reverse, refl, ⊎_elim, arith}
use Rattle.std.specs.Borrow.{Bor}
use Rattle.std.specs.List.{AllAdjacentBelow, Contains, All, slice_get}
use Rattle.std.specs.List.Sorted.{IsNonDecreasingBy, IsPermutation}
use Rattle.std.specs.Option.{option_to_list}
use Rattle.std.proofs.lemmas.List.Elements.{All-append, All-cons, All-contains, All-map, All-weaker}
use Rattle.std.proofs.lemmas.List.Elements.{Contains-append_left, Contains-append_right}
use Rattle.std.proofs.lemmas.List.Sorted.{All-permutation, Contains-permutation, IsPermutation-map}
use Rattle.std.proofs.lemmas.List.Sorted.{IsPermutation-sym, IsPermutation-trans}
use Rattle.deno_graph_source.specs.internal.Check.{AreNeighbours, IsSound, Passes}
use Rattle.deno_graph_source.specs.Comments.{FiledComments, comments_of}
use Rattle.deno_graph_source.specs.FaultPlace.{comment_at, BreaksRule, CommentHas, HasFaultAt, PartHas}
use Rattle.deno_graph_source.specs.FaultPlace.{RangeHas}
use Rattle.deno_graph_source.specs.internal.Finding.{IsFindingIn, finding_fault}
use Rattle.deno_graph_source.specs.Node.{args_of, held_ranges, kind_of, literal_of, nodes_of, program_ranges}
use Rattle.deno_graph_source.specs.Node.{range_of, IsShaped}
use Rattle.deno_graph_source.specs.NodePath.{NodePath, LeadsTo, node_at}
use Rattle.deno_graph_source.specs.Source.{HasOverlap, IsSpelled, IsValid, HasFault, ranges_of}
use Rattle.deno_graph_base.specs.SourceRange.{IsTextRange}
use Rattle.deno_graph_base.specs.declared.text.position.SourceRange.{SourceRange}
use Rattle.deno_graph_source.specs.declared.tree.check.finding.Finding.{Finding}
use Rattle.deno_graph_source.specs.declared.tree.check.finding.Finding.TheVariants.{Program as ProgramFinding}
use Rattle.deno_graph_source.specs.declared.tree.check.finding.Finding.TheVariants.{Node as TreeFinding}
use Rattle.deno_graph_source.specs.declared.tree.check.finding.Finding.TheVariants.{Comment as TextFinding}
use Rattle.deno_graph_source.specs.declared.tree.check.finding.Finding.TheVariants.{Overlap as OverlapFinding}
use Rattle.deno_graph_source.specs.declared.tree.comments.DependencyComment.{DependencyComment}
use Rattle.deno_graph_source.specs.declared.tree.fault.SourceFault.{SourceFault}
use Rattle.deno_graph_source.specs.declared.tree.fault.SourceFault.TheVariants.{RangeReversed, RangeOutside}
use Rattle.deno_graph_source.specs.declared.tree.fault.SourceFault.TheVariants.{RangeOffBoundary, CommentText}
use Rattle.deno_graph_source.specs.declared.tree.fault.SourceFault.TheVariants.{CommentsOverlap, Shape}
use Rattle.deno_graph_source.specs.declared.tree.fault.SourceFault.TheVariants.{OutOfMemory}
use Rattle.deno_graph_source.specs.declared.tree.fault_place.FaultPlace.{FaultPlace}
use Rattle.deno_graph_source.specs.declared.tree.fault_place.FaultPlace.TheVariants.{Program as AtProgram}
use Rattle.deno_graph_source.specs.declared.tree.fault_place.FaultPlace.TheVariants.{Node as AtNode}
use Rattle.deno_graph_source.specs.declared.tree.fault_place.FaultPlace.TheVariants.{Comment as AtComment}
use Rattle.deno_graph_source.specs.declared.tree.fault_place.FaultPlace.TheVariants.{Comments as AtComments}
use Rattle.deno_graph_source.specs.declared.tree.fault_place.NodePart.{NodePart}
use Rattle.deno_graph_source.specs.declared.tree.fault_place.NodePart.TheVariants.{Range, Literal, Argument}
use Rattle.deno_graph_source.specs.declared.tree.fault_place.NodePart.TheVariants.{Children}
use Rattle.deno_graph_source.specs.declared.tree.fault_place.ShapeRule.{ShapeRule}
use Rattle.deno_graph_source.specs.declared.tree.fault_place.ShapeRule.TheVariants.{WithClause}
use Rattle.deno_graph_source.specs.declared.tree.fault_place.ShapeRule.TheVariants.{Template as TemplateRule}
use Rattle.deno_graph_source.specs.declared.tree.fault_place.ShapeRule.TheVariants.{Binary as BinaryRule}
use Rattle.deno_graph_source.specs.declared.tree.fault_place.ShapeRule.TheVariants.{KeyValue as KeyValueRule}
use Rattle.deno_graph_source.specs.declared.tree.fault_place.ShapeRule.TheVariants.{Call as CallRule}
use Rattle.deno_graph_source.specs.declared.tree.node.Node.{Node}
use Rattle.deno_graph_source.specs.declared.tree.node.Program.{Program}
use Rattle.deno_graph_source.specs.declared.tree.node.StrLit.{StrLit}
use Rattle.deno_graph_source.proofs.FiledComments.{Contains-comment_at}
use Rattle.deno_graph_source.proofs.Judgements.{Any-from}
use Rattle.deno_graph_source.proofs.Lists.{All-flat_map, Contains-cons, Contains-flat_map, Contains-map}
use Rattle.deno_graph_source.proofs.Neighbours.{IsNonDecreasingBy-map, apart_from_neighbours}
use Rattle.deno_graph_source.proofs.Neighbours.{overlap_of_neighbours}
use Rattle.deno_graph_source.proofs.NodePaths.{Contains-from_slice_get, Contains-node_at, some_from}

Contains-only_one : (o : Option StrLit) (literal : StrLit) → o ≡ Some literal
    → Contains (map (λ l. l.range) (option_to_list o)) literal.range
Contains-only_one o literal is = rw is (0, omega arith, refl)

module _ (text : List ℕ) (program : Program) (comments : FiledComments) where
  -- a fault of a range is a fault of the source
  range_stands : (fault : SourceFault) (range : SourceRange) → Contains (ranges_of program comments) range
      → RangeHas text fault range → HasFault text program comments fault
  range_stands RangeReversed range at h = Any-from _ _ range at h
  range_stands RangeOutside range at h = Any-from _ _ range at h
  range_stands RangeOffBoundary range at h = Any-from _ _ range at h
  range_stands CommentText range at h = absurd h
  range_stands CommentsOverlap range at h = absurd h
  range_stands Shape range at h = absurd h
  range_stands OutOfMemory range at h = h

  -- a fault of the program's range is a fault of the source
  program_range_stands : (fault : SourceFault) → RangeHas text fault program.range
      → HasFault text program comments fault
  unfolding ranges_of program_ranges
  program_range_stands fault h = range_stands fault program.range (0, omega arith, refl) h

  held_range_at : (node : Node) (range : SourceRange) → Contains (nodes_of program) node
      → Contains (held_ranges node) range → Contains (ranges_of program comments) range
  unfolding ranges_of program_ranges
  held_range_at node range at h =
      Contains-append_left (program_ranges program) (map (λ comment. comment.range) (comments_of comments))
      range (Contains-cons program.range _ range
      (Contains-flat_map held_ranges (nodes_of program) node range at h))

  held_range_stands : (fault : SourceFault) (node : Node) (range : SourceRange)
      → Contains (nodes_of program) node → Contains (held_ranges node) range → RangeHas text fault range
      → HasFault text program comments fault
  held_range_stands fault node range at held h =
      range_stands fault range (held_range_at node range at held) h

  broken_is_not_shaped : (node : Node) (rule : ShapeRule) → BreaksRule node rule → ¬ IsShaped node
  broken_is_not_shaped node WithClause broken = λ shaped. broken shaped.clause
  broken_is_not_shaped node TemplateRule broken = λ shaped. broken.1 shaped.count
  broken_is_not_shaped node BinaryRule broken = λ shaped. broken.1 shaped.count
  broken_is_not_shaped node KeyValueRule broken = λ shaped. broken.1 shaped.count
  broken_is_not_shaped node CallRule broken = λ shaped. broken.1 shaped.count

  -- a fault of a part of a node is a fault of the source
  part_stands : (fault : SourceFault) (node : Node) (part : NodePart) → Contains (nodes_of program) node
      → PartHas text fault node part → HasFault text program comments fault
  part_stands fault node Range at h =
      held_range_stands fault node (range_of node) at (0, omega arith, refl) h
  part_stands fault node Literal at h =
      let literal = some_from _ (literal_of (kind_of node)) h in
      held_range_stands fault node literal.0.range at
      (Contains-cons (range_of node) _ literal.0.range
      (Contains-append_left _ (map (λ arg. arg.range) (args_of (kind_of node))) literal.0.range
      (Contains-only_one (literal_of (kind_of node)) literal.0 literal.1))) literal.2
  part_stands fault node (Argument number) at h =
      let kind = kind_of node in
      let arg = some_from _ (slice_get (args_of kind) number) h in
      held_range_stands fault node arg.0.range at
      (Contains-cons (range_of node) _ arg.0.range
      (Contains-append_right (map (λ literal. literal.range) (option_to_list (literal_of kind))) _ arg.0.range
      (Contains-map (λ a. a.range) (args_of kind) arg.0
      (Contains-from_slice_get (args_of kind) number arg.0 arg.1)))) arg.2
  part_stands fault node (Children rule) at h =
      rw h.0 (Any-from (λ n. ¬ IsShaped n) (nodes_of program) node at (broken_is_not_shaped node rule h.1))

  -- a fault of a part of the node at a path is a fault of the source
  node_stands : (fault : SourceFault) (part : NodePart) (path : NodePath)
      → LeadsTo (λ node. PartHas text fault node part) program.body path
      → HasFault text program comments fault
  node_stands fault part path h =
      let found = some_from _ (node_at program.body path) h in
      part_stands fault found.0 part (Contains-node_at program path found.0 found.1) found.2

  comment_range_stands : (fault : SourceFault) (comment : DependencyComment)
      → Contains (comments_of comments) comment → RangeHas text fault comment.range
      → HasFault text program comments fault
  unfolding ranges_of
  comment_range_stands fault comment at h =
      range_stands fault comment.range (Contains-append_right (program_ranges program) _ comment.range
      (Contains-map (λ c. c.range) (comments_of comments) comment at)) h

  one_comment_stands : (fault : SourceFault) (comment : DependencyComment)
      → Contains (comments_of comments) comment → CommentHas text fault comment
      → HasFault text program comments fault
  one_comment_stands CommentText comment at h = Any-from _ (comments_of comments) comment at h
  one_comment_stands RangeReversed comment at h = comment_range_stands RangeReversed comment at h
  one_comment_stands RangeOutside comment at h = comment_range_stands RangeOutside comment at h
  one_comment_stands RangeOffBoundary comment at h = comment_range_stands RangeOffBoundary comment at h
  one_comment_stands CommentsOverlap comment at h = absurd h
  one_comment_stands Shape comment at h = absurd h
  one_comment_stands OutOfMemory comment at h = h

  -- a fault at a place is a fault of the source
  pub place_stands : (fault : SourceFault) (place : FaultPlace) → HasFaultAt text program comments fault place
      → HasFault text program comments fault
  place_stands fault AtProgram h = program_range_stands fault h
  place_stands fault (AtNode path part) h = node_stands fault part path h
  place_stands fault (AtComment place) h =
      let found = some_from _ (comment_at comments place) h in
      one_comment_stands fault found.0 (Contains-comment_at comments place found.0 found.1) found.2
  place_stands fault (AtComments a b) h =
      let one = some_from _ (comment_at comments a) h.1 in
      let other = some_from _ (comment_at comments b) one.2 in
      let overlap : HasOverlap (comments_of comments) = (
        one.0,
        other.0,
        Contains-comment_at comments a one.0 one.1,
        Contains-comment_at comments b other.0 other.1,
        other.2.0,
        other.2.1,
      ) in
      rw h.0 overlap

  -- a fault that a check finds is a fault of the source
  pub found_stands : (found : Finding) → IsFindingIn text program comments found
      → HasFault text program comments (finding_fault found)
  found_stands (ProgramFinding fault) h = program_range_stands fault h
  found_stands (TreeFinding found) h =
      node_stands found.at.fault found.at.part (reverse found.reversed_path.items) h
  found_stands (TextFinding found) h = one_comment_stands found.fault found.comment.now h.0 h.1
  found_stands (OverlapFinding one other) h = (one.now, other.now, h.0, h.1, h.2.0, h.2.1)

  -- a source with a fault is not valid
  pub fault_refutes : (fault : SourceFault) → HasFault text program comments fault
      → IsValid text program comments → ⊥
  fault_refutes RangeReversed h valid =
      let is = All-contains (IsTextRange text) (ranges_of program comments) h.1 valid.ranges
      (h.0, h.2, h.3) in
      absurd (omega (arith, is.ordered, h.4))
  fault_refutes RangeOutside h valid =
      let is = All-contains (IsTextRange text) (ranges_of program comments) h.1 valid.ranges
      (h.0, h.2, h.3) in
      ⊎_elim (λ above. omega (arith, above, is.start.0)) (λ above. omega (arith, above, is.end.0)) h.4
  fault_refutes RangeOffBoundary h valid =
      let is = All-contains (IsTextRange text) (ranges_of program comments) h.1 valid.ranges
      (h.0, h.2, h.3) in
      ⊎_elim (λ cuts. cuts.1 is.start) (λ cuts. cuts.1 is.end) h.4
  fault_refutes CommentText h valid =
      h.4 (All-contains (IsSpelled text) (comments_of comments) h.1 valid.spelled (h.0, h.2, h.3))
  fault_refutes CommentsOverlap h valid = h.4 (valid.apart h.0 h.1 h.2 h.3 h.5)
  fault_refutes Shape h valid =
      h.4 (All-contains IsShaped (nodes_of program) h.1 valid.shapes (h.0, h.2, h.3))
  fault_refutes OutOfMemory h valid = h

  -- a source without a fault, from its parts and its sorted comments
  valid_source : (all : List DependencyComment) → IsPermutation (comments_of comments) all
      → IsTextRange text program.range → All (IsSound text) (nodes_of program) → All (IsSpelled text) all
      → IsNonDecreasingBy (λ c. c.range.start) all → AllAdjacentBelow Passes all (length all)
      → IsValid text program comments
  unfolding ranges_of program_ranges
  valid_source all same in_range sound spelled rising passes =
      let moved = IsPermutation-sym _ _ same in
      let written = All-permutation (IsSpelled text) _ _ moved spelled in
      let held = All-flat_map (IsTextRange text) held_ranges (nodes_of program)
      (λ node at. (All-contains (IsSound text) (nodes_of program) node sound at).0) in
      let commented = All-map (IsTextRange text) (λ c. c.range) (comments_of comments)
      (All-weaker (IsSpelled text) (λ c. IsTextRange text c.range) (λ c is. is.range) _ written) in
      record {
        ranges = All-append (IsTextRange text) (program_ranges program) _
            (All-cons (IsTextRange text) program.range _ in_range held) commented;
        shapes = All-weaker (IsSound text) IsShaped (λ node is. is.1) (nodes_of program) sound;
        spelled = written;
        apart = λ a b at bt. apart_from_neighbours text all spelled rising passes a b
            (Contains-permutation _ _ a same at) (Contains-permutation _ _ b same bt);
      }

  module _ {R : Type 0} (now : R → DependencyComment) (all sorted : List R)
      (same : IsPermutation (comments_of comments) (map now all)) (moved : IsPermutation all sorted)
      (spelled : All (IsSpelled text) (map now all))
      (rising : IsNonDecreasingBy (λ r. (now r).range.start) sorted) where
    -- the comments, sorted as references
    again : IsPermutation (comments_of comments) (map now sorted)
    again = IsPermutation-trans _ _ _ same (IsPermutation-map now all sorted moved)

    spelled_again : All (IsSpelled text) (map now sorted)
    spelled_again = All-permutation (IsSpelled text) _ _ (IsPermutation-map now all sorted moved) spelled

    -- the source is valid, if each comment passes the one before it
    pub valid_sorted : IsTextRange text program.range → All (IsSound text) (nodes_of program)
        → AllAdjacentBelow Passes (map now sorted) (length (map now sorted))
        → IsValid text program comments
    valid_sorted in_range sound passes =
        valid_source (map now sorted) again in_range sound spelled_again
        (IsNonDecreasingBy-map now (λ c. c.range.start) sorted rising) passes

    -- comments overlap, if one runs into the one before it
    pub overlap_sorted : (a b : Bor DependencyComment) → AreNeighbours (map now sorted) a.now b.now
        → IsFindingIn text program comments (OverlapFinding a b)
    overlap_sorted a b are =
        let back = IsPermutation-sym _ _ again in
        let overlap = overlap_of_neighbours text (map now sorted) spelled_again
        (IsNonDecreasingBy-map now (λ c. c.range.start) sorted rising) a.now b.now are in (
          Contains-permutation _ _ a.now back overlap.0,
          Contains-permutation _ _ b.now back overlap.1,
          overlap.2,
        )
