use Rattle.std.proofs.Common.{◌≡◌, Err, IfOk, IsSome, IsSomeAnd, List, None, Ok, Option, Some, ap, refl}
use Rattle.std.proofs.Common.{subst, sym, ◌∙◌}
use Rattle.std.specs.Rc.{rc_str_bytes}
use Rattle.std.specs.String.{string_bytes}
use Rattle.deno_graph_json.specs.Data.{data_of}
use Rattle.deno_graph_json.specs.declared.error.Step.{Step}
use Rattle.deno_graph_source.specs.FaultPlace.{PartHas}
use Rattle.deno_graph_source.specs.Node.{kind_of}
use Rattle.deno_graph_source.specs.NodePath.{node_at}
use Rattle.deno_graph_source.specs.declared.tree.fault.SourceFault.{SourceFault}
use Rattle.deno_graph_source.specs.declared.tree.fault.SourceFault.TheVariants.{RangeReversed, RangeOutside}
use Rattle.deno_graph_source.specs.declared.tree.fault.SourceFault.TheVariants.{RangeOffBoundary, CommentText}
use Rattle.deno_graph_source.specs.declared.tree.fault.SourceFault.TheVariants.{CommentsOverlap, Shape}
use Rattle.deno_graph_source.specs.declared.tree.fault.SourceFault.TheVariants.{OutOfMemory}
use Rattle.deno_graph_source.specs.declared.tree.fault_place.FaultPlace.TheVariants.{Comment as AtComment}
use Rattle.modinfo_document.specs.Place.{Points, PointsToFault, comment_part, node_path, part_path, range_in}
use Rattle.modinfo_document.specs.Pointer.{pointer_text}
use Rattle.modinfo_document.proofs.PlaceRanges.{comment_points, is_some, part_points, program_points}
use Rattle.modinfo_document.proofs.Places.{node_leads}
use Rattle.modinfo_document.proofs.report.source.fault_pointer.Goals as goal

pub returns-in_ok-program_pointer-in-Program : goal.returns-in_ok-program_pointer-in-Program
returns-in_ok-program_pointer-in-Program c = λ contents is has fault.
    rw c.in-Program.is (
      program_points (data_of c.args.root) contents is,
      c.in_ok-program_pointer-in-Program.ensures,
    )

pub returns-in_ok-part_pointer-in-Some : goal.returns-in_ok-part_pointer-in-Some
returns-in_ok-part_pointer-in-Some c = λ contents is has fault.
    let document = c.args.document.now in
    let root = data_of c.args.root in
    let text = rc_str_bytes document.source in
    let path = c.in-Node.path in
    let part = c.in-Node.part in
    let node = c.in-Some.node.now in
    let found : node_at document.program.body path ≡ Some node =
    ap (node_at document.program.body) (sym c.as_slice.ensures) ∙ sym c.in-Some.ensures in
    let held = subst (λ o. IsSomeAnd o (λ n. PartHas text c.args.found.now.fault n part)) found
    (rw c.in-Node.is at fault) in
    let leads = node_leads root contents is path node
    (ap (λ p. node_at p.body path) (sym has.program) ∙ found) in
    let points = part_points root (node_path path) leads.0 node text c.args.found.now.fault part
    leads.1 leads.2 held in
    let pointer = c.in_ok-part_pointer-in-Some.field-0 in
    rw c.in-Node.is (subst (λ o. IsSomeAnd o
    (λ n. Points root (part_path (kind_of n) part (node_path path)) (Some pointer))) (sym found) (
      points,
      c.in_ok-part_pointer-in-Some.ensures
          ∙ ap (λ p. pointer_text (part_path (kind_of node) part (node_path p))) c.as_slice-in-Some.ensures,
    ))

pub returns-in-CommentText : goal.returns-in-CommentText
returns-in-CommentText c = λ contents is has fault.
    let held = rw c.in-Comment.is at fault in
    rw (c.in-Comment.is, c.in-CommentText.is)
    (c.in_ok-pointer-in-Comment.ensures contents is c.args.document.now.comments has.comments
    (is_some _ _ held))

-- The part of a comment with a fault of its range.
other_part : (fault : SourceFault) (path : List Step) → (fault ≡ CommentText → ⊥)
    → comment_part fault path ≡ range_in path
other_part CommentText path other = absurd (other refl)
other_part RangeReversed path other = refl
other_part RangeOutside path other = refl
other_part RangeOffBoundary path other = refl
other_part CommentsOverlap path other = refl
other_part Shape path other = refl
other_part OutOfMemory path other = refl

pub returns-in_default : goal.returns-in_default
returns-in_default c = λ contents is has fault.
    let document = c.args.document.now in
    let root = data_of c.args.root in
    let place = c.in-Comment.place in
    let some = is_some _ _ (rw c.in-Comment.is at fault) in
    let held = c.in_ok-pointer-in-Comment.ensures contents is document.comments has.comments some in
    let points = comment_points root document.comments place held.0 some held.1.3 in
    let part = other_part c.args.found.now.fault held.0 c.in_default.not-CommentText in
    rw c.in-Comment.is
    (elim c.range_pointer.result as (λ r. IfOk r (λ of_range. IsSomeAnd of_range
    (λ text. string_bytes text ≡ pointer_text (range_in held.0)))
    → IfOk r (PointsToFault root document.program document.comments c.args.found.now.fault
    (AtComment place))) [
      | Ok pointer ↦ λ written. (
        held.0,
        held.1,
        subst (λ path. Points root path pointer) (sym part) (points, written),
      )
      | Err error ↦ λ none. none
    ] (c.range_pointer.ensures held.0 held.2.1))

-- Both comments are there.
second_some : {A : Type 0} (one other : Option A) (P : A → A → Type 0)
    → IsSomeAnd one (λ a. IsSomeAnd other (P a)) → IsSome other
second_some None other P holds = absurd holds
second_some (Some a) other P holds = is_some other (P a) holds

pub returns-in-Comments : goal.returns-in-Comments
returns-in-Comments c = λ contents is has fault.
    let overlap = rw c.in-Comments.is at fault in
    rw c.in-Comments.is
    (c.comment_pointer-in-Comments.ensures contents is c.args.document.now.comments has.comments
    (second_some _ _ _ overlap.1))
