-- A fault that a `?` returns.
use Rattle.std.proofs.Common.{◌≡◌, ℕ, zero, suc, List, [], ◌∷◌, Result, subst, sym, arith}
use Rattle.std.specs.List.{Contains, Any}
use Rattle.std.specs.Result.{IsErrAnd, MatchResult}
use Rattle.std.proofs.lemmas.Result.{err_from_is_err_and}
use Rattle.deno_graph_source.specs.FaultPlace.{RangeHas, CommentHas}
use Rattle.deno_graph_source.specs.declared.tree.comments.DependencyComment.{DependencyComment}
use Rattle.deno_graph_source.specs.declared.tree.fault.SourceFault.{SourceFault}
use Rattle.deno_graph_source.specs.declared.tree.fault.SourceFault.TheVariants.{RangeReversed, RangeOutside}
use Rattle.deno_graph_source.specs.declared.tree.fault.SourceFault.TheVariants.{RangeOffBoundary, CommentText}
use Rattle.deno_graph_source.specs.declared.tree.fault.SourceFault.TheVariants.{CommentsOverlap, Shape}
use Rattle.deno_graph_source.specs.declared.tree.fault.SourceFault.TheVariants.{OutOfMemory}

-- some element has a property, for a list that has the elements of another
pub Any-within : {X : Type 0} (P : X → Type 0) (xs ys : List X) → ((x : X) → Contains xs x → Contains ys x)
    → Any P xs → Any P ys
Any-within P xs ys within h =
    let at = within h.1 (h.0, h.2, h.3) in (at.0, h.1, at.1, at.2, h.4)

-- some element has a property that a given element has
pub Any-from : {X : Type 0} (P : X → Type 0) (xs : List X) (x : X) → Contains xs x → P x → Any P xs
Any-from P xs x at h = (at.0, x, at.1, at.2, h)

-- the element of a list of one element
pub Any-only : {X : Type 0} (P : X → Type 0) (x : X) → Any P (x ∷ []) → P x
Any-only P x (zero, y, below, is, h) = subst P (sym is) h
Any-only P x (suc k, y, below, is, h) = absurd (omega arith)

-- a fault of a comment's range is a fault of the comment
pub range_fault_in_comment : (text : List ℕ) (fault : SourceFault) (comment : DependencyComment)
    → RangeHas text fault comment.range → CommentHas text fault comment
range_fault_in_comment text CommentText comment h = absurd h
range_fault_in_comment text Shape comment h = h
range_fault_in_comment text RangeReversed comment h = h
range_fault_in_comment text RangeOutside comment h = h
range_fault_in_comment text RangeOffBoundary comment h = h
range_fault_in_comment text CommentsOverlap comment h = h
range_fault_in_comment text OutOfMemory comment h = h

-- the result of a check if a `?` returns a fault
pub returned : {E : Type 0} (Q : Type 0) (G : E → Type 0) (fault : E) (result : Result (Unit {0}) E)
    → IsErrAnd result (λ other. other ≡ fault) → G fault → MatchResult result (λ _. Q) G
returned Q G fault result is h =
    let p = err_from_is_err_and result is in
    rw (p.1, p.2) h
