-- Entering a node and leaving one: the changes to the stack.
use Rattle.std.proofs.Common.{◌≡◌, ◌+◌, ◌-◌, ◌^◌, ◌<◌, min, List, [], ◌∷◌, ◌++◌, sym, ap, ◌∙◌, subst, arith}
use Rattle.std.specs.Borrow.{Bor}
use Rattle.deno_graph_source.specs.declared.tree.node.Node.{Node}
use Rattle.deno_graph_dep.specs.DependencyRules.{children_to_visit}
use Rattle.deno_graph_dep.specs.Listing.{Rules}
use Rattle.deno_graph_source.specs.NodePath.{NodePath}
use Rattle.deno_graph_dep.specs.internal.Stack.{frame_of, comes_before, comes_after, once, next_path}
use Rattle.deno_graph_dep.specs.internal.Stack.{AreNested, to_come}
use Rattle.deno_graph_dep.specs.declared.stack.Frame.{Frame}
use Rattle.deno_graph_dep.specs.declared.stack.Stack.{Stack}
use Rattle.deno_graph_dep.proofs.IterationsLeft.{iterations_left, iterations_left_in, iterations_left_in-push}
use Rattle.deno_graph_dep.proofs.IterationsLeft.{to_enter, to_enter-first}
use Rattle.deno_graph_dep.proofs.Stacks.{ClosesAsVisited, paths_to_come-enter, paths_to_come-leave}
use Rattle.deno_graph_dep.proofs.Stacks.{AreNested-enter, AreNested-leave, AreNested-left}

pub record Enters (old new : Stack) (node : Bor Node) (siblings : Bor (List Node)) : Type 0 where
  pub first : old.nodes.now ≡ node.now ∷ siblings.now
  pub frames : new.frames.items ≡ old.frames.items ++ frame_of node siblings ∷ []
  pub nodes : new.nodes.now ≡ children_to_visit node.now
  pub entered : new.entered ≡ min (old.entered + 1) (2 ^ 64 - 1)

pub record Left (old new : Stack) (node : Bor Node) (siblings : Bor (List Node)) : Type 0 where
  pub none : old.nodes.now ≡ []
  pub frames : old.frames.items ≡ new.frames.items ++ frame_of node siblings ∷ []
  pub nodes : new.nodes.now ≡ siblings.now
  pub entered : new.entered ≡ old.entered

-- the path of a frame's node, by the frames before it
abbrev pub path_of : List Node → List Frame → Bor Node → Bor (List Node) → NodePath
path_of body frames node siblings = next_path body frames (node.now ∷ siblings.now)

pub to_come-enter : (rules : Rules) → ClosesAsVisited rules
    → (body : List Node) (old new : Stack) (node : Bor Node) (siblings : Bor (List Node)) →
    Enters old new node siblings →
    to_come rules body old
    ≡ once (comes_before rules node.now) (path_of body old.frames.items node siblings)
    ++ to_come rules body new
to_come-enter rules closes body old new node siblings step =
    rw (step.first, step.frames, step.nodes)
    (paths_to_come-enter rules closes body old.frames.items node siblings)

pub to_come-leave : (rules : Rules) (body : List Node) (old new : Stack) (node : Bor Node)
    (siblings : Bor (List Node)) →
    Left old new node siblings → AreNested body old.frames.items old.nodes.now →
    to_come rules body old
    ≡ once (comes_after rules node.now) (path_of body new.frames.items node siblings)
    ++ to_come rules body new
to_come-leave rules body old new node siblings step nested =
    let P : List Frame → Type 0 = λ fs. AreNested body fs old.nodes.now in
    let Q : List Node → Type 0 = λ ns. AreNested body (new.frames.items ++ frame_of node siblings ∷ []) ns in
    let there = subst Q step.none (subst P step.frames nested) in
    rw (step.none, step.frames, step.nodes)
    (paths_to_come-leave rules body new.frames.items node siblings there)

pub nested-first : (body : List Node) (old new : Stack) (node : Bor Node) (siblings : Bor (List Node))
    → Enters old new node siblings →
    AreNested body old.frames.items old.nodes.now → AreNested body old.frames.items (node.now ∷ siblings.now)
nested-first body old new node siblings step nested =
    let Q : List Node → Type 0 = λ ns. AreNested body old.frames.items ns in subst Q step.first nested

pub nested-left : (body : List Node) (old new : Stack) (node : Bor Node) (siblings : Bor (List Node))
    → Left old new node siblings →
    AreNested body old.frames.items old.nodes.now → AreNested body new.frames.items (node.now ∷ siblings.now)
nested-left body old new node siblings step nested =
    let P : List Frame → Type 0 = λ fs. AreNested body fs old.nodes.now in
    AreNested-left body new.frames.items node siblings old.nodes.now (subst P step.frames nested)

pub nested-enter : (body : List Node) (old new : Stack) (node : Bor Node) (siblings : Bor (List Node))
    → Enters old new node siblings →
    AreNested body old.frames.items old.nodes.now → AreNested body new.frames.items new.nodes.now
nested-enter body old new node siblings step nested =
    let there = AreNested-enter body old.frames.items node siblings
    (nested-first body old new node siblings step nested) in
    let P : List Frame → Type 0 = λ fs. AreNested body fs new.nodes.now in
    let Q : List Node → Type 0 = λ ns. AreNested body (old.frames.items ++ frame_of node siblings ∷ []) ns in
    subst P (sym step.frames) (subst Q (sym step.nodes) there)

pub nested-leave : (body : List Node) (old new : Stack) (node : Bor Node) (siblings : Bor (List Node))
    → Left old new node siblings →
    AreNested body old.frames.items old.nodes.now → AreNested body new.frames.items new.nodes.now
nested-leave body old new node siblings step nested =
    let P : List Frame → Type 0 = λ fs. AreNested body fs old.nodes.now in
    let Q : List Node → Type 0 = λ ns. AreNested body new.frames.items ns in
    subst Q (sym step.nodes)
    (AreNested-leave body new.frames.items node siblings old.nodes.now (subst P step.frames nested))

-- after each iteration fewer iterations are left
pub iterations_left-enter : (old new : Stack) (node : Bor Node) (siblings : Bor (List Node))
    → Enters old new node siblings → iterations_left new < iterations_left old
iterations_left-enter old new node siblings step =
    let pushed = ap iterations_left_in step.frames
    ∙ iterations_left_in-push old.frames.items (frame_of node siblings) in
    let inner = ap to_enter step.nodes in
    let outer = ap to_enter step.first ∙ to_enter-first node siblings in
    omega arith

pub iterations_left-leave : (old new : Stack) (node : Bor Node) (siblings : Bor (List Node))
    → Left old new node siblings → iterations_left new < iterations_left old
iterations_left-leave old new node siblings step =
    let popped = ap iterations_left_in step.frames
    ∙ iterations_left_in-push new.frames.items (frame_of node siblings) in
    let inner = ap to_enter step.nodes in
    omega arith
