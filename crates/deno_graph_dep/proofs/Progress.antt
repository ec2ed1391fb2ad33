-- The progress of a step: the nodes passed since it began, and its result.
use Rattle.std.proofs.Common.{◌≡◌, ℕ, ◌+◌, ◌-◌, ◌^◌, ◌≤◌, min, List, [], ◌++◌, true, false, Some, None, sym}
use Rattle.std.proofs.Common.{ap, ◌∙◌, refl, arith}
use Rattle.std.specs.Borrow.{Bor}
use Rattle.deno_graph_source.specs.declared.tree.node.Node.{Node}
use Rattle.deno_graph_source.specs.declared.tree.node.Program.{Program}
use Rattle.deno_graph_dep.specs.DependencyRules.{dependency_rules}
use Rattle.deno_graph_dep.specs.internal.Stack.{comes_before, comes_after, once, IsStackOf, to_come}
use Rattle.deno_graph_dep.specs.Walk.{IsWalkStep}
use Rattle.deno_graph_dep.specs.internal.WalkSteps.{state_of}
use Rattle.deno_graph_dep.specs.declared.stack.Stack.{Stack}
use Rattle.deno_graph_dep.proofs.Counts.{IsStackOf-enter, IsStackOf-leave, count-enter, count-leave}
use Rattle.deno_graph_dep.proofs.Counts.{count-end}
use Rattle.deno_graph_dep.proofs.IterationsLeft.{dependency_close}
use Rattle.deno_graph_dep.proofs.Stacks.{node_at-next_path}
use Rattle.deno_graph_dep.proofs.Steps.{Enters, Left, path_of, to_come-enter, to_come-leave, nested-first}
use Rattle.deno_graph_dep.proofs.Steps.{nested-left}

-- the nodes passed so far are no dependencies
pub record Progress (body : List Node) (first now : Stack) : Type 0 where
  pub stack : IsStackOf body now
  pub same : to_come dependency_rules body now ≡ to_come dependency_rules body first
  pub rises : first.entered ≤ now.entered

pub Progress-none : (body : List Node) (stack : Stack) → IsStackOf body stack → Progress body stack stack
Progress-none body stack s = record { stack = s; same = refl; rises = omega arith }

rises-enter : (passed old new : ℕ) → old ≡ min passed (2 ^ 64 - 1) → new ≡ min (old + 1) (2 ^ 64 - 1)
    → old ≤ new
rises-enter passed old new e f = omega arith

-- entering a node raises the count
pub entered-rises : (body : List Node) (first old new : Stack) (node : Bor Node) (siblings : Bor (List Node))
    → Enters old new node siblings
    → Progress body first old → first.entered ≤ new.entered
entered-rises body first old new node siblings step p =
    let up = p.rises in
    let more = rises-enter _ old.entered new.entered p.stack.counted step.entered in
    omega arith

pub left-rises : (body : List Node) (first old new : Stack) (node : Bor Node) (siblings : Bor (List Node))
    → Left old new node siblings
    → Progress body first old → first.entered ≤ new.entered
left-rises body first old new node siblings step p =
    let up = p.rises in
    let e = step.entered in
    omega arith

-- a node that is not returned is passed
pub Progress-enter : (body : List Node) (first old new : Stack) (node : Bor Node) (siblings : Bor (List Node))
    → Enters old new node siblings
    → comes_before dependency_rules node.now ≡ false → Progress body first old → Progress body first new
Progress-enter body first old new node siblings step passed p = record {
  stack = IsStackOf-enter body old new node siblings step p.stack;
  same =
      sym (to_come-enter dependency_rules dependency_close body old new node siblings step
      ∙ ap (λ b. once b (path_of body old.frames.items node siblings)
      ++ to_come dependency_rules body new) passed)
      ∙ p.same;
  rises = entered-rises body first old new node siblings step p;
}

pub Progress-leave : (body : List Node) (first old new : Stack) (node : Bor Node) (siblings : Bor (List Node))
    → Left old new node siblings
    → comes_after dependency_rules node.now ≡ false → Progress body first old → Progress body first new
Progress-leave body first old new node siblings step passed p = record {
  stack = IsStackOf-leave body old new node siblings step p.stack;
  same =
      sym (to_come-leave dependency_rules body old new node siblings step p.stack.nested
      ∙ ap (λ b. once b (path_of body new.frames.items node siblings)
      ++ to_come dependency_rules body new) passed)
      ∙ p.same;
  rises = left-rises body first old new node siblings step p;
}

-- the step returns a node
pub step-enter : (program : Program) (first old new : Stack) (node : Bor Node) (siblings : Bor (List Node))
    → Enters old new node siblings
    → comes_before dependency_rules node.now ≡ true → Progress program.body first old
    → IsWalkStep (state_of program first) (state_of program new) (Some node)
step-enter program first old new node siblings step given p =
    let body = program.body in
    let path = path_of body old.frames.items node siblings in
    let at = node_at-next_path body old.frames.items node.now siblings.now
    (nested-first body old new node siblings step p.stack.nested) in
    record {
      path = path;
      at_path = at;
      first = sym p.same ∙ to_come-enter dependency_rules dependency_close body old new node siblings step
          ∙ ap (λ b. once b path ++ to_come dependency_rules body new) given;
      entered = count-enter body old new node siblings step
          (IsStackOf-enter body old new node siblings step p.stack) at given;
    }

pub step-leave : (program : Program) (first old new : Stack) (node : Bor Node) (siblings : Bor (List Node))
    → Left old new node siblings
    → comes_after dependency_rules node.now ≡ true → Progress program.body first old
    → IsWalkStep (state_of program first) (state_of program new) (Some node)
step-leave program first old new node siblings step given p =
    let body = program.body in
    let path = path_of body new.frames.items node siblings in
    let at = node_at-next_path body new.frames.items node.now siblings.now
    (nested-left body old new node siblings step p.stack.nested) in
    record {
      path = path;
      at_path = at;
      first = sym p.same ∙ to_come-leave dependency_rules body old new node siblings step p.stack.nested
          ∙ ap (λ b. once b path ++ to_come dependency_rules body new) given;
      entered = count-leave body old new node siblings step p.stack
          (IsStackOf-leave body old new node siblings step p.stack) at given;
    }

-- no node is left to enter or to leave, and the stack stays the same
pub record Ends (old new : Stack) : Type 0 where
  pub no_nodes : old.nodes.now ≡ []
  pub no_frames : old.frames.items ≡ []
  pub frames : new.frames.items ≡ old.frames.items
  pub nodes : new.nodes.now ≡ old.nodes.now
  pub entered : new.entered ≡ old.entered

-- stacks with the same frames, nodes and count have the same properties
pub IsStackOf-same : (body : List Node) (old new : Stack) → new.frames.items ≡ old.frames.items
    → new.nodes.now ≡ old.nodes.now
    → new.entered ≡ old.entered → IsStackOf body old → IsStackOf body new
IsStackOf-same body old new frames nodes entered s = record {
  nested = rw (frames, nodes) s.nested;
  passed = s.passed;
  follow = rw (frames, nodes) s.follow;
  all_passed = rw (frames, nodes) s.all_passed;
  counted = entered ∙ s.counted;
}

pub to_come-same : (body : List Node) (old new : Stack) → new.frames.items ≡ old.frames.items
    → new.nodes.now ≡ old.nodes.now
    → to_come dependency_rules body new ≡ to_come dependency_rules body old
to_come-same body old new frames nodes = rw (frames, nodes) refl

pub step-end : (program : Program) (first old new : Stack) → Ends old new → Progress program.body first old
    → IsWalkStep (state_of program first) (state_of program new) None
step-end program first old new end p =
    let body = program.body in
    let none : to_come dependency_rules body old ≡ [] = rw (end.no_frames, end.no_nodes) refl in
    let s = IsStackOf-same body old new end.frames end.nodes end.entered p.stack in
    record {
      before = sym p.same ∙ none;
      after = to_come-same body old new end.frames end.nodes ∙ none;
      entered = count-end body new s (end.frames ∙ end.no_frames) (end.nodes ∙ end.no_nodes);
    }
