-- Each iteration enters a node or leaves one, and returns the node or passes it.
use Rattle.std.proofs.Common.{OnErr, Result, Ok, Err, sym, ◌∙◌}
use Rattle.std.proofs.lemmas.List.{nil_from_length}
use Rattle.deno_graph_dep.proofs.Counts.{IsStackOf-enter, IsStackOf-leave}
use Rattle.deno_graph_dep.proofs.Progress.{Progress-none, Progress-enter, Progress-leave, entered-rises}
use Rattle.deno_graph_dep.proofs.Progress.{left-rises, step-enter, step-leave, step-end, IsStackOf-same}
use Rattle.deno_graph_dep.proofs.Progress.{to_come-same}
use Rattle.deno_graph_dep.proofs.Steps.{iterations_left-enter, iterations_left-leave}
use Rattle.deno_graph_dep.proofs.stack.Stack.next_dependency.Goals as goal

on_err : {A E P : Type 0} (result : Result A E) → P → OnErr result P
on_err (Ok a) p = tt
on_err (Err e) p = p

pub nodes-init : goal.nodes-init
nodes-init c body s = Progress-none body c.args.self.now s

pub returns-in_err-enter-clause-stays : goal.returns-in_err-enter-clause-stays
returns-in_err-enter-clause-stays c body s =
    let p = c.nodes.invariant body s in
    IsStackOf-same body c.nodes.self c.enter.new.self c.in_err-enter.ensures.err_frames
    c.in_err-enter.ensures.err_nodes c.in_err-enter.ensures.err_entered p.stack

pub returns-in_err-enter-clause-err : goal.returns-in_err-enter-clause-err
returns-in_err-enter-clause-err c body s =
    on_err c.from_residual.result
    (to_come-same body c.nodes.self c.enter.new.self c.in_err-enter.ensures.err_frames
    c.in_err-enter.ensures.err_nodes
    ∙ (c.nodes.invariant body s).same)

pub returns-in_err-enter-clause-rises : goal.returns-in_err-enter-clause-rises
returns-in_err-enter-clause-rises c body s =
    rw c.in_err-enter.ensures.err_entered (c.nodes.invariant body s).rises

pub returns-then-comes_before_inside-clause-stays :
    goal.returns-then-comes_before_inside-clause-stays
returns-then-comes_before_inside-clause-stays c body s =
    IsStackOf-enter body c.nodes.self c.enter.new.self c.in-Some.node c.in-Some.siblings
    (record {
      first = c.in-Some.ensures.cases.0;
      frames = c.in_ok-enter.ensures.frames;
      nodes = c.in_ok-enter.ensures.nodes;
      entered = c.in_ok-enter.ensures.entered;
    })
    (c.nodes.invariant body s).stack

pub returns-then-comes_before_inside-clause-step :
    goal.returns-then-comes_before_inside-clause-step
returns-then-comes_before_inside-clause-step c program s =
    step-enter program c.args.self.now c.nodes.self c.enter.new.self c.in-Some.node c.in-Some.siblings
    (record {
      first = c.in-Some.ensures.cases.0;
      frames = c.in_ok-enter.ensures.frames;
      nodes = c.in_ok-enter.ensures.nodes;
      entered = c.in_ok-enter.ensures.entered;
    })
    (sym c.comes_before_inside.ensures ∙ c.if-comes_before_inside.true)
    (c.nodes.invariant program.body s)

pub returns-then-comes_before_inside-clause-rises :
    goal.returns-then-comes_before_inside-clause-rises
returns-then-comes_before_inside-clause-rises c body s =
    entered-rises body c.args.self.now c.nodes.self c.enter.new.self c.in-Some.node c.in-Some.siblings
    (record {
      first = c.in-Some.ensures.cases.0;
      frames = c.in_ok-enter.ensures.frames;
      nodes = c.in_ok-enter.ensures.nodes;
      entered = c.in_ok-enter.ensures.entered;
    })
    (c.nodes.invariant body s)

pub nodes-smaller-else-comes_before_inside : goal.nodes-smaller-else-comes_before_inside
nodes-smaller-else-comes_before_inside c =
    iterations_left-enter c.nodes.self c.enter.new.self c.in-Some.node c.in-Some.siblings
    (record {
      first = c.in-Some.ensures.cases.0;
      frames = c.in_ok-enter.ensures.frames;
      nodes = c.in_ok-enter.ensures.nodes;
      entered = c.in_ok-enter.ensures.entered;
    })

pub nodes-preserved-else-comes_before_inside : goal.nodes-preserved-else-comes_before_inside
nodes-preserved-else-comes_before_inside c body s =
    Progress-enter body c.args.self.now c.nodes.self c.enter.new.self c.in-Some.node c.in-Some.siblings
    (record {
      first = c.in-Some.ensures.cases.0;
      frames = c.in_ok-enter.ensures.frames;
      nodes = c.in_ok-enter.ensures.nodes;
      entered = c.in_ok-enter.ensures.entered;
    })
    (sym c.comes_before_inside.ensures ∙ c.if-comes_before_inside.false)
    (c.nodes.invariant body s)

pub returns-in_default-leave-clause-stays : goal.returns-in_default-leave-clause-stays
returns-in_default-leave-clause-stays c body s =
    IsStackOf-same body c.nodes.self c.leave.new.self
    (c.in_default-leave.ensures.leaves.1 ∙ sym c.in_default-leave.ensures.leaves.0)
    c.in_default-leave.ensures.leaves.2 c.in_default-leave.ensures.entered
    (c.nodes.invariant body s).stack

pub returns-in_default-leave-clause-step : goal.returns-in_default-leave-clause-step
returns-in_default-leave-clause-step c program s =
    step-end program c.args.self.now c.nodes.self c.leave.new.self
    (record {
      no_nodes = nil_from_length c.nodes.self.nodes.now c.in_default.ensures.cases;
      no_frames = c.in_default-leave.ensures.leaves.0;
      frames = c.in_default-leave.ensures.leaves.1 ∙ sym c.in_default-leave.ensures.leaves.0;
      nodes = c.in_default-leave.ensures.leaves.2;
      entered = c.in_default-leave.ensures.entered;
    })
    (c.nodes.invariant program.body s)

pub returns-in_default-leave-clause-rises : goal.returns-in_default-leave-clause-rises
returns-in_default-leave-clause-rises c body s =
    rw c.in_default-leave.ensures.entered (c.nodes.invariant body s).rises

pub returns-then-comes_after_inside-clause-stays :
    goal.returns-then-comes_after_inside-clause-stays
returns-then-comes_after_inside-clause-stays c body s =
    IsStackOf-leave body c.nodes.self c.leave.new.self c.in-Some-leave.node c.in-Some-leave.ensures.leaves.0
    (record {
      none = nil_from_length c.nodes.self.nodes.now c.in_default.ensures.cases;
      frames = c.in-Some-leave.ensures.leaves.1;
      nodes = c.in-Some-leave.ensures.leaves.2;
      entered =
          c.in-Some-leave.ensures.entered;
    })
    (c.nodes.invariant body s).stack

pub returns-then-comes_after_inside-clause-step :
    goal.returns-then-comes_after_inside-clause-step
returns-then-comes_after_inside-clause-step c program s =
    step-leave program c.args.self.now c.nodes.self c.leave.new.self c.in-Some-leave.node
    c.in-Some-leave.ensures.leaves.0
    (record {
      none = nil_from_length c.nodes.self.nodes.now c.in_default.ensures.cases;
      frames = c.in-Some-leave.ensures.leaves.1;
      nodes = c.in-Some-leave.ensures.leaves.2;
      entered =
          c.in-Some-leave.ensures.entered;
    })
    (sym c.comes_after_inside.ensures ∙ c.if-comes_after_inside.true)
    (c.nodes.invariant program.body s)

pub returns-then-comes_after_inside-clause-rises :
    goal.returns-then-comes_after_inside-clause-rises
returns-then-comes_after_inside-clause-rises c body s =
    left-rises body c.args.self.now c.nodes.self c.leave.new.self c.in-Some-leave.node
    c.in-Some-leave.ensures.leaves.0
    (record {
      none = nil_from_length c.nodes.self.nodes.now c.in_default.ensures.cases;
      frames = c.in-Some-leave.ensures.leaves.1;
      nodes = c.in-Some-leave.ensures.leaves.2;
      entered =
          c.in-Some-leave.ensures.entered;
    })
    (c.nodes.invariant body s)

pub nodes-smaller : goal.nodes-smaller
nodes-smaller c =
    iterations_left-leave c.nodes.self c.leave.new.self c.in-Some-leave.node c.in-Some-leave.ensures.leaves.0
    (record {
      none = nil_from_length c.nodes.self.nodes.now c.in_default.ensures.cases;
      frames = c.in-Some-leave.ensures.leaves.1;
      nodes = c.in-Some-leave.ensures.leaves.2;
      entered =
          c.in-Some-leave.ensures.entered;
    })

pub nodes-preserved : goal.nodes-preserved
nodes-preserved c body s =
    Progress-leave body c.args.self.now c.nodes.self c.leave.new.self c.in-Some-leave.node
    c.in-Some-leave.ensures.leaves.0
    (record {
      none = nil_from_length c.nodes.self.nodes.now c.in_default.ensures.cases;
      frames = c.in-Some-leave.ensures.leaves.1;
      nodes = c.in-Some-leave.ensures.leaves.2;
      entered =
          c.in-Some-leave.ensures.entered;
    })
    (sym c.comes_after_inside.ensures ∙ c.if-comes_after_inside.false)
    (c.nodes.invariant body s)
