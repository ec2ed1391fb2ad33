use Rattle.deno_graph_dep.proofs.Walks.{IsWalkOf-step}
use Rattle.deno_graph_dep.proofs.walk.Walk.step.Goals as goal

pub invariant_of-self : goal.invariant_of-self
invariant_of-self c =
    let program = c.self.inside.program.now in
    let stack = c.self.invariant.is_stack in
    IsWalkOf-step program c.self.inside.stack c.next_dependency.new.self c.next_dependency.result
    (c.next_dependency.ensures.step program stack) (c.next_dependency.ensures.err program.body stack)
    (c.next_dependency.ensures.stays program.body stack) c.self.invariant

pub returns-clause-rises : goal.returns-clause-rises
returns-clause-rises c =
    rw (← c.self.view_is) (c.next_dependency.ensures.rises c.self.inside.program.now.body
    c.self.invariant.is_stack)
