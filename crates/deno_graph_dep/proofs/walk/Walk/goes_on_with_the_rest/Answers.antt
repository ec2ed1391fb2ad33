use Rattle.deno_graph_dep.proofs.Walks.{listing-of_walk}
use Rattle.deno_graph_dep.proofs.walk.Walk.goes_on_with_the_rest.Goals as goal

pub returns : goal.returns
returns c = rw (← c.self.view_is)
    (listing-of_walk c.self.inside.program.now.body c.self.inside.stack c.self.invariant)
