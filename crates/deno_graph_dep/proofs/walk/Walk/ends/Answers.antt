use Rattle.deno_graph_dep.proofs.WalkEnds.{taken}
use Rattle.deno_graph_dep.proofs.walk.Walk.ends.Goals as goal

pub returns : goal.returns
returns c = taken
