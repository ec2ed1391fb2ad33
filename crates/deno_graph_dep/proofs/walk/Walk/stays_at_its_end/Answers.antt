use Rattle.deno_graph_dep.proofs.WalkEnds.{stays}
use Rattle.deno_graph_dep.proofs.walk.Walk.stays_at_its_end.Goals as goal

pub returns : goal.returns
returns c = stays
