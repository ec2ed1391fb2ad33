use Rattle.deno_graph_dep.proofs.DescriptorOf.{unknown_where_spread}
use Rattle.deno_graph_dep.proofs.laws.descriptor_of.a_spread_argument_is_unknown.Goals as goal

pub returns : goal.returns
returns c = unknown_where_spread
