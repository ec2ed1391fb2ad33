use Rattle.deno_graph_dep.proofs.Unique.{IsDescriptorOf-unique}
use Rattle.deno_graph_dep.proofs.laws.descriptor_of.a_descriptor_is_unique.Goals as goal

pub returns : goal.returns
returns c = IsDescriptorOf-unique
