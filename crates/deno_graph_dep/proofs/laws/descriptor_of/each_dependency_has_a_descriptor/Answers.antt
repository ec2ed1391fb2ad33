use Rattle.deno_graph_dep.proofs.SomeDescriptor.{some_descriptor}
use Rattle.deno_graph_dep.proofs.laws.descriptor_of.each_dependency_has_a_descriptor.Goals as goal

pub returns : goal.returns
returns c = some_descriptor
