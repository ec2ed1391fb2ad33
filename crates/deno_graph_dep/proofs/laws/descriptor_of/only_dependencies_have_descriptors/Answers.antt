use Rattle.deno_graph_dep.proofs.DescriptorOf.{dependency_from_descriptor}
use Rattle.deno_graph_dep.proofs.laws.descriptor_of.only_dependencies_have_descriptors.Goals as goal

pub returns : goal.returns
returns c = λ comments node descriptor describes. dependency_from_descriptor comments node descriptor
    describes
