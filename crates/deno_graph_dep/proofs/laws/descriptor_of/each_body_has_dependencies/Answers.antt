use Rattle.deno_graph_dep.proofs.SomeDescriptor.{some_dependencies}
use Rattle.deno_graph_dep.proofs.Unique.{AreDependencies-unique}
use Rattle.deno_graph_dep.proofs.laws.descriptor_of.each_body_has_dependencies.Goals as goal

pub returns : goal.returns
returns c = record { some = some_dependencies; one = AreDependencies-unique }
