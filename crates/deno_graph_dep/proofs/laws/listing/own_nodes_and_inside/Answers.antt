use Rattle.deno_graph_dep.specs.DependencyNodes.{own_nodes}
use Rattle.deno_graph_dep.specs.DependencyRules.{children_to_visit, dependency_rules}
use Rattle.deno_graph_dep.proofs.Entries.{entries_at-pieces}
use Rattle.deno_graph_dep.proofs.laws.listing.own_nodes_and_inside.Goals as goal

pub returns : goal.returns
unfolding children_to_visit
returns c = λ node. entries_at-pieces dependency_rules own_nodes node
