-- Sets of definitions that goals unfold.
use Rattle.std.specs.Prelude.{⊤}
use Rattle.deno_graph_source.specs.Node.{kind_of, range_of, children_of}
use Rattle.deno_graph_dep.specs.DependencyRules.{children_to_visit, is_dependency}
use Rattle.deno_graph_dep.specs.DescriptorOf.{IsDescriptorOf}

-- the parts of a node
unfoldable pub node_parts : ⊤
unfolding kind_of range_of children_of
node_parts = tt

-- the parts of a node, and what is said of a node by its parts
unfoldable pub node_meaning : ⊤
unfolding node_parts children_to_visit is_dependency IsDescriptorOf
node_meaning = tt
