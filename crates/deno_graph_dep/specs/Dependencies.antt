-- The descriptors of the dependencies of a body.
use Rattle.std.specs.Prelude.{List}
use Rattle.deno_graph_source.specs.Comments.{FiledComments}
use Rattle.deno_graph_source.specs.declared.tree.node.Node.{Node}
use Rattle.deno_graph_dep.specs.Descriptor.{Descriptor}
use Rattle.deno_graph_dep.specs.DescriptorOf.{AreDescriptorsOf}
use Rattle.deno_graph_dep.specs.DependencyNodes.{AreDependencyNodes}

-- the descriptors are those of the dependencies of the body, in tree order
pub record AreDependencies (comments : FiledComments)
    (body : List Node) (descriptors : List Descriptor) : Type 0 where
  pub nodes : List Node
  pub are_nodes : AreDependencyNodes body nodes
  pub described : AreDescriptorsOf comments nodes descriptors
