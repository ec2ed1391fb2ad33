-- Arguments of dependencies that spell the texts of their expressions.
use Rattle.std.specs.Prelude.{◌≡◌, List}
use Rattle.std.specs.List.{AllZip}
use Rattle.deno_graph_source.specs.declared.tree.node.Node.{Node}
use Rattle.deno_graph_info.specs.declared.analysis.dependency.DependencyDescriptor.{DependencyDescriptor}
use Rattle.deno_graph_info.specs.declared.analysis.dependency.DependencyDescriptor.TheVariants.{Static}
use Rattle.deno_graph_info.specs.declared.analysis.dependency.DependencyDescriptor.TheVariants.{Dynamic}
use Rattle.deno_graph_dep.specs.Argument.{Form}
use Rattle.deno_graph_dep.specs.DependencyNodes.{AreDependencyNodes}
use Rattle.deno_graph_dep.specs.SpelledArguments.{SpellsArgument}
use Rattle.deno_graph_module_info.specs.ModuleInfo.{argument_of_form}

-- the argument of a dynamic dependency is that of a form, which spells the text of the call's argument
abbrev pub SpellsDependency : Node → DependencyDescriptor → Type 0
SpellsDependency node (Static dependency) = Unit {0}
SpellsDependency node (Dynamic dependency) =
    (form : Form) × (dependency.argument ≡ argument_of_form form) × SpellsArgument node form

-- the argument of each dynamic dependency spells the text of the argument of its call, the node with
-- the same index in the listing
pub record SpellDependencies (body : List Node) (dependencies : List DependencyDescriptor) : Type 0 where
  pub nodes : List Node
  pub are_nodes : AreDependencyNodes body nodes
  pub spell : AllZip SpellsDependency nodes dependencies
