-- The arguments in the descriptors of a body spell the texts that the expressions evaluate to.
use Rattle.std.specs.Prelude.{◌≡◌, List, Some}
use Rattle.std.specs.List.{AllZip}
use Rattle.deno_graph_source.specs.Node.{kind_of, children_of}
use Rattle.deno_graph_source.specs.declared.tree.node.Kind.{Kind}
use Rattle.deno_graph_source.specs.declared.tree.node.Kind.TheVariants.{Call}
use Rattle.deno_graph_source.specs.declared.tree.node.Node.{Node}
use Rattle.deno_graph_dep.specs.Argument.{Form}
use Rattle.deno_graph_dep.specs.Descriptor.{Descriptor, static_descriptor, dynamic_descriptor}
use Rattle.deno_graph_dep.specs.DependencyNodes.{AreDependencyNodes}
use Rattle.deno_graph_dep.specs.DescriptorOf.{argument_node}
use Rattle.deno_graph_dep.specs.Value.{SpellsItsText}

-- the node is a call, and the form spells the text of its first argument
abbrev pub SpellsArgumentAt : Kind → Node → Form → Type 0
SpellsArgumentAt (Call callee args) node form =
    (argument : Node) × (argument_node callee (children_of node) 0 ≡ Some argument)
    × SpellsItsText argument form
SpellsArgumentAt _ node form = ⊥

abbrev pub SpellsArgument : Node → Form → Type 0
SpellsArgument node form = SpellsArgumentAt (kind_of node) node form

-- the descriptor of a call spells the text of its first argument
abbrev pub SpellsIn : Node → Descriptor → Type 0
SpellsIn node (static_descriptor descriptor) = Unit {0}
SpellsIn node (dynamic_descriptor descriptor) = SpellsArgument node descriptor.argument

-- each descriptor does so for the dependency at its index
pub record SpellArguments (body : List Node) (descriptors : List Descriptor) : Type 0 where
  pub nodes : List Node
  pub are_nodes : AreDependencyNodes body nodes
  pub spell : AllZip SpellsIn nodes descriptors
