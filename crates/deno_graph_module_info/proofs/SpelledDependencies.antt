-- The arguments of the dependencies of a valid source spell the texts of their expressions.
use Rattle.std.proofs.Common.{ℕ, List, [], ◌∷◌, refl, sym, subst}
use Rattle.std.specs.List.{AllZip}
use Rattle.deno_graph_source.specs.Comments.{FiledComments}
use Rattle.deno_graph_source.specs.Source.{IsValid}
use Rattle.deno_graph_source.specs.declared.tree.node.Node.{Node}
use Rattle.deno_graph_source.specs.declared.tree.node.Program.{Program}
use Rattle.deno_graph_info.specs.declared.analysis.dependency.DependencyDescriptor.{DependencyDescriptor}
use Rattle.deno_graph_info.specs.declared.analysis.specifier_with_range.SpecifierWithRange.{SpecifierWithRange}
use Rattle.std.specs.Prelude.{Option}
use Rattle.deno_graph_dep.specs.Descriptor.{Descriptor, static_descriptor, dynamic_descriptor}
use Rattle.deno_graph_dep.specs.SpelledArguments.{SpellsIn}
use Rattle.deno_graph_dep.proofs.SpelledArguments.{dependencies_spell}
use Rattle.deno_graph_module_info.specs.ModuleInfo.{AreDescribed, Describes, dependency_of}
use Rattle.deno_graph_module_info.specs.SpelledDependencies.{SpellDependencies, SpellsDependency}

spells_as : (source : List ℕ) (node : Node) (item : Descriptor) (types : Option SpecifierWithRange)
    → SpellsIn node item → SpellsDependency node (dependency_of source item types)
spells_as source node (static_descriptor item) types spells = tt
spells_as source node (dynamic_descriptor item) types spells = (item.argument, refl, spells)

all_as : (source : List ℕ) (nodes : List Node) (items : List Descriptor)
    (dependencies : List DependencyDescriptor)
    → AllZip SpellsIn nodes items → AllZip (Describes source) items dependencies
    → AllZip SpellsDependency nodes dependencies
all_as source [] [] [] spell describe = tt
all_as source [] [] (d ∷ dependencies) spell describe = absurd describe
all_as source [] (item ∷ items) dependencies spell describe = absurd spell
all_as source (node ∷ nodes) [] dependencies spell describe = absurd spell
all_as source (node ∷ nodes) (item ∷ items) [] spell describe = absurd describe
all_as source (node ∷ nodes) (item ∷ items) (d ∷ dependencies) spell describe = (
  subst (SpellsDependency node) (sym describe.0.is)
      (spells_as source node item describe.0.types spell.0),
  all_as source nodes items dependencies spell.1 describe.1,
)

pub described_spell : (source : List ℕ) (program : Program) (comments : FiledComments)
    (dependencies : List DependencyDescriptor) → IsValid source program comments
    → AreDescribed source program comments dependencies → SpellDependencies program.body dependencies
described_spell source program comments dependencies valid are =
    let spelled = dependencies_spell comments program are.items valid.shapes are.are_dependencies in
    record {
      nodes = spelled.nodes;
      are_nodes = spelled.are_nodes;
      spell = all_as source spelled.nodes are.items dependencies spelled.spell are.describe;
    }
