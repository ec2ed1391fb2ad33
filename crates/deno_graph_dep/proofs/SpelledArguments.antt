-- The argument in a descriptor spells the text of its expression.
use Rattle.std.proofs.Common.{◌≡◌, ℕ, suc, Bool, true, false, List, [], ◌∷◌, None, Some, slice_get, refl, sym}
use Rattle.std.proofs.Common.{subst, All, MatchBool}
use Rattle.std.specs.List.{AllZip}
use Rattle.deno_graph_source.specs.Comments.{FiledComments}
use Rattle.deno_graph_source.specs.Node.{kind_of, nodes_of, IsShaped}
use Rattle.deno_graph_source.specs.declared.tree.node.Kind.{Kind}
use Rattle.deno_graph_source.specs.declared.tree.node.Kind.TheVariants.{ImportDecl, NamedExport, ExportAll}
use Rattle.deno_graph_source.specs.declared.tree.node.Kind.TheVariants.{ImportEquals, ImportType, ModuleDecl}
use Rattle.deno_graph_source.specs.declared.tree.node.Kind.TheVariants.{Call}
use Rattle.deno_graph_source.specs.declared.tree.node.Node.{Node}
use Rattle.deno_graph_source.specs.declared.tree.node.Program.{Program}
use Rattle.deno_graph_source.specs.declared.tree.node.StrLit.{StrLit}
use Rattle.deno_graph_base.specs.declared.text.position.SourceRange.{SourceRange}
use Rattle.deno_graph_info.specs.declared.analysis.import_attributes.ImportAttributes.{ImportAttributes}
use Rattle.deno_graph_info.specs.declared.analysis.static_dependency.StaticDependencyKind.{StaticDependencyKind}
use Rattle.deno_graph_dep.specs.Argument.{Form, HasForm, expression}
use Rattle.deno_graph_dep.specs.Dependencies.{AreDependencies}
use Rattle.deno_graph_dep.specs.Descriptor.{Descriptor}
use Rattle.deno_graph_dep.specs.SpelledArguments.{SpellArguments, SpellsArgumentAt, SpellsIn}
use Rattle.deno_graph_dep.specs.DescriptorOf.{AreDescriptorsOf, IsDescriptorOf, IsDescriptorOfKind}
use Rattle.deno_graph_dep.specs.DescriptorOf.{IsStaticDescriptorOf}
use Rattle.deno_graph_dep.specs.Value.{SpellsItsText}
use Rattle.deno_graph_dep.proofs.Calls.{argument_shaped}
use Rattle.deno_graph_dep.proofs.DependencyRanges.{dependency_one, shaped_node}
use Rattle.deno_graph_dep.proofs.Spelling.{spells}
use Rattle.deno_graph_dep.proofs.Spine.{AllShaped, keeps_here}

-- the form of a first argument, spread or not
spells_argument : (spread : Bool) (argument : Node) (form : Form) → AllShaped argument
    → MatchBool spread (form ≡ expression) (HasForm argument form) → SpellsItsText argument form
spells_argument true argument form shaped is =
    subst (SpellsItsText argument) (sym is) (λ given readable. tt)
spells_argument false argument form shaped has = spells argument form (keeps_here argument shaped) has

specified : (comments : FiledComments) (node : Node) (kind : StaticDependencyKind)
    (range : SourceRange) (literal : StrLit) (is_side_effect : Bool)
    (AreAttributes : ImportAttributes → Type 0) (descriptor : Descriptor)
    → IsStaticDescriptorOf comments node kind range literal is_side_effect AreAttributes descriptor
    → SpellsIn node descriptor
specified comments node kind range literal is_side_effect AreAttributes descriptor describes =
    subst (SpellsIn node) (sym describes.2) tt

spells_at : (comments : FiledComments) (node : Node) (kind : Kind) (descriptor : Descriptor)
    → kind_of node ≡ kind
    → AllShaped node → IsDescriptorOfKind comments node kind descriptor → SpellsIn node descriptor
spells_at comments node (ImportDecl type_only phase src has_specifiers has_with) descriptor is shaped
    describes =
    specified comments node _ _ src _ _ descriptor describes
spells_at comments node (NamedExport type_only None has_with) descriptor is shaped describes =
    absurd describes
spells_at comments node (NamedExport type_only (Some src) has_with) descriptor is shaped describes =
    specified comments node _ _ src _ _ descriptor describes
spells_at comments node (ExportAll type_only src has_with) descriptor is shaped describes =
    specified comments node _ _ src _ _ descriptor describes
spells_at comments node (ImportEquals type_only is_export None) descriptor is shaped describes =
    absurd describes
spells_at comments node (ImportEquals type_only is_export (Some external)) descriptor is shaped describes =
    specified comments node _ _ external _ _ descriptor describes
spells_at comments node (ImportType arg has_with) descriptor is shaped describes =
    specified comments node _ _ arg _ _ descriptor describes
spells_at comments node (ModuleDecl None) descriptor is shaped describes = absurd describes
spells_at comments node (ModuleDecl (Some name)) descriptor is shaped describes =
    specified comments node _ _ name _ _ descriptor describes.1
spells_at comments node (Call callee args) descriptor is shaped describes =
    subst (SpellsIn node) (sym describes.is)
    (subst (λ k. SpellsArgumentAt k node describes.form) (sym is) (
      describes.argument,
      describes.is_argument,
      spells_argument describes.arg.spread describes.argument describes.form
          (argument_shaped node callee 0 describes.argument shaped describes.is_argument) describes.has_form,
    ))
spells_at comments node _ descriptor is shaped describes = absurd describes

spells_descriptor : (comments : FiledComments) (node : Node) (descriptor : Descriptor) → AllShaped node
    → IsDescriptorOf comments node descriptor → SpellsIn node descriptor
unfolding IsDescriptorOf
spells_descriptor comments node descriptor shaped describes =
    spells_at comments node (kind_of node) descriptor refl shaped describes

all_spell : (comments : FiledComments) (nodes : List Node) (descriptors : List Descriptor)
    → ((k : ℕ) (node : Node) → slice_get nodes k ≡ Some node → AllShaped node)
    → AreDescriptorsOf comments nodes descriptors → AllZip SpellsIn nodes descriptors
all_spell comments [] [] shaped described = tt
all_spell comments [] (descriptor ∷ descriptors) shaped described = absurd described
all_spell comments (node ∷ nodes) [] shaped described = absurd described
all_spell comments (node ∷ nodes) (descriptor ∷ descriptors) shaped described = (
  spells_descriptor comments node descriptor (shaped 0 node refl) described.0,
  all_spell comments nodes descriptors (λ k other at. shaped (suc k) other at) described.1,
)

-- the dependencies of a program spell what their arguments evaluate to
pub dependencies_spell : (comments : FiledComments) (program : Program) (descriptors : List Descriptor)
    → All IsShaped (nodes_of program) → AreDependencies comments program.body descriptors
    → SpellArguments program.body descriptors
dependencies_spell comments program descriptors shaped are = record {
  nodes = are.nodes;
  are_nodes = are.are_nodes;
  spell = all_spell comments are.nodes descriptors (λ k node at.
      let one = dependency_one program.body are.nodes k node are.are_nodes at in
      shaped_node program one.0 node shaped one.1) are.described;
}
