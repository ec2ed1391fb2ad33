-- The descriptor of a node that is a dependency.
use Rattle.std.specs.Prelude.{◌≡◌, ℕ, ◌+◌, List, [], ◌∷◌, Bool, false, not, Option, Some, None, option_map}
use Rattle.std.specs.Prelude.{option_and_then, slice_get, IsTrue, MatchBool, if◌then◌else◌}
use Rattle.deno_graph_source.specs.Comments.{FiledComments, leading_at}
use Rattle.deno_graph_base.specs.JsString.{lossy_text}
use Rattle.deno_graph_source.specs.Node.{kind_of, range_of, children_of, callee_count, has_with}
use Rattle.deno_graph_base.specs.declared.text.position.SourceRange.{SourceRange}
use Rattle.deno_graph_source.specs.declared.tree.node.Arg.{Arg}
use Rattle.deno_graph_source.specs.declared.tree.node.Callee.{Callee}
use Rattle.deno_graph_source.specs.declared.tree.node.Kind.{Kind}
use Rattle.deno_graph_source.specs.declared.tree.node.Kind.TheVariants.{ImportDecl, NamedExport, ExportAll}
use Rattle.deno_graph_source.specs.declared.tree.node.Kind.TheVariants.{ImportEquals, ImportType, ModuleDecl}
use Rattle.deno_graph_source.specs.declared.tree.node.Kind.TheVariants.{Call}
use Rattle.deno_graph_source.specs.declared.tree.node.Node.{Node}
use Rattle.deno_graph_source.specs.declared.tree.node.StrLit.{StrLit}
use Rattle.deno_graph_info.specs.declared.analysis.dynamic_dependency.DynamicDependencyKind.{DynamicDependencyKind}
use Rattle.deno_graph_info.specs.declared.analysis.import_attributes.ImportAttributes.{ImportAttributes}
use Rattle.deno_graph_info.specs.declared.analysis.import_attributes.ImportAttributes.TheVariants as attributes
use Rattle.deno_graph_info.specs.declared.analysis.static_dependency.StaticDependencyKind.{StaticDependencyKind}
use Rattle.deno_graph_info.specs.declared.analysis.static_dependency.StaticDependencyKind.TheVariants as static_kind
use Rattle.deno_graph_dep.specs.Argument.{Form, HasForm, expression}
use Rattle.deno_graph_dep.specs.Attributes.{AreDeclarationAttributes, AreObjectAttributes, AreCallAttributes}
use Rattle.deno_graph_dep.specs.DependencyKind.{import_kind, export_kind, import_equals_kind, call_kind}
use Rattle.deno_graph_dep.specs.Descriptor.{Descriptor, StaticDescriptor, static_descriptor}
use Rattle.deno_graph_dep.specs.Descriptor.{dynamic_descriptor}
use Rattle.deno_graph_dep.specs.DependencyRules.{may_name_module}

-- the object literal of a node's `with` clause, if it has one: its first child
abbrev pub with_clause : Node → Option Node
with_clause node = if has_with (kind_of node) then slice_get (children_of node) 0 else None

-- the attributes of a node that has no clause
abbrev pub AreNoAttributes : ImportAttributes → Type 0
AreNoAttributes result = result ≡ attributes.None

-- the attributes of an import type with this clause
abbrev pub AreTypeAttributes : Option Node → ImportAttributes → Type 0
AreTypeAttributes None result = result ≡ attributes.None
AreTypeAttributes (Some object) result = AreObjectAttributes object result

-- the descriptor with this kind, range and literal, and with the leading comments at the node's
-- start
abbrev pub specified_descriptor : FiledComments → Node
    → StaticDependencyKind → SourceRange → StrLit → Bool → ImportAttributes → StaticDescriptor
specified_descriptor comments node kind range literal is_side_effect given = record {
  kind = kind;
  leading_comments = leading_at comments (range_of node).start;
  range = range;
  specifier = lossy_text literal.value;
  specifier_range = literal.range;
  is_side_effect = is_side_effect;
  import_attributes = given;
}

-- the descriptor is that of a node with a specifier, and its attributes have the property AreAttributes
abbrev pub IsStaticDescriptorOf : FiledComments → Node
    → StaticDependencyKind → SourceRange → StrLit → Bool → (ImportAttributes → Type 0)
    → Descriptor → Type 0
IsStaticDescriptorOf comments node kind range literal is_side_effect AreAttributes descriptor =
    (given : ImportAttributes) × AreAttributes given
    × (descriptor ≡ static_descriptor
    (specified_descriptor comments node kind range literal is_side_effect given))

-- the node of the argument of a call with this index
abbrev pub argument_node : Callee → List Node → ℕ → Option Node
argument_node callee children index = slice_get children (callee_count callee + index)

-- the argument of a call with this index and its node, if both are there
abbrev pub argument_at : Callee → List Arg → List Node → ℕ → Option (Arg × Node)
argument_at callee args children index =
    option_and_then (λ arg.
    option_map (λ node. (arg, node)) (argument_node callee children index)) (slice_get args index)

-- the form of a first argument, of which nothing is known if it is spread
abbrev pub ArgumentHasForm : Arg → Node → Form → Type 0
ArgumentHasForm arg argument form = MatchBool arg.spread (form ≡ expression) (HasForm argument form)

-- the descriptor is that of a call: with the kind of the callee, the form and the range of the first
-- argument, and the attributes of the second
pub record IsDynamicDescriptorOf (comments : FiledComments) (node : Node)
    (callee : Callee) (args : List Arg) (descriptor : Descriptor) : Type 0 where
  pub kind : DynamicDependencyKind
  pub is_kind : call_kind callee (children_of node) ≡ Some kind
  pub arg : Arg
  pub is_arg : slice_get args 0 ≡ Some arg
  pub argument : Node
  pub is_argument : argument_node callee (children_of node) 0 ≡ Some argument
  pub form : Form
  pub has_form : ArgumentHasForm arg argument form
  pub given : ImportAttributes
  pub are_given : AreCallAttributes (argument_at callee args (children_of node) 1) given
  pub is : descriptor ≡ dynamic_descriptor (record {
    kind = kind;
    leading_comments = leading_at comments (range_of node).start;
    range = range_of node;
    argument = form;
    argument_range = arg.range;
    import_attributes = given;
  })

-- the descriptor is that of a node of this kind
abbrev pub IsDescriptorOfKind : FiledComments → Node → Kind → Descriptor → Type 0
IsDescriptorOfKind comments node (ImportDecl type_only phase src has_specifiers has_with) descriptor =
    IsStaticDescriptorOf comments node (import_kind type_only phase) (range_of node) src
    (not has_specifiers) (AreDeclarationAttributes (with_clause node)) descriptor
IsDescriptorOfKind comments node (NamedExport type_only (Some src) has_with) descriptor =
    IsStaticDescriptorOf comments node (export_kind type_only) (range_of node) src
    false (AreDeclarationAttributes (with_clause node)) descriptor
IsDescriptorOfKind comments node (ExportAll type_only src has_with) descriptor =
    IsStaticDescriptorOf comments node (export_kind type_only) (range_of node) src
    false (AreDeclarationAttributes (with_clause node)) descriptor
IsDescriptorOfKind comments node (ImportEquals type_only is_export (Some external)) descriptor =
    IsStaticDescriptorOf comments node (import_equals_kind type_only is_export) (range_of node) external
    false AreNoAttributes descriptor
IsDescriptorOfKind comments node (ImportType arg has_with) descriptor =
    IsStaticDescriptorOf comments node static_kind.ImportType (range_of node) arg
    false (AreTypeAttributes (with_clause node)) descriptor
IsDescriptorOfKind comments node (ModuleDecl (Some name)) descriptor =
    IsTrue (may_name_module (lossy_text name.value))
    × IsStaticDescriptorOf comments node static_kind.MaybeTsModuleAugmentation name.range name
    false AreNoAttributes descriptor
IsDescriptorOfKind comments node (Call callee args) descriptor =
    IsDynamicDescriptorOf comments node callee args descriptor
IsDescriptorOfKind comments node _ descriptor = ⊥

-- the descriptor is that of the node
unfoldable pub IsDescriptorOf : FiledComments → Node → Descriptor → Type 0
IsDescriptorOf comments node descriptor = IsDescriptorOfKind comments node (kind_of node) descriptor

-- the descriptors are those of the nodes, one for each
abbrev pub AreDescriptorsOf : FiledComments → List Node → List Descriptor → Type 0
AreDescriptorsOf comments [] [] = Unit {0}
AreDescriptorsOf comments [] (descriptor ∷ descriptors) = ⊥
AreDescriptorsOf comments (node ∷ nodes) [] = ⊥
AreDescriptorsOf comments (node ∷ nodes) (descriptor ∷ descriptors) =
    IsDescriptorOf comments node descriptor × AreDescriptorsOf comments nodes descriptors
