-- Each dependency has a descriptor, and each body has a list of descriptors.
use Rattle.std.proofs.Common.{◌≡◌, ℕ, suc, ◌+◌, Bool, true, false, not, List, [], ◌∷◌, Option, Some, None}
use Rattle.std.proofs.Common.{is_some, slice_get, refl, arith, All, MatchBool}
use Rattle.std.proofs.lemmas.Bool.{and_parts, false≢true}
use Rattle.deno_graph_source.specs.Comments.{FiledComments, leading_at}
use Rattle.deno_graph_source.specs.Node.{kind_of, range_of, children_of, callee_count, nodes_in, nodes_of}
use Rattle.deno_graph_source.specs.Node.{IsShaped}
use Rattle.deno_graph_base.specs.JsString.{lossy_text}
use Rattle.deno_graph_base.specs.declared.text.position.SourceRange.{SourceRange}
use Rattle.deno_graph_source.specs.declared.tree.node.Arg.{Arg}
use Rattle.deno_graph_source.specs.declared.tree.node.Callee.{Callee}
use Rattle.deno_graph_source.specs.declared.tree.node.Kind.{Kind}
use Rattle.deno_graph_source.specs.declared.tree.node.Kind.TheVariants.{ImportDecl, NamedExport, ExportAll}
use Rattle.deno_graph_source.specs.declared.tree.node.Kind.TheVariants.{ImportEquals, ImportType, ModuleDecl}
use Rattle.deno_graph_source.specs.declared.tree.node.Kind.TheVariants.{Call, Str, Template, Binary}
use Rattle.deno_graph_source.specs.declared.tree.node.Node.{Node}
use Rattle.deno_graph_source.specs.declared.tree.node.Program.{Program}
use Rattle.deno_graph_source.specs.declared.tree.node.StrLit.{StrLit}
use Rattle.deno_graph_info.specs.declared.analysis.dynamic_dependency.DynamicDependencyKind.{DynamicDependencyKind}
use Rattle.deno_graph_info.specs.declared.analysis.import_attributes.ImportAttributes.{ImportAttributes}
use Rattle.deno_graph_info.specs.declared.analysis.import_attributes.ImportAttributes.TheVariants as attributes
use Rattle.deno_graph_info.specs.declared.analysis.static_dependency.StaticDependencyKind.{StaticDependencyKind}
use Rattle.deno_graph_info.specs.declared.analysis.static_dependency.StaticDependencyKind.TheVariants as static_kind
use Rattle.deno_graph_dep.specs.Argument.{Form, HasForm, HasFormAt, expression, sum_form, template_form, text}
use Rattle.deno_graph_dep.specs.Dependencies.{AreDependencies}
use Rattle.deno_graph_dep.specs.DependencyKind.{call_kind, export_kind, import_equals_kind, import_kind}
use Rattle.deno_graph_dep.specs.DependencyRules.{is_dependency_kind, is_dependency}
use Rattle.deno_graph_dep.specs.Descriptor.{Descriptor, dynamic_descriptor, static_descriptor}
use Rattle.deno_graph_dep.specs.DependencyNodes.{dependency_nodes_below}
use Rattle.deno_graph_dep.specs.DescriptorOf.{AreDescriptorsOf, AreNoAttributes, IsDescriptorOf}
use Rattle.deno_graph_dep.specs.DescriptorOf.{IsDescriptorOfKind, IsDynamicDescriptorOf, IsStaticDescriptorOf}
use Rattle.deno_graph_dep.specs.DescriptorOf.{argument_at, specified_descriptor, with_clause}
use Rattle.deno_graph_dep.proofs.Calls.{argument_shaped, first_argument_within, node_within}
use Rattle.deno_graph_dep.proofs.DependencyRanges.{dependency_one, shaped_node}
use Rattle.deno_graph_dep.proofs.DependencyNodes.{AreDependencyNodes-dependencies_below}
use Rattle.deno_graph_dep.proofs.SomeAttributes.{some_call, some_declared, some_type}
use Rattle.deno_graph_dep.proofs.Spine.{AllShaped, has_spine}

-- The form of a first argument

form_at : (kind : Kind) (node : Node) → AllShaped node → (form : Form) × HasFormAt kind node form
form_at (Str points) node shaped = (text (lossy_text points), refl)
form_at (Template quasis) node shaped = (template_form quasis, refl)
form_at (Binary op) node shaped =
    let spine = has_spine node shaped in
    (sum_form spine.0 spine.1, (spine.0, spine.1, spine.2, refl))
form_at _ node shaped = (expression, refl)

some_form : (spread : Bool) (argument : Node) → AllShaped argument
    → (form : Form) × MatchBool spread (form ≡ expression) (HasForm argument form)
some_form true argument shaped = (expression, refl)
some_form false argument shaped = form_at (kind_of argument) argument shaped

-- The descriptor of a node

some_specified : (comments : FiledComments) (node : Node) (kind : StaticDependencyKind)
    (range : SourceRange) (literal : StrLit) (is_side_effect : Bool)
    (AreAttributes : ImportAttributes → Type 0) → (given : ImportAttributes) × AreAttributes given
    → (descriptor : Descriptor) × IsStaticDescriptorOf comments node kind range literal is_side_effect
    AreAttributes descriptor
some_specified comments node kind range literal is_side_effect AreAttributes given = (
  static_descriptor (specified_descriptor comments node kind range literal is_side_effect given.0),
  (given.0, given.1, refl),
)

none_given : (given : ImportAttributes) × AreNoAttributes given
none_given = (attributes.None, refl)

some_kind : (kind : Option DynamicDependencyKind) → is_some kind ≡ true
    → (given : DynamicDependencyKind) × (kind ≡ Some given)
some_kind None is = absurd (false≢true is)
some_kind (Some kind) is = (kind, refl)

some_dynamic : (comments : FiledComments) (node : Node) (callee : Callee) (arg : Arg) (others : List Arg)
    → kind_of node ≡ Call callee (arg ∷ others) → is_some (call_kind callee (children_of node)) ≡ true
    → AllShaped node → (descriptor : Descriptor) × IsDynamicDescriptorOf comments node callee (arg ∷ others)
    descriptor
some_dynamic comments node callee arg others is called shaped =
    let kind = some_kind (call_kind callee (children_of node)) called in
    let within = first_argument_within node callee (arg ∷ others) is shaped (omega arith) in
    let argument = node_within (children_of node) (callee_count callee + 0) (omega (arith, within)) in
    let form =
    some_form arg.spread argument.0 (argument_shaped node callee 0 argument.0 shaped argument.1) in
    let given = some_call (argument_at callee (arg ∷ others) (children_of node) 1) in (
      dynamic_descriptor (record {
        kind = kind.0;
        leading_comments = leading_at comments (range_of node).start;
        range = range_of node;
        argument = form.0;
        argument_range = arg.range;
        import_attributes = given.0;
      }),
      record {
        kind = kind.0;
        is_kind = kind.1;
        arg = arg;
        is_arg = refl;
        argument = argument.0;
        is_argument = argument.1;
        form = form.0;
        has_form = form.1;
        given = given.0;
        are_given = given.1;
        is = refl;
      },
    )

some_at : (comments : FiledComments) (node : Node) (kind : Kind) → kind_of node ≡ kind
    → is_dependency_kind kind (children_of node) ≡ true → AllShaped node
    → (descriptor : Descriptor) × IsDescriptorOfKind comments node kind descriptor
some_at comments node (ImportDecl type_only phase src has_specifiers has_with) is holds shaped =
    some_specified comments node (import_kind type_only phase) (range_of node) src (not has_specifiers) _
    (some_declared (with_clause node))
some_at comments node (NamedExport type_only None has_with) is holds shaped = absurd (false≢true holds)
some_at comments node (NamedExport type_only (Some src) has_with) is holds shaped =
    some_specified comments node (export_kind type_only) (range_of node) src false _
    (some_declared (with_clause node))
some_at comments node (ExportAll type_only src has_with) is holds shaped =
    some_specified comments node (export_kind type_only) (range_of node) src false _
    (some_declared (with_clause node))
some_at comments node (ImportEquals type_only is_export None) is holds shaped = absurd (false≢true holds)
some_at comments node (ImportEquals type_only is_export (Some external)) is holds shaped =
    some_specified comments node (import_equals_kind type_only is_export) (range_of node) external false
    AreNoAttributes none_given
some_at comments node (ImportType arg has_with) is holds shaped =
    some_specified comments node static_kind.ImportType (range_of node) arg false _
    (some_type (with_clause node))
some_at comments node (ModuleDecl None) is holds shaped = absurd (false≢true holds)
some_at comments node (ModuleDecl (Some name)) is holds shaped =
    let described = some_specified comments node static_kind.MaybeTsModuleAugmentation name.range name false
    AreNoAttributes none_given in
    (described.0, (holds, described.1))
some_at comments node (Call callee []) is holds shaped =
    absurd (false≢true (and_parts (is_some (call_kind callee (children_of node))) false holds).1)
some_at comments node (Call callee (arg ∷ others)) is holds shaped =
    some_dynamic comments node callee arg others is
    (and_parts (is_some (call_kind callee (children_of node))) true holds).0 shaped
some_at comments node _ is holds shaped = absurd (false≢true holds)

pub some_descriptor : (comments : FiledComments) (node : Node) → is_dependency node ≡ true
    → All IsShaped (nodes_in node)
    → (descriptor : Descriptor) × IsDescriptorOf comments node descriptor
unfolding IsDescriptorOf is_dependency
some_descriptor comments node holds shaped = some_at comments node (kind_of node) refl holds shaped

-- The dependencies of a body

all_descriptors : (comments : FiledComments) (nodes : List Node)
    → ((k : ℕ) (node : Node) → slice_get nodes k ≡ Some node
    → (descriptor : Descriptor) × IsDescriptorOf comments node descriptor)
    → (descriptors : List Descriptor) × AreDescriptorsOf comments nodes descriptors
all_descriptors comments [] each = ([], tt)
all_descriptors comments (node ∷ nodes) each =
    let first = each 0 node refl in
    let rest = all_descriptors comments nodes (λ k other at. each (suc k) other at) in
    (first.0 ∷ rest.0, (first.1, rest.1))

pub some_dependencies : (comments : FiledComments) (program : Program) → All IsShaped (nodes_of program)
    → (descriptors : List Descriptor) × AreDependencies comments program.body descriptors
some_dependencies comments program shaped =
    let body = program.body in
    let holds = AreDependencyNodes-dependencies_below body in
    let described = all_descriptors comments (dependency_nodes_below body) (λ k node at.
    let one = dependency_one body (dependency_nodes_below body) k node holds at in
    some_descriptor comments node one.2 (shaped_node program one.0 node shaped one.1)) in
    (described.0, record { nodes = dependency_nodes_below body; are_nodes = holds; described = described.1 })
