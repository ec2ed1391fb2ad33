-- The descriptor of a node is unique.
use Rattle.std.proofs.Common.{◌≡◌, Bool, false, not, List, [], ◌∷◌, Some, None, ap, sym, subst, ◌∙◌, refl}
use Rattle.std.proofs.lemmas.Bool.{false≢true}
use Rattle.std.proofs.lemmas.Option.{same_Some}
use Rattle.deno_graph_source.specs.Comments.{FiledComments, leading_at}
use Rattle.deno_graph_source.specs.Node.{kind_of, range_of, children_of}
use Rattle.deno_graph_source.specs.declared.tree.node.Arg.{Arg}
use Rattle.deno_graph_source.specs.declared.tree.node.BinaryOp.{BinaryOp}
use Rattle.deno_graph_source.specs.declared.tree.node.Callee.{Callee}
use Rattle.deno_graph_source.specs.declared.tree.node.Kind.{Kind}
use Rattle.deno_graph_source.specs.declared.tree.node.Kind.TheVariants.{ImportDecl, NamedExport, ExportAll}
use Rattle.deno_graph_source.specs.declared.tree.node.Kind.TheVariants.{ImportEquals, ImportType, ModuleDecl}
use Rattle.deno_graph_source.specs.declared.tree.node.Kind.TheVariants.{Call, Str, Template, Binary}
use Rattle.deno_graph_source.specs.declared.tree.node.Node.{Node}
use Rattle.deno_graph_source.specs.declared.tree.node.StrLit.{StrLit}
use Rattle.deno_graph_base.specs.declared.text.position.SourceRange.{SourceRange}
use Rattle.deno_graph_info.specs.declared.analysis.import_attributes.ImportAttributes.{ImportAttributes}
use Rattle.deno_graph_info.specs.declared.analysis.import_attributes.ImportAttributes.TheVariants as attributes
use Rattle.deno_graph_info.specs.declared.analysis.static_dependency.StaticDependencyKind.{StaticDependencyKind}
use Rattle.deno_graph_info.specs.declared.analysis.static_dependency.StaticDependencyKind.TheVariants as static_kind
use Rattle.deno_graph_info.specs.declared.analysis.dynamic_dependency.DynamicDependencyKind.{DynamicDependencyKind}
use Rattle.deno_graph_dep.specs.Argument.{Form, HasForm, HasFormAt, LeftSpine, SpineStep, expression}
use Rattle.deno_graph_dep.specs.Argument.{is_binary, sum_form}
use Rattle.deno_graph_dep.specs.Dependencies.{AreDependencies}
use Rattle.deno_graph_dep.specs.DependencyKind.{import_kind, export_kind, import_equals_kind}
use Rattle.deno_graph_dep.specs.Descriptor.{Descriptor, dynamic_descriptor, static_descriptor}
use Rattle.deno_graph_dep.specs.DescriptorOf.{AreDescriptorsOf, ArgumentHasForm, AreNoAttributes}
use Rattle.deno_graph_dep.specs.DescriptorOf.{IsDescriptorOf, IsDescriptorOfKind, IsDynamicDescriptorOf}
use Rattle.deno_graph_dep.specs.DescriptorOf.{IsStaticDescriptorOf, argument_at, specified_descriptor}
use Rattle.deno_graph_dep.specs.DescriptorOf.{with_clause}
use Rattle.deno_graph_dep.proofs.DependencyNodes.{AreDependencyNodes-unique}
use Rattle.deno_graph_dep.proofs.Spine.{step_with}
use Rattle.deno_graph_dep.proofs.UniqueAttributes.{IsUnique, unique_equal, unique_by}
use Rattle.deno_graph_dep.proofs.UniqueAttributes.{AreDeclarationAttributes-unique, AreTypeAttributes-unique}
use Rattle.deno_graph_dep.proofs.UniqueAttributes.{AreCallAttributes-unique}

-- The form of an argument

-- two spines have the same steps and the same first operand
abbrev SameSpine : List SpineStep → List SpineStep → Node → Node → Type 0
SameSpine steps others first other = (steps ≡ others) × (first ≡ other)

no_binary : (node : Node) (op : BinaryOp) → kind_of node ≡ Binary op → is_binary (kind_of node) ≡ false → ⊥
no_binary node op is is_not = false≢true (sym is_not ∙ ap is_binary is)

LeftSpine-unique : (node : Node) (steps others : List SpineStep) (first other : Node)
    → LeftSpine node steps first → LeftSpine node others other
    → SameSpine steps others first other
LeftSpine-unique node [] [] first other a b = (refl, sym a.0 ∙ b.0)
LeftSpine-unique node [] (step ∷ others) first other a b = absurd (no_binary node step.operator b.0 a.1)
LeftSpine-unique node (step ∷ steps) [] first other a b = absurd (no_binary node step.operator a.0 b.1)
LeftSpine-unique node (step ∷ steps) (other_step ∷ others) first other a b =
    let right = step.right in
    let other_op = other_step.operator in
    let other_right = other_step.right in
    let kinds : Binary step.operator ≡ Binary other_op = sym a.0 ∙ b.0 in
    let ops : step.operator ≡ other_op = cc in
    let left = a.1.0 in
    let children : left ∷ right ∷ [] ≡ b.1.0 ∷ other_right ∷ [] = sym a.1.1 ∙ b.1.1 in
    let lefts : b.1.0 ≡ left = cc in
    let rights : right ≡ other_right = cc in
    let rest = LeftSpine-unique left steps others first other a.1.2
    (subst (λ n. LeftSpine n others other) lefts b.1.2) in (
      ap (λ o. step_with o right ∷ steps) ops
          ∙ (ap (λ r. step_with other_op r ∷ steps) rights ∙ ap (λ s. other_step ∷ s) rest.0),
      rest.1,
    )

HasFormAt-unique : (kind : Kind) (node : Node) (a b : Form) → HasFormAt kind node a → HasFormAt kind node b
    → a ≡ b
HasFormAt-unique (Str points) node a b is also = is ∙ sym also
HasFormAt-unique (Template quasis) node a b is also = is ∙ sym also
HasFormAt-unique (Binary op) node a b is also =
    let same = LeftSpine-unique node is.0 also.0 is.1 also.1 is.2 also.2 in
    is.3 ∙ (ap (λ steps. sum_form steps is.1) same.0
    ∙ (ap (λ first. sum_form also.0 first) same.1 ∙ sym also.3))
HasFormAt-unique _ node a b is also = is ∙ sym also

ArgumentHasForm-unique : (arg : Arg) (argument : Node) → IsUnique (ArgumentHasForm arg argument)
ArgumentHasForm-unique arg argument =
    unique_by arg.spread (λ form. form ≡ expression) (HasForm argument) (unique_equal expression)
    (HasFormAt-unique (kind_of argument) argument)

-- The descriptor of a node

IsStaticDescriptorOf-unique : (comments : FiledComments) (node : Node) (kind : StaticDependencyKind)
    (range : SourceRange) (literal : StrLit) (is_side_effect : Bool)
    (AreAttributes : ImportAttributes → Type 0) → IsUnique AreAttributes
    → IsUnique (IsStaticDescriptorOf comments node kind range literal is_side_effect AreAttributes)
IsStaticDescriptorOf-unique comments node kind range literal is_side_effect AreAttributes unique a b is also =
    is.2 ∙ (ap (λ given. static_descriptor
    (specified_descriptor comments node kind range literal is_side_effect given))
    (unique is.0 also.0 is.1 also.1) ∙ sym also.2)

AreNoAttributes-unique : IsUnique AreNoAttributes
AreNoAttributes-unique = unique_equal attributes.None

IsDynamicDescriptorOf-unique : (comments : FiledComments) (node : Node) (callee : Callee) (args : List Arg)
    (a b : Descriptor)
    → IsDynamicDescriptorOf comments node callee args a → IsDynamicDescriptorOf comments node callee args b
    → a ≡ b
IsDynamicDescriptorOf-unique comments node callee args a b is also =
    let kinds = same_Some is.kind also.kind (sym is.is_kind ∙ also.is_kind) in
    let arg = same_Some is.arg also.arg (sym is.is_arg ∙ also.is_arg) in
    let argument = same_Some is.argument also.argument (sym is.is_argument ∙ also.is_argument) in
    let has : ArgumentHasForm is.arg is.argument also.form =
    subst (λ x. ArgumentHasForm x is.argument also.form) (sym arg)
    (subst (λ x. ArgumentHasForm also.arg x also.form) (sym argument) also.has_form) in
    let forms = ArgumentHasForm-unique is.arg is.argument is.form also.form is.has_form has in
    let given = AreCallAttributes-unique
    (argument_at callee args (children_of node) 1) is.given also.given is.are_given also.are_given in
    is.is ∙ (by_parts kinds forms arg given ∙ sym also.is)
  where
    descriptor : DynamicDependencyKind → Form → Arg → ImportAttributes → Descriptor
    descriptor kind form arg given = dynamic_descriptor (record {
      kind = kind;
      leading_comments = leading_at comments (range_of node).start;
      range = range_of node;
      argument = form;
      argument_range = arg.range;
      import_attributes = given;
    })

    by_parts : {k l : DynamicDependencyKind} {f g : Form} {x y : Arg} {r s : ImportAttributes} → k ≡ l → f ≡ g
        → x ≡ y → r ≡ s
        → descriptor k f x r ≡ descriptor l g y s
    by_parts {k} {l} {f} {g} {x} {y} {r} {s} kinds forms args given =
        ap (λ v. descriptor v f x r) kinds
        ∙ (ap (λ v. descriptor l v x r) forms ∙
        (ap (λ v. descriptor l g v r) args ∙ ap (λ v. descriptor l g y v) given))

IsDescriptorOfKind-unique : (comments : FiledComments) (node : Node) (kind : Kind) (a b : Descriptor)
    → IsDescriptorOfKind comments node kind a → IsDescriptorOfKind comments node kind b → a ≡ b
IsDescriptorOfKind-unique comments node (ImportDecl type_only phase src has_specifiers has_with) a b is also =
    IsStaticDescriptorOf-unique comments node (import_kind type_only phase) (range_of node) src
    (not has_specifiers) _ (AreDeclarationAttributes-unique (with_clause node)) a b is also
IsDescriptorOfKind-unique comments node (NamedExport type_only None has_with) a b is also = absurd is
IsDescriptorOfKind-unique comments node (NamedExport type_only (Some src) has_with) a b is also =
    IsStaticDescriptorOf-unique comments node (export_kind type_only) (range_of node) src false _
    (AreDeclarationAttributes-unique (with_clause node)) a b is also
IsDescriptorOfKind-unique comments node (ExportAll type_only src has_with) a b is also =
    IsStaticDescriptorOf-unique comments node (export_kind type_only) (range_of node) src false _
    (AreDeclarationAttributes-unique (with_clause node)) a b is also
IsDescriptorOfKind-unique comments node (ImportEquals type_only is_export None) a b is also = absurd is
IsDescriptorOfKind-unique comments node (ImportEquals type_only is_export (Some external)) a b is also =
    IsStaticDescriptorOf-unique comments node (import_equals_kind type_only is_export)
    (range_of node) external false AreNoAttributes AreNoAttributes-unique a b is also
IsDescriptorOfKind-unique comments node (ImportType arg has_with) a b is also =
    IsStaticDescriptorOf-unique comments node static_kind.ImportType (range_of node) arg false _
    (AreTypeAttributes-unique (with_clause node)) a b is also
IsDescriptorOfKind-unique comments node (ModuleDecl None) a b is also = absurd is
IsDescriptorOfKind-unique comments node (ModuleDecl (Some name)) a b is also =
    IsStaticDescriptorOf-unique comments node static_kind.MaybeTsModuleAugmentation name.range name false
    AreNoAttributes
    AreNoAttributes-unique a b is.1 also.1
IsDescriptorOfKind-unique comments node (Call callee args) a b is also =
    IsDynamicDescriptorOf-unique comments node callee args a b is also
IsDescriptorOfKind-unique comments node _ a b is also = absurd is

pub IsDescriptorOf-unique : (comments : FiledComments) (node : Node) (a b : Descriptor)
    → IsDescriptorOf comments node a
    → IsDescriptorOf comments node b → a ≡ b
unfolding IsDescriptorOf
IsDescriptorOf-unique comments node a b is also =
    IsDescriptorOfKind-unique comments node (kind_of node) a b is also

AreDescriptorsOf-unique : (comments : FiledComments) (nodes : List Node)
    (descriptors others : List Descriptor)
    → AreDescriptorsOf comments nodes descriptors → AreDescriptorsOf comments nodes others
    → descriptors ≡ others
AreDescriptorsOf-unique comments [] [] [] a b = refl
AreDescriptorsOf-unique comments [] [] (other ∷ others) a b = absurd b
AreDescriptorsOf-unique comments [] (descriptor ∷ descriptors) others a b = absurd a
AreDescriptorsOf-unique comments (node ∷ nodes) [] others a b = absurd a
AreDescriptorsOf-unique comments (node ∷ nodes) (descriptor ∷ descriptors) [] a b = absurd b
AreDescriptorsOf-unique comments (node ∷ nodes) (descriptor ∷ descriptors) (other ∷ others) a b =
    ap (λ i. i ∷ descriptors) (IsDescriptorOf-unique comments node descriptor other a.0 b.0)
    ∙ ap (λ is. other ∷ is) (AreDescriptorsOf-unique comments nodes descriptors others a.1 b.1)

-- a body has one list of descriptors
pub AreDependencies-unique : (comments : FiledComments) (body : List Node)
    (descriptors others : List Descriptor)
    → AreDependencies comments body descriptors → AreDependencies comments body others → descriptors ≡ others
AreDependencies-unique comments body descriptors others a b =
    let same = AreDependencyNodes-unique body a.nodes b.nodes a.are_nodes b.are_nodes in
    AreDescriptorsOf-unique comments b.nodes descriptors others
    (subst (λ nodes. AreDescriptorsOf comments nodes descriptors) same a.described) b.described
