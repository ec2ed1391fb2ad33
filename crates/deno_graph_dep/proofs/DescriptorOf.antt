-- Only dependencies have descriptors, and a spread first argument is unknown.
use Rattle.std.proofs.Common.{◌≡◌, Bool, true, false, ◌&&◌, List, Option, Some, None, ap, sym, subst, ◌∙◌}
use Rattle.std.proofs.Common.{refl, slice_get}
use Rattle.std.specs.Prelude.{All, MatchBool, MatchOption, is_some}
use Rattle.std.proofs.lemmas.Bool.{false≢true}
use Rattle.deno_graph_source.specs.Comments.{FiledComments}
use Rattle.deno_graph_source.specs.Node.{kind_of, children_of, nodes_in, IsShaped}
use Rattle.deno_graph_source.specs.declared.tree.node.Arg.{Arg}
use Rattle.deno_graph_source.specs.declared.tree.node.Callee.{Callee}
use Rattle.deno_graph_source.specs.declared.tree.node.Kind.{Kind}
use Rattle.deno_graph_source.specs.declared.tree.node.Kind.TheVariants.{ImportDecl, NamedExport, ExportAll}
use Rattle.deno_graph_source.specs.declared.tree.node.Kind.TheVariants.{ImportEquals, ImportType, ModuleDecl}
use Rattle.deno_graph_source.specs.declared.tree.node.Kind.TheVariants.{Call}
use Rattle.deno_graph_source.specs.declared.tree.node.Node.{Node}
use Rattle.deno_graph_dep.specs.DependencyRules.{is_dependency_kind, is_dependency}
use Rattle.deno_graph_dep.specs.DependencyKind.{call_kind}
use Rattle.deno_graph_dep.specs.Argument.{HasForm, expression}
use Rattle.deno_graph_dep.specs.Descriptor.{DynamicDescriptor, Descriptor, descriptor_seen}
use Rattle.deno_graph_dep.specs.Descriptor.{dynamic_descriptor}
use Rattle.deno_graph_dep.specs.declared.descriptor.DependencyDescriptor.{DependencyDescriptor}
use Rattle.deno_graph_dep.specs.internal.CallSteps.{IsNoModuleCall}
use Rattle.deno_graph_dep.proofs.Calls.{no_module_call}
use Rattle.deno_graph_dep.specs.DescriptorOf.{IsDescriptorOf, IsDescriptorOfKind, IsDynamicDescriptorOf}

both : (a b : Bool) → a ≡ true → b ≡ true → (a && b) ≡ true
both a b e f = rw (e, f)

kind_from_descriptor : (comments : FiledComments) (node : Node) (kind : Kind) (descriptor : Descriptor)
    → IsDescriptorOfKind comments node kind descriptor
    → is_dependency_kind kind (children_of node) ≡ true
kind_from_descriptor comments node (ImportDecl type_only phase src has_specifiers has_with) descriptor
    describes = refl
kind_from_descriptor comments node (NamedExport type_only None has_with) descriptor describes =
    absurd describes
kind_from_descriptor comments node (NamedExport type_only (Some src) has_with) descriptor describes = refl
kind_from_descriptor comments node (ExportAll type_only src has_with) descriptor describes = refl
kind_from_descriptor comments node (ImportEquals type_only is_export None) descriptor describes =
    absurd describes
kind_from_descriptor comments node (ImportEquals type_only is_export (Some external)) descriptor describes =
    refl
kind_from_descriptor comments node (ImportType arg has_with) descriptor describes = refl
kind_from_descriptor comments node (ModuleDecl None) descriptor describes = absurd describes
kind_from_descriptor comments node (ModuleDecl (Some name)) descriptor describes = describes.0
kind_from_descriptor comments node (Call callee args) descriptor describes =
    both (is_some (call_kind callee (children_of node))) (is_some (slice_get args 0))
    (ap is_some describes.is_kind) (ap is_some describes.is_arg)
kind_from_descriptor comments node _ descriptor describes = absurd describes

pub dependency_from_descriptor : (comments : FiledComments) (node : Node) (descriptor : Descriptor)
    → IsDescriptorOf comments node descriptor
    → is_dependency node ≡ true
unfolding IsDescriptorOf is_dependency
dependency_from_descriptor comments node descriptor describes =
    kind_from_descriptor comments node (kind_of node) descriptor describes

same_argument : (a b : DynamicDescriptor) → dynamic_descriptor a ≡ dynamic_descriptor b
    → a.argument ≡ b.argument
same_argument a b e = let same : a ≡ b = cc in ap (λ (i : DynamicDescriptor). i.argument) same

by_spread : (b : Bool) (A B : Type 0) → b ≡ true → MatchBool b A B → A
by_spread true A B e h = h
by_spread false A B e h = absurd (false≢true e)

-- the descriptor of a call holds nothing of a spread first argument
pub unknown_where_spread : (comments : FiledComments) (node : Node) (callee : Callee) (args : List Arg)
    (arg : Arg) (descriptor : DynamicDescriptor)
    → kind_of node ≡ Call callee args → slice_get args 0 ≡ Some arg → arg.spread ≡ true
    → IsDescriptorOf comments node (dynamic_descriptor descriptor)
    → descriptor.argument ≡ expression
unfolding IsDescriptorOf
unknown_where_spread comments node callee args arg descriptor is at spread describes =
    let P : Kind → Type 0 = λ kind. IsDescriptorOfKind comments node kind (dynamic_descriptor descriptor) in
    let call : IsDynamicDescriptorOf comments node callee args (dynamic_descriptor descriptor) =
    subst P is describes in
    let same : call.arg ≡ arg = some_same (sym call.is_arg ∙ at) in
    let spread_too : call.arg.spread ≡ true = ap (λ (a : Arg). a.spread) same ∙ spread in
    same_argument descriptor _ call.is
    ∙ by_spread call.arg.spread (call.form ≡ expression)
    (HasForm call.argument call.form) spread_too call.has_form
  where
    some_same : {x y : Arg} → Some x ≡ Some y → x ≡ y
    some_same e = cc

-- a call that is found to be no module call is no dependency, and any other has its descriptor
pub found_call : (comments : FiledComments) (node : Node) (callee : Callee) (args : List Arg)
    → kind_of node ≡ Call callee args → All IsShaped (nodes_in node) → (found : Option DependencyDescriptor)
    → MatchOption found (IsNoModuleCall callee args (children_of node))
    (λ d. IsDynamicDescriptorOf comments node callee args (descriptor_seen d))
    → MatchOption found (is_dependency node ≡ false)
    (λ d. IsDescriptorOf comments node (descriptor_seen d))
unfolding IsDescriptorOf
found_call comments node callee args is shaped None none = no_module_call node callee args is shaped none
found_call comments node callee args is shaped (Some d) described =
    subst (λ kind. IsDescriptorOfKind comments node kind (descriptor_seen d)) (sym is) described
