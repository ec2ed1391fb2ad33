-- The dependencies of a valid source: the shapes of their nodes, and the ranges in their descriptors.
use Rattle.std.proofs.Common.{◌≡◌, ℕ, suc, Bool, true, false, cond, List, [], ◌∷◌, ◌++◌, Option, Some, None}
use Rattle.std.proofs.Common.{map, slice_get, ap, sym, refl, subst, ◌∙◌, All, Contains, option_and_then}
use Rattle.std.proofs.Common.{option_map}
use Rattle.std.proofs.lemmas.List.Elements.{All-head, All-nil, All-cons}
use Rattle.std.proofs.lemmas.Option.{slice_get_within, get_or_from_slice_get, slice_get-map}
use Rattle.deno_graph_source.specs.Comments.{FiledComments}
use Rattle.deno_graph_source.specs.Node.{kind_of, children_of, ranges_in_kind, node_ranges, nodes_in}
use Rattle.deno_graph_source.specs.Node.{nodes_of, IsShaped}
use Rattle.deno_graph_source.specs.Source.{IsValid}
use Rattle.deno_graph_base.specs.SourceRange.{IsTextRange}
use Rattle.deno_graph_base.specs.declared.text.position.SourceRange.{SourceRange}
use Rattle.deno_graph_source.specs.declared.tree.node.Arg.{Arg}
use Rattle.deno_graph_source.specs.declared.tree.node.Kind.{Kind}
use Rattle.deno_graph_source.specs.declared.tree.node.Kind.TheVariants.{ImportDecl, NamedExport, ExportAll}
use Rattle.deno_graph_source.specs.declared.tree.node.Kind.TheVariants.{ImportEquals, ImportType, ModuleDecl}
use Rattle.deno_graph_source.specs.declared.tree.node.Kind.TheVariants.{Call}
use Rattle.deno_graph_source.specs.declared.tree.node.Node.{Node}
use Rattle.deno_graph_source.specs.declared.tree.node.Program.{Program}
use Rattle.deno_graph_source.specs.declared.tree.node.StrLit.{StrLit}
use Rattle.deno_graph_source.proofs.ValidSource.{All-child_ranges, All-kind_ranges, valid_item}
use Rattle.deno_graph_source.proofs.ValidSource.{All-item_nodes, All-child_nodes}
use Rattle.deno_graph_info.specs.declared.analysis.import_attributes.ImportAttributes.{ImportAttributes}
use Rattle.deno_graph_info.specs.declared.analysis.static_dependency.StaticDependencyKind.{StaticDependencyKind}
use Rattle.deno_graph_dep.specs.Dependencies.{AreDependencies}
use Rattle.deno_graph_dep.specs.DependencyNodes.{AreDependencyNodes, dependency_at, dependency_node}
use Rattle.deno_graph_dep.specs.DependencyRules.{is_dependency}
use Rattle.deno_graph_dep.specs.Descriptor.{Descriptor, HasTextRanges}
use Rattle.deno_graph_source.specs.NodePath.{NodePath, node_at, node_below}
use Rattle.deno_graph_dep.specs.DescriptorOf.{IsDescriptorOf, IsDescriptorOfKind, IsStaticDescriptorOf}
use Rattle.deno_graph_dep.specs.DescriptorOf.{AreDescriptorsOf}

there : {X : Type 0} (xs : List X) (k : ℕ) (x : X) → slice_get xs k ≡ Some x → Contains xs x
there xs k x at = (k, slice_get_within xs k x at, get_or_from_slice_get xs k x x at)

-- a property that passes from each node to its children passes to all nodes below
holds_below : (P : Node → Type 0)
    → ((node child : Node) → Contains (children_of node) child → P node → P child)
    → (o : Option Node) (path : NodePath) (node : Node) → ((top : Node) → o ≡ Some top → P top)
    → node_below o path ≡ Some node → P node
holds_below P to_child None path node holds at = cc
holds_below P to_child (Some top) [] node holds at = holds node at
holds_below P to_child (Some top) (k ∷ path) node holds at =
    holds_below P to_child (slice_get (children_of top) k) path node
    (λ child is. to_child top child (there (children_of top) k child is) (holds top refl)) at

-- in a valid source the ranges of the node at a path are ranges of the text
valid_node : (text : List ℕ) (program : Program) (comments : FiledComments) (path : NodePath) (node : Node)
    → IsValid text program comments → node_at program.body path ≡ Some node
    → All (IsTextRange text) (node_ranges node)
valid_node text program comments [] node valid at = cc
valid_node text program comments (k ∷ path) node valid at =
    holds_below (λ n. All (IsTextRange text) (node_ranges n)) (All-child_ranges (IsTextRange text))
    (slice_get program.body k) path node
    (λ top is. valid_item text program comments top valid (there program.body k top is)) at

-- a node at a path of a program has, with all below it, the children that it needs
pub shaped_node : (program : Program) (path : NodePath) (node : Node)
    → All IsShaped (nodes_of program) → node_at program.body path ≡ Some node → All IsShaped (nodes_in node)
shaped_node program [] node shaped at = cc
shaped_node program (k ∷ path) node shaped at =
    holds_below (λ n. All IsShaped (nodes_in n)) (All-child_nodes IsShaped)
    (slice_get program.body k) path node
    (λ top is. All-item_nodes IsShaped program top (there program.body k top is) shaped) at

-- a node that is found as a dependency is the one at its path, and is a dependency
dependency_itself : (o : Option Node) (node : Node) → option_and_then dependency_node o ≡ Some node
    → (o ≡ Some node) × (is_dependency node ≡ true)
unfolding dependency_node
dependency_itself None node is = cc
dependency_itself (Some n) node is = by_test (is_dependency n) refl is
  where
    by_test : (b : Bool) → is_dependency n ≡ b → cond b (Some n) None ≡ Some node
        → (Some n ≡ Some node) × (is_dependency node ≡ true)
    by_test true holds e = let same : n ≡ node = cc in (e, subst (λ m. is_dependency m ≡ true) same holds)
    by_test false holds e = cc

at_path : {X Y : Type 0} (f : X → Option Y) (o : Option X) (y : Y) → option_map f o ≡ Some (Some y)
    → (x : X) × (f x ≡ Some y)
at_path f None y is = cc
at_path f (Some x) y is = (x, cc)

-- each node of a listing is at a path, and is a dependency
pub dependency_one : (body nodes : List Node) (k : ℕ) (node : Node) → AreDependencyNodes body nodes
    → slice_get nodes k ≡ Some node
    → (path : NodePath) × (node_at body path ≡ Some node) × (is_dependency node ≡ true)
dependency_one body nodes k node are at =
    let here : option_map (dependency_at body) (slice_get are.paths k) ≡ Some (Some node) =
    sym (slice_get-map (dependency_at body) are.paths k) ∙ ap (λ xs. slice_get xs k) (sym are.at_paths)
    ∙ slice_get-map Some nodes k ∙ ap (option_map Some) at in
    let path = at_path (dependency_at body) (slice_get are.paths k) node here in
    let itself = dependency_itself (node_at body path.0) node path.1 in
    (path.0, itself.0, itself.1)

-- the specifier's range in a descriptor is that of the literal
specifier_range : (text : List ℕ) (comments : FiledComments) (node : Node) (kind : StaticDependencyKind)
    (range : SourceRange) (literal : StrLit)
    (is_side_effect : Bool) (AreAttributes : ImportAttributes → Type 0) (descriptor : Descriptor)
    → IsStaticDescriptorOf comments node kind range literal is_side_effect AreAttributes descriptor
    → IsTextRange text literal.range → HasTextRanges text descriptor
specifier_range text comments node kind range literal is_side_effect AreAttributes descriptor describes held =
    subst (HasTextRanges text) (sym describes.2) held

first_arg_range : (P : SourceRange → Type 0) (args : List Arg) (arg : Arg) → slice_get args 0 ≡ Some arg
    → All P (map (λ (a : Arg). a.range) args) → P arg.range
first_arg_range P [] arg is held = cc
first_arg_range P (first ∷ args) arg is held =
    let same : first ≡ arg = cc in
    subst (λ (a : Arg). P a.range) same (All-head P first.range (map (λ (a : Arg). a.range) args) held)

-- the range in a descriptor is one of those in its node's kind
kind_descriptor_ranges : (text : List ℕ) (comments : FiledComments) (node : Node) (kind : Kind)
    (descriptor : Descriptor)
    → IsDescriptorOfKind comments node kind descriptor → All (IsTextRange text) (ranges_in_kind kind)
    → HasTextRanges text descriptor
kind_descriptor_ranges text comments node
    (ImportDecl type_only phase src has_specifiers has_with) descriptor describes held =
    specifier_range text comments node _ _ src _ _ descriptor describes
    (All-head (IsTextRange text) src.range [] held)
kind_descriptor_ranges text comments node (NamedExport type_only None has_with) descriptor describes held =
    absurd describes
kind_descriptor_ranges text comments node (NamedExport type_only (Some src) has_with) descriptor describes
    held =
    specifier_range text comments node _ _ src _ _ descriptor describes
    (All-head (IsTextRange text) src.range [] held)
kind_descriptor_ranges text comments node (ExportAll type_only src has_with) descriptor describes held =
    specifier_range text comments node _ _ src _ _ descriptor describes
    (All-head (IsTextRange text) src.range [] held)
kind_descriptor_ranges text comments node (ImportEquals type_only is_export None) descriptor describes held =
    absurd describes
kind_descriptor_ranges text comments node (ImportEquals type_only is_export (Some external)) descriptor
    describes held =
    specifier_range text comments node _ _ external _ _ descriptor describes
    (All-head (IsTextRange text) external.range [] held)
kind_descriptor_ranges text comments node (ImportType arg has_with) descriptor describes held =
    specifier_range text comments node _ _ arg _ _ descriptor describes
    (All-head (IsTextRange text) arg.range [] held)
kind_descriptor_ranges text comments node (ModuleDecl None) descriptor describes held = absurd describes
kind_descriptor_ranges text comments node (ModuleDecl (Some name)) descriptor describes held =
    specifier_range text comments node _ _ name _ _ descriptor describes.1
    (All-head (IsTextRange text) name.range [] held)
kind_descriptor_ranges text comments node (Call callee args) descriptor describes held =
    subst (HasTextRanges text) (sym describes.is)
    (first_arg_range (IsTextRange text) args describes.arg describes.is_arg held)
kind_descriptor_ranges text comments node _ descriptor describes held = absurd describes

-- the descriptors of nodes with ranges of the text have ranges of the text
descriptor_ranges : (text : List ℕ) (comments : FiledComments) (nodes : List Node)
    (descriptors : List Descriptor)
    → AreDescriptorsOf comments nodes descriptors
    → ((k : ℕ) (node : Node) → slice_get nodes k ≡ Some node → All (IsTextRange text) (node_ranges node))
    → All (HasTextRanges text) descriptors
unfolding IsDescriptorOf
descriptor_ranges text comments [] [] described ranges = All-nil (HasTextRanges text)
descriptor_ranges text comments [] (descriptor ∷ descriptors) described ranges = absurd described
descriptor_ranges text comments (node ∷ nodes) [] described ranges = absurd described
descriptor_ranges text comments (node ∷ nodes) (descriptor ∷ descriptors) described ranges =
    All-cons (HasTextRanges text) descriptor descriptors
    (kind_descriptor_ranges text comments node (kind_of node) descriptor described.0
    (All-kind_ranges (IsTextRange text) node (ranges 0 node refl)))
    (descriptor_ranges text comments nodes descriptors described.1 (λ k n at. ranges (suc k) n at))

-- the ranges in the descriptors of a valid source are ranges of its text
pub dependency_ranges : (text : List ℕ) (program : Program) (comments : FiledComments)
    (descriptors : List Descriptor)
    → IsValid text program comments → AreDependencies comments program.body descriptors
    → All (HasTextRanges text) descriptors
dependency_ranges text program comments descriptors valid are =
    descriptor_ranges text comments are.nodes descriptors are.described
    (λ k node at. let one = dependency_one program.body are.nodes k node are.are_nodes at in
    valid_node text program comments one.0 node valid one.1)

-- one more node and its descriptor
pub AreDescriptorsOf-more : (comments : FiledComments) (nodes : List Node) (descriptors : List Descriptor)
    (node : Node)
    (descriptor : Descriptor)
    → AreDescriptorsOf comments nodes descriptors → IsDescriptorOf comments node descriptor
    → AreDescriptorsOf comments (nodes ++ node ∷ []) (descriptors ++ descriptor ∷ [])
AreDescriptorsOf-more comments [] [] node descriptor described describes = (describes, tt)
AreDescriptorsOf-more comments [] (i ∷ descriptors) node descriptor described describes = absurd described
AreDescriptorsOf-more comments (n ∷ nodes) [] node descriptor described describes = absurd described
AreDescriptorsOf-more comments (n ∷ nodes) (i ∷ descriptors) node descriptor described describes =
    (described.0, AreDescriptorsOf-more comments nodes descriptors node descriptor described.1 describes)
