-- The nodes that a walk has returned so far, and the next one.
use Rattle.std.proofs.Common.{◌≡◌, List, [], ◌∷◌, ◌++◌, map, Option, Some, None, true, sym, ap, ◌∙◌, refl}
use Rattle.std.proofs.Common.{subst, append_assoc, option_and_then, cond, inl}
use Rattle.std.specs.Prelude.{IsSomeAnd, IsTrue, All}
use Rattle.std.specs.Borrow.{Bor}
use Rattle.std.proofs.lemmas.List.{append-nil, map-append}
use Rattle.deno_graph_source.specs.Comments.{FiledComments}
use Rattle.deno_graph_source.specs.Node.{nodes_in, nodes_of, IsShaped}
use Rattle.deno_graph_source.specs.declared.tree.node.Node.{Node}
use Rattle.deno_graph_source.specs.declared.tree.node.Program.{Program}
use Rattle.deno_graph_dep.specs.Dependencies.{AreDependencies}
use Rattle.deno_graph_dep.specs.Descriptor.{Descriptor}
use Rattle.deno_graph_dep.specs.DescriptorOf.{AreDescriptorsOf, IsDescriptorOf}
use Rattle.deno_graph_dep.proofs.DependencyRanges.{AreDescriptorsOf-more, shaped_node}
use Rattle.deno_graph_dep.specs.DependencyRules.{dependency_rules, is_dependency}
use Rattle.deno_graph_dep.specs.DependencyNodes.{AreDependencyNodes, dependency_at, dependency_nodes_below}
use Rattle.deno_graph_dep.specs.DependencyNodes.{dependency_node}
use Rattle.deno_graph_dep.specs.Listing.{IsListing}
use Rattle.deno_graph_source.specs.NodePath.{NodePath, node_at}
use Rattle.deno_graph_dep.specs.Walk.{IsWalkStep, WalkState}
use Rattle.deno_graph_dep.proofs.Ascending.{Member-right, Contains-from_Member}
use Rattle.deno_graph_dep.proofs.DependencyNodes.{AreDependencyNodes-dependencies_below}
use Rattle.deno_graph_dep.proofs.DependencyNodes.{AreDependencyNodes-unique}

-- The paths of the returned nodes, followed by those still to come, are the listing; and the descriptors are
-- those of the returned nodes.
pub record AreReturned (comments : FiledComments) (first walk : WalkState) (descriptors : List Descriptor) :
    Type 0 where
  pub same_program : walk.program ≡ first.program
  pub is_listing : IsListing dependency_rules first.program.body first.to_come
  pub given : List NodePath
  pub rest : first.to_come ≡ given ++ walk.to_come
  pub nodes : List Node
  pub at_paths : map Some nodes ≡ map (dependency_at first.program.body) given
  pub described : AreDescriptorsOf comments nodes descriptors

-- the node at the first path still to come is a dependency
dependency_next : (comments : FiledComments) (first walk : WalkState) (descriptors : List Descriptor)
    (path : NodePath)
    (rest : List NodePath) (node : Node)
    → AreReturned comments first walk descriptors → walk.to_come ≡ path ∷ rest
    → node_at first.program.body path ≡ Some node
    → is_dependency node ≡ true
dependency_next comments first walk descriptors path rest node so_far next at =
    let all : first.to_come ≡ so_far.given ++ path ∷ rest = so_far.rest
    ∙ ap (λ ps. so_far.given ++ ps) next in
    let P : List NodePath → Type 0 = λ ps. IsListing dependency_rules first.program.body ps in
    let is = subst P all so_far.is_listing in
    let member = Contains-from_Member (so_far.given ++ path ∷ rest) path
    (Member-right so_far.given (path ∷ rest) path (inl refl)) in
    let Q : Option Node → Type 0 = λ o. IsSomeAnd o (λ n. IsTrue (is_dependency n)) in
    subst Q at ((is.members path).0 member).1

at_first : (comments : FiledComments) (first walk : WalkState) (descriptors : List Descriptor)
    (path : NodePath)
    (node : Node)
    → AreReturned comments first walk descriptors → node_at walk.program.body path ≡ Some node
    → node_at first.program.body path ≡ Some node
at_first comments first walk descriptors path node so_far at =
    ap (λ (program : Program). node_at program.body path) (sym so_far.same_program) ∙ at

pub step-dependency : (comments : FiledComments) (first old new : WalkState) (descriptors : List Descriptor)
    (node : Bor Node)
    → AreReturned comments first old descriptors → IsWalkStep old new (Some node)
    → is_dependency node.now ≡ true
step-dependency comments first old new descriptors node so_far step =
    dependency_next comments first old descriptors step.path new.to_come node.now so_far step.first
    (at_first comments first old descriptors step.path node.now so_far step.at_path)

pub step-shaped : (comments : FiledComments) (program : Program) (first old new : WalkState)
    (descriptors : List Descriptor) (node : Bor Node)
    → first.program ≡ program → All IsShaped (nodes_of program) → AreReturned comments first old descriptors
    → IsWalkStep old new (Some node)
    → All IsShaped (nodes_in node.now)
step-shaped comments program first old new descriptors node is shaped so_far step =
    shaped_node program step.path node.now shaped
    (ap (λ (p : Program). node_at p.body step.path) (sym is)
    ∙ at_first comments first old descriptors step.path node.now so_far step.at_path)

dependency_node-is : (node : Node) → is_dependency node ≡ true → dependency_node node ≡ Some node
unfolding dependency_node
dependency_node-is node is = ap (λ b. cond b (Some node) None) is

-- the node of a step and its descriptor come last
pub AreReturned-more : (comments : FiledComments) (first old new : WalkState) (descriptors : List Descriptor)
    (node : Bor Node) (descriptor : Descriptor)
    → AreReturned comments first old descriptors → new.program ≡ old.program → IsWalkStep old new (Some node)
    → IsDescriptorOf comments node.now descriptor
    → AreReturned comments first new (descriptors ++ descriptor ∷ [])
AreReturned-more comments first old new descriptors node descriptor so_far same step describes =
    let path = step.path in
    let here : dependency_at first.program.body path ≡ Some node.now =
    ap (λ o. option_and_then dependency_node o)
    (at_first comments first old descriptors path node.now so_far step.at_path)
    ∙ dependency_node-is node.now (step-dependency comments first old new descriptors node so_far step) in
    record {
      same_program = same ∙ so_far.same_program;
      is_listing = so_far.is_listing;
      given = so_far.given ++ path ∷ [];
      rest = so_far.rest ∙ ap (λ ps. so_far.given ++ ps) step.first
          ∙ sym (append_assoc so_far.given (path ∷ []) new.to_come);
      nodes = so_far.nodes ++ node.now ∷ [];
      at_paths =
          map-append Some so_far.nodes (node.now ∷ [])
          ∙ ap (λ os. os ++ Some node.now ∷ []) so_far.at_paths
          ∙ ap (λ o. map (dependency_at first.program.body) so_far.given ++ o ∷ []) (sym here)
          ∙ sym (map-append (dependency_at first.program.body) so_far.given (path ∷ []));
      described = AreDescriptorsOf-more comments so_far.nodes descriptors node.now descriptor
          so_far.described describes;
    }

-- at the end the returned nodes are all of the listing
AreDependencyNodes-given : (comments : FiledComments) (first walk : WalkState) (descriptors : List Descriptor)
    → (so_far : AreReturned comments first walk descriptors) → walk.to_come ≡ []
    → AreDependencyNodes first.program.body so_far.nodes
AreDependencyNodes-given comments first walk descriptors so_far none =
    let P : List NodePath → Type 0 = λ ps. IsListing dependency_rules first.program.body ps in
    let all : first.to_come ≡ so_far.given = so_far.rest ∙ ap (λ ps. so_far.given ++ ps) none
    ∙ append-nil so_far.given in
    record { paths = so_far.given; is_listing = subst P all so_far.is_listing; at_paths = so_far.at_paths }

pub AreDependencies-given : (comments : FiledComments) (first walk : WalkState)
    (descriptors : List Descriptor)
    (program : Program)
    → AreReturned comments first walk descriptors → walk.to_come ≡ [] → first.program ≡ program
    → AreDependencies comments program.body descriptors
AreDependencies-given comments first walk descriptors program so_far none is =
    let P : Program → Type 0 = λ p. AreDependencies comments p.body descriptors in
    subst P is (record {
      nodes = so_far.nodes;
      are_nodes = AreDependencyNodes-given comments first walk descriptors so_far none;
      described = so_far.described;
    })

pub AreDescriptorsOf-given : (comments : FiledComments) (first walk : WalkState)
    (descriptors : List Descriptor)
    (program : Program)
    → AreReturned comments first walk descriptors → walk.to_come ≡ [] → first.program ≡ program
    → AreDescriptorsOf comments (dependency_nodes_below program.body) descriptors
AreDescriptorsOf-given comments first walk descriptors program so_far none is =
    let same =
    AreDependencyNodes-unique first.program.body so_far.nodes (dependency_nodes_below first.program.body)
    (AreDependencyNodes-given comments first walk descriptors so_far none)
    (AreDependencyNodes-dependencies_below first.program.body) in
    let P : List Node → Type 0 = λ nodes. AreDescriptorsOf comments nodes descriptors in
    let Q : Program → Type 0 = λ p. AreDescriptorsOf comments (dependency_nodes_below p.body) descriptors in
    subst Q is (subst P same so_far.described)
