-- Each step returns the next node of the listing, and its descriptor comes next.
use Rattle.std.proofs.Common.{◌≡◌, false, ◌++◌, [], ◌∷◌, map, Option, sym, ap, ◌∙◌, subst}
use Rattle.std.specs.Borrow.{Bor}
use Rattle.std.specs.Prelude.{MatchOption}
use Rattle.std.proofs.lemmas.Bool.{false≢true}
use Rattle.std.proofs.lemmas.List.{map-append}
use Rattle.deno_graph_source.specs.declared.tree.node.Node.{Node}
use Rattle.deno_graph_dep.specs.declared.descriptor.DependencyDescriptor.{DependencyDescriptor}
use Rattle.deno_graph_dep.specs.DependencyRules.{is_dependency}
use Rattle.deno_graph_dep.specs.Descriptor.{descriptor_seen}
use Rattle.deno_graph_dep.specs.DescriptorOf.{IsDescriptorOf}
use Rattle.deno_graph_dep.specs.Walk.{IsWalkStep}
use Rattle.deno_graph_dep.proofs.Returned.{AreReturned, AreReturned-more, AreDependencies-given}
use Rattle.deno_graph_dep.proofs.Returned.{AreDescriptorsOf-given, step-dependency, step-shaped}
use Rattle.deno_graph_dep.proofs.SpelledArguments.{dependencies_spell}
use Rattle.deno_graph_dep.proofs.collector.analyze_program_dependencies.Goals as goal

-- the node of a step has the children that it needs
pub descriptor_of-requires : goal.descriptor_of-requires
descriptor_of-requires c =
    let new = c.step.new.self in
    let step =
    subst (λ (o : Option (Bor Node)). IsWalkStep c.nodes.walk new o) c.in-Some.is c.in_ok-node.ensures.step in
    step-shaped c.args.comments.now c.args.program.now c.new-walk.result c.nodes.walk new
    (map descriptor_seen c.nodes.descriptors.items) c.in-Some.node c.new-walk.ensures.program c.requires
    c.nodes.invariant step

-- the node of a step is a dependency, so it has a descriptor
pub nodes-preserved-in_default-2 : goal.nodes-preserved-in_default-2
nodes-preserved-in_default-2 c =
    let comments = c.args.comments.now in
    let new = c.step.new.self in
    let node = c.in-Some.node in
    let step =
    subst (λ (o : Option (Bor Node)). IsWalkStep c.nodes.walk new o) c.in-Some.is c.in_ok-node.ensures.step in
    let none =
    subst (λ (o : Option DependencyDescriptor). MatchOption o (is_dependency node.now ≡ false)
    (λ d. IsDescriptorOf comments node.now (descriptor_seen d))) c.in_default-2.is
    c.in_ok-descriptor.ensures in
    absurd (false≢true (sym none
    ∙ step-dependency comments c.new-walk.result c.nodes.walk new
    (map descriptor_seen c.nodes.descriptors.items) node c.nodes.invariant step))

-- its descriptor comes next
pub nodes-preserved : goal.nodes-preserved
nodes-preserved c =
    let comments = c.args.comments.now in
    let new = c.step.new.self in
    let node = c.in-Some.node in
    let so_far = c.nodes.descriptors.items in
    let descriptor = c.in-Some-2.descriptor in
    let step =
    subst (λ (o : Option (Bor Node)). IsWalkStep c.nodes.walk new o) c.in-Some.is c.in_ok-node.ensures.step in
    let described =
    subst (λ (o : Option DependencyDescriptor). MatchOption o (is_dependency node.now ≡ false)
    (λ d. IsDescriptorOf comments node.now (descriptor_seen d))) c.in-Some-2.is
    c.in_ok-descriptor.ensures in
    let pushed : map descriptor_seen c.push.new.self.items
    ≡ map descriptor_seen so_far ++ descriptor_seen descriptor ∷ [] =
    ap (map descriptor_seen) c.in_ok-push.ensures.items
    ∙ map-append descriptor_seen so_far (descriptor ∷ []) in
    subst (AreReturned comments c.new-walk.result new) (sym pushed)
    (AreReturned-more comments c.new-walk.result c.nodes.walk new (map descriptor_seen so_far) node
    (descriptor_seen descriptor) c.nodes.invariant c.in_ok-node.ensures.program step described)

pub returns-clause-listing : goal.returns-clause-listing
returns-clause-listing c =
    let step =
    subst (λ (o : Option (Bor Node)). IsWalkStep c.nodes.walk c.step.new.self o) c.in_default.is
    c.in_ok-node.ensures.step in
    AreDependencies-given c.args.comments.now c.new-walk.result c.nodes.walk
    (map descriptor_seen c.nodes.descriptors.items) c.args.program.now
    c.nodes.invariant step.before c.new-walk.ensures.program

pub returns-clause-recursive : goal.returns-clause-recursive
returns-clause-recursive c =
    let step =
    subst (λ (o : Option (Bor Node)). IsWalkStep c.nodes.walk c.step.new.self o) c.in_default.is
    c.in_ok-node.ensures.step in
    AreDescriptorsOf-given c.args.comments.now c.new-walk.result c.nodes.walk
    (map descriptor_seen c.nodes.descriptors.items) c.args.program.now
    c.nodes.invariant step.before c.new-walk.ensures.program

pub returns-clause-spells : goal.returns-clause-spells
returns-clause-spells c =
    let step =
    subst (λ (o : Option (Bor Node)). IsWalkStep c.nodes.walk c.step.new.self o) c.in_default.is
    c.in_ok-node.ensures.step in
    dependencies_spell c.args.comments.now c.args.program.now (map descriptor_seen c.nodes.descriptors.items)
    c.requires
    (AreDependencies-given c.args.comments.now c.new-walk.result c.nodes.walk
    (map descriptor_seen c.nodes.descriptors.items) c.args.program.now
    c.nodes.invariant step.before c.new-walk.ensures.program)
