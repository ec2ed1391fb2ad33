-- A call has a descriptor exactly where it is a dependency.
use Rattle.std.proofs.Common.{◌≡◌, false}
use Rattle.std.specs.Prelude.{MatchOption}
use Rattle.std.proofs.lemmas.Result.{IfOk-weaker}
use Rattle.deno_graph_source.specs.Node.{kind_of, children_of}
use Rattle.deno_graph_source.specs.declared.tree.node.Kind.TheVariants.{Call}
use Rattle.deno_graph_dep.specs.DependencyRules.{is_dependency}
use Rattle.deno_graph_dep.specs.Descriptor.{descriptor_seen}
use Rattle.deno_graph_dep.specs.DescriptorOf.{IsDescriptorOf, IsDynamicDescriptorOf}
use Rattle.deno_graph_dep.specs.internal.CallSteps.{IsNoModuleCall}
use Rattle.deno_graph_dep.proofs.DescriptorOf.{found_call}
use Rattle.deno_graph_dep.proofs.descriptor_of.descriptor_of.Goals as goal

pub returns-in-Call : goal.returns-in-Call
unfolding kind_of
returns-in-Call c =
    let comments = c.args.comments.now in
    let node = c.args.node.now in
    let callee = c.in-Call.callee in
    let args = c.as_slice.result.now in
    let is : kind_of node ≡ Call callee args = rw c.as_slice.ensures c.in-Call.is in
    IfOk-weaker c.call.result
    (λ found. MatchOption found (IsNoModuleCall callee args (children_of node))
    (λ d. IsDynamicDescriptorOf comments node callee args (descriptor_seen d)))
    (λ found. MatchOption found (is_dependency node ≡ false)
    (λ d. IsDescriptorOf comments node (descriptor_seen d)))
    (λ found. found_call comments node callee args is c.requires found) c.call.ensures
