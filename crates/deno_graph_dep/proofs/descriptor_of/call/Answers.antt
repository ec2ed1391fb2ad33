-- The first argument has the children that it needs, as the call has.
use Rattle.std.proofs.Common.{◌≡◌, Some, ap, sym, ◌∙◌}
use Rattle.deno_graph_source.specs.Node.{children_of}
use Rattle.deno_graph_dep.specs.DescriptorOf.{argument_at}
use Rattle.deno_graph_dep.proofs.Calls.{argument_parts, argument_shaped}
use Rattle.deno_graph_dep.proofs.descriptor_of.call.Goals as goal

pub argument_known-requires : goal.argument_known-requires
unfolding children_of
argument_known-requires c =
    let node = c.args.node.now in
    let callee = c.args.callee in
    let args = c.args.args.now in
    let arg = c.in-Some-first_argument.arg.now in
    let argument = c.in-Some-first_argument.argument.now in
    let at : argument_at callee args c.as_slice-children.result.now 0 ≡ Some (arg, argument) =
    sym c.in-Some-first_argument.ensures in
    let parts =
    argument_parts callee args (children_of node) 0 arg argument
    (ap (λ xs. argument_at callee args xs 0) (sym c.as_slice-children.ensures) ∙ at) in
    argument_shaped node callee 0 argument c.requires parts.1
