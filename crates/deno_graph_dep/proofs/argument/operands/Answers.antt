-- A binary node has two children.
use Rattle.std.proofs.Common.{length, arith, ap, ◌∙◌, get_or}
use Rattle.deno_graph_source.specs.Node.{children_of}
use Rattle.deno_graph_dep.proofs.Spine.{children_of-binary}
use Rattle.deno_graph_dep.proofs.argument.operands.Goals as goal

pub bounds-children-0 : goal.bounds-children-0
unfolding children_of
bounds-children-0 c =
    let two = children_of-binary c.args.node.now c.requires.binary c.requires.shaped in
    omega (arith, ap length (c.as_slice-children.ensures ∙ two.2))

pub bounds-children-1 : goal.bounds-children-1
unfolding children_of
bounds-children-1 c =
    let two = children_of-binary c.args.node.now c.requires.binary c.requires.shaped in
    omega (arith, ap length (c.as_slice-children.ensures ∙ two.2))

pub returns : goal.returns
unfolding children_of
returns c =
    let two = children_of-binary c.args.node.now c.requires.binary c.requires.shaped in
    let is = c.as_slice-children.ensures ∙ two.2 in
    let left = c.index-children-0.is ∙ ap (λ xs. get_or xs 0 c.index-children-0.result) is in
    let right = c.index-children-1.is ∙ ap (λ xs. get_or xs 1 c.index-children-1.result) is in
    rw (left, right) two.2
