use Rattle.modinfo_source.proofs.SpelledNodes.{spelled_node}
use Rattle.modinfo_source.proofs.tree.node_with.Goals as goal

pub returns : goal.returns
returns c = λ text pieces spelled below.
    spelled_node text pieces c.with_children.result c.args.range c.args.kind c.args.children
    c.with_children.ensures.range c.with_children.ensures.kind c.with_children.ensures.children spelled below
