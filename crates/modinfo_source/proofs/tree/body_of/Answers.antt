use Rattle.std.proofs.Common.{map, subst, sym}
use Rattle.std.specs.List.{All, flat_map}
use Rattle.deno_graph_source.specs.Node.{nodes_in}
use Rattle.modinfo_imports.specs.Nodes.{part_claim}
use Rattle.modinfo_source.specs.Spelled.{NodeIsSpelled}
use Rattle.modinfo_source.proofs.tree.body_of.Goals as goal

pub returns : goal.returns
returns c =
    subst (λ nodes. All (NodeIsSpelled c.args.text.now
    (map (part_claim c.args.text.now) c.args.all_parts.now)) (flat_map nodes_in nodes)) (sym
    c.in_ok-body.ensures)
    c.loop-index.invariant.nodes
