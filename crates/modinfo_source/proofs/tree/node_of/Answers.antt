use Rattle.std.proofs.Common.{map, subst, sym}
use Rattle.std.specs.List.{All, flat_map}
use Rattle.deno_graph_source.specs.Node.{nodes_in}
use Rattle.modinfo_imports.specs.Nodes.{part_claim}
use Rattle.modinfo_source.specs.Spelled.{KindIsSpelled, NodeIsSpelled}
use Rattle.modinfo_source.proofs.tree.node_of.Goals as goal

pub returns : goal.returns
returns c =
    c.node_with.ensures c.args.text.now (map (part_claim c.args.text.now) c.args.all_parts.now)
    (subst (λ cs. KindIsSpelled c.args.text.now (map (part_claim c.args.text.now) c.args.all_parts.now)
    c.args.flat.range cs c.in_ok-kind.kind) c.as_slice.ensures
    c.in_ok-kind.ensures)
    (subst (λ cs. All (NodeIsSpelled c.args.text.now (map (part_claim c.args.text.now) c.args.all_parts.now))
    (flat_map nodes_in cs)) (sym c.in_ok-children.ensures)
    c.requires.nodes)
