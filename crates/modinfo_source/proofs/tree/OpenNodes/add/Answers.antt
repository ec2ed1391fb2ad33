use Rattle.std.proofs.Common.{map, subst, sym}
use Rattle.std.specs.List.{All}
use Rattle.modinfo_imports.specs.Nodes.{part_claim}
use Rattle.modinfo_source.specs.Spelled.{NodeIsSpelled}
use Rattle.modinfo_source.specs.internal.Parts.{PartIsCooked}
use Rattle.modinfo_source.proofs.SpelledNodes.{All-left, All-right, nodes_below, spelled_left, spelled_more}
use Rattle.modinfo_source.proofs.SpelledNodes.{spelled_right}
use Rattle.modinfo_source.proofs.tree.OpenNodes.add.Goals as goal

pub node_of-requires-clause-nodes : goal.node_of-requires-clause-nodes
node_of-requires-clause-nodes c =
    spelled_right c.args.text.now _ _ _ _ c.in_ok-inside.ensures c.requires.nodes

pub node_of-requires-clause-parts : goal.node_of-requires-clause-parts
node_of-requires-clause-parts c =
    All-right (PartIsCooked c.args.text.now
    (map (part_claim c.args.text.now) c.args.all_parts.now)) _ _ _ c.in_ok-parts.ensures c.requires.parts

pub returns : goal.returns
returns c = record {
  nodes = subst (λ items. All (NodeIsSpelled c.args.text.now
      (map (part_claim c.args.text.now) c.args.all_parts.now)) (nodes_below items))
      (sym c.in_ok-push-2.ensures.items)
      (spelled_more c.args.text.now _ _ _
      (spelled_left c.args.text.now _ _ _ _ c.in_ok-inside.ensures c.requires.nodes) c.in_ok-node.ensures);
  parts = All-left (PartIsCooked c.args.text.now
      (map (part_claim c.args.text.now) c.args.all_parts.now)) _ _ _ c.in_ok-parts.ensures c.requires.parts;
}
