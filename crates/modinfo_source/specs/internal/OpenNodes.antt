-- Nodes and parts of templates whose parents aren't known yet.
use Rattle.std.specs.Prelude.{List, ℕ, map, All}
use Rattle.std.specs.List.{flat_map}
use Rattle.deno_graph_source.specs.Node.{nodes_in}
use Rattle.deno_graph_source.specs.declared.tree.node.Node.{Node}
use Rattle.modinfo_source.specs.Spelled.{NodeIsSpelled}
use Rattle.modinfo_source.specs.internal.Parts.{PartIsCooked}
use Rattle.modinfo_pieces.specs.declared.piece.Piece.{Piece}
use Rattle.modinfo_source.specs.declared.tree.OpenNode.{OpenNode}
use Rattle.modinfo_source.specs.declared.tree.OpenNodes.{OpenNodes}

-- the nodes themselves
abbrev pub nodes_of_open : List OpenNode → List Node
nodes_of_open nodes = map (λ it. it.node) nodes

-- the literals in all nodes and parts have the values that the text spells
pub record AreSpelled (text : List ℕ) (pieces : List Piece) (opened : OpenNodes) : Type 0 where
  pub nodes : All (NodeIsSpelled text pieces) (flat_map nodes_in (nodes_of_open opened.nodes.items))
  pub parts : All (PartIsCooked text pieces) opened.parts.items
