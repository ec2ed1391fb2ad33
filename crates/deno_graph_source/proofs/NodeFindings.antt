-- A fault of a node as a fault of the nodes of its parent or of the program.
use Rattle.std.proofs.Common.{◌≡◌, ℕ, List, [], ◌∷◌, ◌++◌, Some, reverse, sym, subst}
use Rattle.std.specs.List.{slice_get}
use Rattle.std.specs.Option.{IsSomeAnd}
use Rattle.deno_graph_source.specs.FaultPlace.{PartHas}
use Rattle.deno_graph_source.specs.internal.Finding.{IsFindingBelow, IsFindingInBody}
use Rattle.deno_graph_source.specs.Node.{children_of}
use Rattle.deno_graph_source.specs.NodePath.{node_below}
use Rattle.deno_graph_source.specs.declared.tree.check.finding.NodeFinding.{NodeFinding}
use Rattle.deno_graph_source.specs.declared.tree.check.finding.PartFinding.{PartFinding}
use Rattle.deno_graph_source.specs.declared.tree.node.Node.{Node}
use Rattle.deno_graph_source.specs.declared.tree.node.Program.{Program}
use Rattle.deno_graph_source.proofs.NodePaths.{leads_from_child, leads_from_item}

module _ (text : List ℕ) (number : ℕ) (found above : NodeFinding) (same : above.at ≡ found.at)
    (more : above.reversed_path.items ≡ found.reversed_path.items ++ number ∷ []) where
  -- the fault is below the node to which the path so far leads back
  still : (node : Node) → IsFindingBelow text node found
      → IsSomeAnd (node_below (Some node) (reverse found.reversed_path.items))
      (λ below. PartHas text above.at.fault below above.at.part)
  still node h =
      let P : PartFinding → Type 0 =
      λ at. IsSomeAnd (node_below (Some node) (reverse found.reversed_path.items))
      (λ below. PartHas text at.fault below at.part) in
      subst P (sym same) h

  pub found_from_child : (node child : Node) → slice_get (children_of node) number ≡ Some child
      → IsFindingBelow text child found → IsFindingBelow text node above
  found_from_child node child at h =
      leads_from_child (λ below. PartHas text above.at.fault below above.at.part) number
      found.reversed_path.items above.reversed_path.items more node child at (still child h)

  pub found_from_item : (program : Program) (item : Node) → slice_get program.body number ≡ Some item
      → IsFindingBelow text item found → IsFindingInBody text program above
  found_from_item program item at h =
      leads_from_item (λ below. PartHas text above.at.fault below above.at.part) number
      found.reversed_path.items above.reversed_path.items more program.body item at (still item h)
