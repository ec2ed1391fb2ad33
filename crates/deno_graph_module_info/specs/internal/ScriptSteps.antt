-- The nodes that make a program a module, seen from a node above them.
use Rattle.std.specs.Prelude.{◌≡◌, Bool, false, Some, IsSomeAnd, ◌⊎◌}
use Rattle.deno_graph_source.specs.declared.tree.node.Node.{Node}
use Rattle.deno_graph_source.specs.NodePath.{NodePath, node_below, IsStrictPrefix}
use Rattle.deno_graph_module_info.specs.Script.{IsAwait, IsFunction, IsImportMeta}

-- the child indices lead from the node to a node with the property `P`
abbrev pub LeadsBelow : (Node → Type 0) → Node → NodePath → Type 0
LeadsBelow P node path = IsSomeAnd (node_below (Some node) path) P

-- the path leads to an await, and neither the node nor a node between is a function
pub record IsBareAwait (node : Node) (path : NodePath) : Type 0 where
  pub await : LeadsBelow IsAwait node path
  pub bare : (prefix : NodePath) → IsStrictPrefix prefix path → ¬ LeadsBelow IsFunction node prefix

-- the node or a node below it makes the program a module: an `import.meta`, or a bare await if the node
-- is in no function
abbrev pub MakesModule : Bool → Node → Type 0
MakesModule inside_function node =
    (path : NodePath)
    × (LeadsBelow IsImportMeta node path ⊎ ((inside_function ≡ false) × IsBareAwait node path))

-- the node itself makes the program a module
abbrev pub MakesModuleItself : Bool → Node → Type 0
MakesModuleItself inside_function node =
    IsImportMeta node ⊎ ((inside_function ≡ false) × IsAwait node)
