-- The nodes of a body that are dependencies: by the body's listing, and by plain recursion.
use Rattle.std.specs.Prelude.{◌≡◌, List, [], map, Option, Some, None, option_and_then, if◌then◌else◌}
use Rattle.std.specs.List.{flat_map}
use Rattle.std.specs.Option.{option_to_list}
use Rattle.deno_graph_source.specs.declared.tree.node.Node.{Node}
use Rattle.deno_graph_source.specs.Node.{kind_of}
use Rattle.deno_graph_dep.specs.DependencyRules.{dependency_rules, is_dependency, is_after_inside}
use Rattle.deno_graph_dep.specs.Listing.{IsListing}
use Rattle.deno_graph_source.specs.NodePath.{NodePath, node_at}
use Rattle.deno_graph_dep.specs.Recursion.{entries_at}

-- the node, if it is a dependency
unfoldable pub dependency_node : Node → Option Node
dependency_node node = if is_dependency node then Some node else None

-- the node at a path, if it is a dependency
abbrev pub dependency_at : List Node → NodePath → Option Node
dependency_at body path = option_and_then dependency_node (node_at body path)

-- the nodes are those at the paths of the body's listing, in its order
pub record AreDependencyNodes (body : List Node) (nodes : List Node) : Type 0 where
  pub paths : List NodePath
  pub is_listing : IsListing dependency_rules body paths
  pub at_paths : map Some nodes ≡ map (dependency_at body) paths

-- the node itself if it is a dependency, as a list of one or none
abbrev pub own_nodes : Node → List Node
own_nodes node = option_to_list (dependency_node node)

-- the part of that list that comes before the dependencies inside the node
abbrev pub own_before : Node → List Node
own_before node = if is_after_inside (kind_of node) then [] else own_nodes node

-- the part of that list that comes after the dependencies inside the node
abbrev pub own_after : Node → List Node
own_after node = if is_after_inside (kind_of node) then own_nodes node else []

-- the dependencies among a node and all nodes inside it, by plain recursion
abbrev pub dependency_nodes_in : Node → List Node
dependency_nodes_in = entries_at dependency_rules own_nodes

-- the dependencies among several nodes and all nodes inside them
abbrev pub dependency_nodes_below : List Node → List Node
dependency_nodes_below nodes = flat_map dependency_nodes_in nodes
