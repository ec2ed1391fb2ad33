-- Functions of a whole tree, by recursion on its nodes.
use Rattle.std.specs.Prelude.{List, [], ◌++◌, map, if◌then◌else◌}
use Rattle.std.specs.List.{flat_map}
use Rattle.deno_graph_dep.specs.Listing.{Rules}
use Rattle.deno_graph_source.specs.declared.tree.node.Node as layers
use Rattle.deno_graph_source.specs.declared.tree.node.Node.{Node, Node-F, fold-Node, roll-Node}

-- a node with its result, where each child comes with its own result
abbrev pub with_result : {A : Type 0} → (Node → List A → A) → Node-F (Node × A) → Node × A
with_result {A} step layer =
    let node = roll-Node (layers.map-Node (Node × A) Node (λ child. child.0) layer) in
    (node, step node (map (λ child. child.1) layer.children))

-- the result of a node: `step` makes it of the node and of the results of its children, in order
unfoldable pub by_children : {A : Type 0} → (Node → List A → A) → Node → A
by_children {A} step node = (fold-Node (Node × A) (with_result step) node).1

-- a node's own entries before or after those of its children, as the rules say; a closed node has its
-- own entries only
abbrev pub with_own_entries : {A : Type 0} → Rules → (Node → List A) → Node → List (List A) → List A
with_own_entries rules own node below =
    (if rules.is_after_inside node then [] else own node)
    ++ (if rules.is_closed node then [] else flat_map (λ entries. entries) below)
    ++ (if rules.is_after_inside node then own node else [])

-- the entries of a node and of all nodes inside it, in tree order, by plain recursion
unfoldable pub entries_at : {A : Type 0} → Rules → (Node → List A) → Node → List A
entries_at rules own = by_children (with_own_entries rules own)
