-- The kinds of the nodes of a body, each with the path of its node, in tree order: a node is before its
-- children.
use Rattle.std.specs.Prelude.{◌≡◌, ℕ, ◌+◌, List, [], ◌∷◌, ◌++◌, map}
use Rattle.deno_graph_source.specs.Node.{kind_of}
use Rattle.deno_graph_source.specs.NodePath.{LeadsTo, NodePath}
use Rattle.deno_graph_source.specs.declared.tree.node.Kind.{Kind}
use Rattle.deno_graph_source.specs.declared.tree.node.Node.{Node}
use Rattle.deno_graph_source.specs.declared.tree.node.Node.TheOpen.{Node-F}
use Rattle.deno_graph_source.specs.declared.tree.node.Node.TheFolds.{fold-Node}

-- A path of indices, and the kind of the node to which it leads.
abbrev pub KindAt : Type 0
KindAt = NodePath × Kind

-- The kinds of the children of the node at a path, or of the items of a body, where the path is empty. The
-- first has this index.
abbrev pub kinds_of_items : ℕ → NodePath → List (NodePath → List KindAt) → List KindAt
kinds_of_items index path [] = []
kinds_of_items index path (item ∷ items) =
    item (path ++ index ∷ []) ++ kinds_of_items (index + 1) path items

-- One step of `kinds_in`: the kind of the node, before those of its children.
abbrev pub kinds_step : Node-F (NodePath → List KindAt) → NodePath → List KindAt
kinds_step layer path = (path, layer.kind) ∷ kinds_of_items 0 path layer.children

-- The kinds of the node at a path and of all nodes below it.
unfoldable pub kinds_in : Node → NodePath → List KindAt
kinds_in node = fold-Node (NodePath → List KindAt) kinds_step node

-- The kinds of all nodes of a body.
abbrev pub kinds_of_body : List Node → List KindAt
kinds_of_body body = kinds_of_items 0 [] (map kinds_in body)

-- The path leads to a node of the kind.
abbrev pub LeadsToKind : List Node → KindAt → Type 0
LeadsToKind body at = LeadsTo (λ node. kind_of node ≡ at.1) body at.0
