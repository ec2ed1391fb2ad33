-- Reading nodes and programs.
use Rattle.std.specs.Prelude.{List, [], ◌∷◌, false, codes, Option, Some, None}
use Rattle.std.specs.Ordering.{nat_cmp, match_ordering}
use Rattle.std.specs.Cmp.Lexicographic.{slice_cmp}
use Rattle.serde_json.specs.Data.{Data, null, boolean, number, string, array, object, Items, no_items, item}
use Rattle.serde_json.specs.Data.{Members, no_members, member}
use Rattle.serde_json.specs.Find.{as_bool, as_object}
use Rattle.deno_graph_json.specs.Read.Partial.{◌>>=◌, member_at, member_or, reads_array}
use Rattle.deno_graph_source.specs.declared.tree.node.Node.{Node, roll-Node}
use Rattle.deno_graph_source.specs.declared.tree.node.Program.{Program}
use Rattle.modinfo_document.specs.Literal.{reads_source_range}
use Rattle.modinfo_document.specs.Kind.{reads_kind}

-- The node with these members and these children.
unfoldable pub node_with : Members → Option (List Node) → Option Node
node_with members below = do
  range ← member_at reads_source_range (codes "range") members
  kind ← reads_kind members
  children ← below
  Some (roll-Node (record { range = range; kind = kind; children = children }))

unfoldable mutual
  -- `{"kind":KIND,"range":[START,END],"children":[NODE ..]}`, with the members of its kind.
  pub reads_node : Data → Option Node
  reads_node null = None
  reads_node (boolean b) = None
  reads_node (number x) = None
  reads_node (string s) = None
  reads_node (array values) = None
  reads_node (object members) = node_with members (children_in members)

  -- An array of nodes.
  pub reads_nodes : Data → Option (List Node)
  reads_nodes null = None
  reads_nodes (boolean b) = None
  reads_nodes (number x) = None
  reads_nodes (string s) = None
  reads_nodes (array values) = reads_each values
  reads_nodes (object _) = None

  -- Each item of an array as a node.
  pub reads_each : Items → Option (List Node)
  reads_each no_items = Some []
  reads_each (item value values) = do
    node ← reads_node value
    nodes ← reads_each values
    Some (node ∷ nodes)

  -- The nodes of the member `children`, none if there is no such member. An object has a name once.
  pub children_in : Members → Option (List Node)
  children_in no_members = Some []
  children_in (member name value members) = match_ordering (slice_cmp nat_cmp (codes "children") name)
      (children_in members) (reads_nodes value) (children_in members)

-- `{"range":[START,END],"body":[NODE ..],"shebang":BOOL}`.
unfoldable pub reads_program : Data → Option Program
reads_program value = do
  members ← as_object value
  range ← member_at reads_source_range (codes "range") members
  has_shebang ← member_or as_bool (codes "shebang") false members
  body ← member_at (reads_array reads_node) (codes "body") members
  Some (record { range = range; body = body; has_shebang = has_shebang })
