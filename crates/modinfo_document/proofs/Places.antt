-- The paths of a module document lead to the values that its program and nodes were read from.
use Rattle.std.proofs.Common.{◌≡◌, ℕ, List, [], ◌∷◌, codes, Option, Some, None, slice_get, refl, ap, ◌∙◌}
use Rattle.std.proofs.lemmas.Option.{none-some, same_Some}
use Rattle.serde_json.specs.Data.{Data, null, boolean, number, string, array, object}
use Rattle.serde_json.specs.Find.{as_array, as_object, as_str, at, get, get_item, get_member}
use Rattle.deno_graph_json.specs.Read.Error.{data_at}
use Rattle.deno_graph_json.specs.Read.Partial.{◌>>=◌, member_at}
use Rattle.deno_graph_json.specs.declared.error.Step.{Step}
use Rattle.deno_graph_json.specs.declared.error.Step.TheVariants.{Item, Member}
use Rattle.deno_graph_source.specs.Node.{children_of}
use Rattle.deno_graph_source.specs.NodePath.{NodePath, node_at, node_below}
use Rattle.deno_graph_source.specs.declared.tree.node.Node.{Node}
use Rattle.modinfo_document.specs.Comments.{reads_sides}
use Rattle.modinfo_document.specs.Document.{Contents, reads_document}
use Rattle.modinfo_document.specs.Kind.{media_types}
use Rattle.modinfo_document.specs.Named.{reads_named}
use Rattle.modinfo_document.specs.Node.{reads_node, reads_program}
use Rattle.modinfo_document.specs.Place.{node_path, path_below, program_path}
use Rattle.modinfo_document.proofs.NodeLookup.{IsReadFrom, body_from, children_from, got, member_item}
use Rattle.modinfo_document.proofs.NodeLookup.{member_read, step}

-- An item of an array that is a member.
pub two_steps : (name : List ℕ) (k : ℕ) (value : Data) → (get name value >>= at k) ≡ member_item name k value
two_steps name k null = refl
two_steps name k (boolean b) = refl
two_steps name k (number n) = refl
two_steps name k (string s) = refl
two_steps name k (array held) = refl
two_steps name k (object held) = by (get_member name held)
  where
    by : (o : Option Data) → (o >>= at k) ≡ (o >>= (λ found. as_array found >>= get_item k))
    by None = refl
    by (Some null) = refl
    by (Some (boolean b)) = refl
    by (Some (number n)) = refl
    by (Some (string s)) = refl
    by (Some (array items)) = refl
    by (Some (object held_)) = refl

-- The path leads to a value that is read as this.
abbrev pub LeadsTo : {A : Type 0} → (Data → Option A) → Data → List Step → A → Type 0
LeadsTo reads root path x = (part : Data) × (data_at path root ≡ Some part) × (reads part ≡ Some x)

item_at_path : (root : Data) (path : List Step) (name : List ℕ) (k : ℕ) (found : Data)
    → data_at path root ≡ Some found
    → data_at (Item k ∷ Member name ∷ path) root ≡ member_item name k found
item_at_path root path name k found is = ap (λ o. (o >>= get name) >>= at k) is ∙ two_steps name k found

below_leads : (indices : NodePath) (path : List Step) (root : Data) (child : Option Data) (node : Option Node)
    (result : Node)
    → IsReadFrom reads_node child node → data_at path root ≡ child → node_below node indices ≡ Some result
    → LeadsTo reads_node root (path_below path indices) result
below_leads indices path root None None result from at is = absurd (none-some result is)
below_leads indices path root None (Some node) result from at is = absurd from
below_leads indices path root (Some found) None result from at is = absurd from
below_leads [] path root (Some found) (Some node) result from at is = (found, at, from ∙ is)
below_leads (index ∷ indices) path root (Some found) (Some node) result from at is =
    below_leads indices (Item index ∷ Member (codes "children") ∷ path) root
    (member_item (codes "children") index found) (slice_get (children_of node) index) result
    (children_from found node from index) (item_at_path root path (codes "children") index found at) is

-- The value of the program.
pub program_leads : (root : Data) (contents : Contents) → reads_document root ≡ Some contents
    → LeadsTo reads_program root program_path contents.program
unfolding reads_document
program_leads root contents is =
    let object_ = step (as_object root) _ contents is in
    let specifier = step (member_at as_str (codes "specifier") object_.0) _ contents object_.2 in
    let media_type = step (member_at (reads_named media_types) (codes "mediaType") object_.0) _ contents
    specifier.2 in
    let source = step (member_at as_str (codes "source") object_.0) _ contents media_type.2 in
    let comments = step (reads_sides object_.0) _ contents source.2 in
    let program = step (member_at reads_program (codes "program") object_.0) _ contents comments.2 in
    let read = member_read reads_program (codes "program") object_.0 program.0 program.1 in
    let made = same_Some _ contents program.2 in (
      read.0,
      got (codes "program") root object_.0 read.0 object_.1 read.1,
      read.2 ∙ ap (λ c. Some c.program) made,
    )

-- The value of the node at a path.
pub node_leads : (root : Data) (contents : Contents) → reads_document root ≡ Some contents
    → (indices : NodePath) (node : Node) → node_at contents.program.body indices ≡ Some node
    → LeadsTo reads_node root (node_path indices) node
node_leads root contents is [] node found = absurd (none-some node found)
node_leads root contents is (index ∷ indices) node found =
    let program = program_leads root contents is in
    below_leads indices (Item index ∷ Member (codes "body") ∷ program_path) root
    (member_item (codes "body") index program.0) (slice_get contents.program.body index) node
    (body_from program.0 contents.program program.2 index)
    (item_at_path root program_path (codes "body") index program.0 program.1) found
