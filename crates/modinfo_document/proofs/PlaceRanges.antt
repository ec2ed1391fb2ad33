-- The paths to ranges, of a program, a comment, or a part of a node, lead to values.
use Rattle.std.proofs.Common.{◌≡◌, ℕ, List, ◌∷◌, codes, Option, Some, None, IsSome, IsSomeAnd, slice_get}
use Rattle.std.proofs.Common.{refl, sym, ap, subst, ◌∙◌}
use Rattle.std.proofs.lemmas.Option.{same_Some}
use Rattle.serde_json.specs.Data.{Data, null, boolean, number, string, array, object, Members}
use Rattle.serde_json.specs.Find.{as_array, as_object, at, get, get_item}
use Rattle.deno_graph_base.specs.declared.text.position.SourceRange.{SourceRange}
use Rattle.deno_graph_json.specs.Read.Error.{data_at}
use Rattle.deno_graph_json.specs.Read.Partial.{◌>>=◌, member_at}
use Rattle.deno_graph_json.specs.declared.error.Step.{Step}
use Rattle.deno_graph_json.specs.declared.error.Step.TheVariants.{Item, Member}
use Rattle.deno_graph_source.specs.Comments.{FiledComments}
use Rattle.deno_graph_source.specs.FaultPlace.{PartHas, comment_at}
use Rattle.deno_graph_source.specs.Node.{args_of, kind_of, literal_of}
use Rattle.deno_graph_source.specs.declared.tree.comments.CommentPlace.{CommentPlace}
use Rattle.deno_graph_source.specs.declared.tree.fault.SourceFault.{SourceFault}
use Rattle.deno_graph_source.specs.declared.tree.fault_place.NodePart.{NodePart}
use Rattle.deno_graph_source.specs.declared.tree.fault_place.NodePart.TheVariants.{Range, Literal, Argument}
use Rattle.deno_graph_source.specs.declared.tree.fault_place.NodePart.TheVariants.{Children}
use Rattle.deno_graph_source.specs.declared.tree.node.Arg.{Arg}
use Rattle.deno_graph_source.specs.declared.tree.node.Kind.{Kind}
use Rattle.deno_graph_source.specs.declared.tree.node.Node.{Node, roll-Node}
use Rattle.deno_graph_source.specs.declared.tree.node.Node.TheOpen.{Node-F}
use Rattle.deno_graph_source.specs.declared.tree.node.Node.TheViews.{out-roll-Node}
use Rattle.deno_graph_source.specs.declared.tree.node.Program.{Program}
use Rattle.deno_graph_source.specs.declared.tree.node.StrLit.{StrLit}
use Rattle.deno_graph_source.specs.declared.tree.comments.DependencyComment.{DependencyComment}
use Rattle.modinfo_document.specs.Kind.{comment_kinds}
use Rattle.modinfo_document.specs.Comments.{reads_comment}
use Rattle.modinfo_document.specs.Document.{Contents, reads_document}
use Rattle.modinfo_document.specs.KindParts.{reads_arg}
use Rattle.modinfo_document.specs.Kind.{reads_kind}
use Rattle.modinfo_document.specs.Named.{reads_named}
use Rattle.modinfo_document.specs.Literal.{reads_literal, reads_source_range}
use Rattle.modinfo_document.specs.Node.{children_in, node_with, reads_node, reads_program}
use Rattle.modinfo_document.specs.Kind.{literal_member}
use Rattle.modinfo_document.specs.Place.{part_path, program_path, range_in}
use Rattle.modinfo_document.proofs.NodeLookup.{got, member_read, step}
use Rattle.modinfo_document.proofs.Nodes.{node_read}
use Rattle.modinfo_document.proofs.KindReadings.{has_parts}
use Rattle.modinfo_document.proofs.Places.{program_leads}

-- The path of a member of the value at a path.
pub member_leads : (root : Data) (path : List Step) (value : Data) (name : List ℕ) (d : Data)
    → data_at path root ≡ Some value → get name value ≡ Some d
    → data_at (Member name ∷ path) root ≡ Some d
member_leads root path value name d at there = ap (λ o. o >>= get name) at ∙ there

-- The range of a program.
pub program_range : (value : Data) (program : Program) → reads_program value ≡ Some program
    → (d : Data) × (get (codes "range") value ≡ Some d)
unfolding reads_program
program_range value program is =
    let object_ = step (as_object value) _ program is in
    let range = step (member_at reads_source_range (codes "range") object_.0) _ program object_.2 in
    let read = member_read reads_source_range (codes "range") object_.0 range.0 range.1 in
    (read.0, got (codes "range") value object_.0 read.0 object_.1 read.1)

-- The range of a comment.
pub comment_range : (value : Data) (comment : DependencyComment) → reads_comment value ≡ Some comment
    → (d : Data) × (get (codes "range") value ≡ Some d)
unfolding reads_comment
comment_range value comment is =
    let object_ = step (as_object value) _ comment is in
    let kind = step (member_at (reads_named comment_kinds) (codes "kind") object_.0) _ comment object_.2 in
    let range = step (member_at reads_source_range (codes "range") object_.0) _ comment kind.2 in
    let read = member_read reads_source_range (codes "range") object_.0 range.0 range.1 in
    (read.0, got (codes "range") value object_.0 read.0 object_.1 read.1)

-- The range of a literal.
pub literal_range : (value : Data) (literal : StrLit) → reads_literal value ≡ Some literal
    → (d : Data) × (get (codes "range") value ≡ Some d)
unfolding reads_literal
literal_range value literal is =
    let object_ = step (as_object value) _ literal is in
    let range = step (member_at reads_source_range (codes "range") object_.0) _ literal object_.2 in
    let read = member_read reads_source_range (codes "range") object_.0 range.0 range.1 in
    (read.0, got (codes "range") value object_.0 read.0 object_.1 read.1)

-- The range of an argument.
pub arg_range : (value : Data) (arg : Arg) → reads_arg value ≡ Some arg
    → (d : Data) × (get (codes "range") value ≡ Some d)
unfolding reads_arg
arg_range value arg is =
    let object_ = step (as_object value) _ arg is in
    let range = step (member_at reads_source_range (codes "range") object_.0) _ arg object_.2 in
    let read = member_read reads_source_range (codes "range") object_.0 range.0 range.1 in
    (read.0, got (codes "range") value object_.0 read.0 object_.1 read.1)

item_got : (value : Data) (k : ℕ) (d : Data) → (as_array value >>= get_item k) ≡ Some d → at k value ≡ Some d
item_got null k d is = is
item_got (boolean b) k d is = is
item_got (number n) k d is = is
item_got (string s) k d is = is
item_got (array items) k d is = is
item_got (object held) k d is = is

pub is_some : {A : Type 0} (o : Option A) (P : A → Type 0) → IsSomeAnd o P → IsSome o
is_some None P holds = absurd holds
is_some (Some x) P holds = refl

there_is : (path : List Step) (root d : Data) → data_at path root ≡ Some d → IsSome (data_at path root)
there_is path root d leads = subst IsSome (sym leads) refl

-- The range of the value at a path.
range_there : (root : Data) (path : List Step) (value : Data) → data_at path root ≡ Some value
    → ((d : Data) × (get (codes "range") value ≡ Some d)) → IsSome (data_at (range_in path) root)
range_there root path value leads range =
    there_is (range_in path) root range.0 (member_leads root path value (codes "range") range.0 leads range.1)

pub program_points : (root : Data) (contents : Contents) → reads_document root ≡ Some contents
    → IsSome (data_at (range_in program_path) root)
program_points root contents is =
    let program = program_leads root contents is in
    range_there root program_path program.0 program.1 (program_range program.0 contents.program program.2)

-- A comment, and its range.
pub comment_points : (root : Data) (comments : FiledComments) (place : CommentPlace) (path : List Step)
    → IsSome (comment_at comments place) → (data_at path root >>= reads_comment) ≡ comment_at comments place
    → IsSome (data_at (range_in path) root)
comment_points root comments place path some leads = by (comment_at comments place) some leads
  where
    by : (o : Option DependencyComment) → IsSome o → (data_at path root >>= reads_comment) ≡ o
        → IsSome (data_at (range_in path) root)
    by None some leads = absurd (cc)
    by (Some comment) some leads =
        let found = step (data_at path root) reads_comment comment leads in
        range_there root path found.0 found.1 (comment_range found.0 comment found.2)

-- The members of a node, with its range and its kind.
record IsNode (value : Data) (node : Node) : Type 0 where
  members : Members
  is_object : as_object value ≡ Some members
  range : SourceRange
  has_range : member_at reads_source_range (codes "range") members ≡ Some range
  has_kind : reads_kind members ≡ Some (kind_of node)

rolled : (range : SourceRange) (kind : Kind) (children : List Node) (node : Node)
    → Some (roll-Node (record { range = range; kind = kind; children = children })) ≡ Some node
    → kind ≡ kind_of node
unfolding kind_of
rolled range kind children node is =
    let made : Node-F Node = record { range = range; kind = kind; children = children } in
    sym (ap (λ layer. layer.kind) (out-roll-Node made)) ∙ ap kind_of (same_Some (roll-Node made) node is)

is_node : (value : Data) (node : Node) → reads_node value ≡ Some node → IsNode value node
unfolding node_with
is_node value node is =
    let object_ = step (as_object value) (λ ms. node_with ms (children_in ms)) node
    (sym (node_read value) ∙ is) in
    let range = step (member_at reads_source_range (codes "range") object_.0) _ node object_.2 in
    let kind = step (reads_kind object_.0) _ node range.2 in
    let children = step (children_in object_.0) _ node kind.2 in
    record {
      members = object_.0;
      is_object = object_.1;
      range = range.0;
      has_range = range.1;
      has_kind = kind.1 ∙ ap Some (rolled range.0 kind.0 children.0 node children.2);
    }

-- A part of the node at a path that has a fault.
pub part_points : (root : Data) (path : List Step) (value : Data) (node : Node) (text : List ℕ)
    (fault : SourceFault) (part : NodePart)
    → data_at path root ≡ Some value → reads_node value ≡ Some node → PartHas text fault node part
    → IsSome (data_at (part_path (kind_of node) part path) root)
part_points root path value node text fault Range leads is has =
    let held = is_node value node is in
    let read = member_read reads_source_range (codes "range") held.members held.range held.has_range in
    range_there root path value leads
    (read.0, got (codes "range") value held.members read.0 held.is_object read.1)
part_points root path value node text fault Literal leads is has =
    let held = is_node value node is in
    by _ _ (literal_of (kind_of node)) has (λ literal there.
    let found = (has_parts held.members (kind_of node) held.has_kind).literal literal there in
    let name = literal_member (kind_of node) in
    range_there root (Member name ∷ path) found.0
    (member_leads root path value name found.0 leads
    (got name value held.members found.0 held.is_object found.1))
    (literal_range found.0 literal found.2))
  where
    by : (P : StrLit → Type 0) (G : Type 0) (o : Option StrLit) → IsSomeAnd o P
        → ((literal : StrLit) → o ≡ Some literal → G) → G
    by P G None has goes = absurd has
    by P G (Some literal) has goes = goes literal refl
part_points root path value node text fault (Argument k) leads is has =
    let held = is_node value node is in
    by _ _ (slice_get (args_of (kind_of node)) k) has (λ arg there.
    let found = (has_parts held.members (kind_of node) held.has_kind).args k arg there in
    let item_ = step (as_array found.0 >>= get_item k) reads_arg arg found.2 in
    let array_ = member_leads root path value (codes "args") found.0 leads
    (got (codes "args") value held.members found.0 held.is_object found.1) in
    range_there root (Item k ∷ Member (codes "args") ∷ path) item_.0
    (ap (λ o. o >>= at k) array_ ∙ item_got found.0 k item_.0 item_.1)
    (arg_range item_.0 arg item_.2))
  where
    by : (P : Arg → Type 0) (G : Type 0) (o : Option Arg) → IsSomeAnd o P
        → ((arg : Arg) → o ≡ Some arg → G) → G
    by P G None has goes = absurd has
    by P G (Some arg) has goes = goes arg refl
part_points root path value node text fault (Children rule) leads is has = there_is path root value leads
