-- The ranges of a valid source are ranges of its text: those of each node, of its literal, and of each
-- comment.
use Rattle.std.proofs.Common.{◌≡◌, ℕ, List, [], ◌∷◌, Some, refl, arith}
use Rattle.std.specs.List.{Contains, All, flat_map}
use Rattle.std.proofs.lemmas.List.Elements.{All-contains, Contains-append_left, Contains-append_right}
use Rattle.std.specs.Map.{values_of}
use Rattle.std.proofs.lemmas.Map.Entries.{place_from_lookup}
use Rattle.std.proofs.lemmas.Map.Made.{Contains-values_of}
use Rattle.std.proofs.lemmas.Option.{slice_get_within, get_or_from_slice_get}
use Rattle.deno_graph_source.specs.ByOffset.{value_at, all_items}
use Rattle.deno_graph_source.specs.Comments.{FiledComments, comments_of}
use Rattle.deno_graph_source.specs.Node.{kind_of, range_of, children_of, literal_of, ranges_in_kind}
use Rattle.deno_graph_source.specs.Node.{held_ranges, nodes_in, nodes_of, node_ranges, program_ranges}
use Rattle.deno_graph_source.specs.Source.{IsValid, ranges_of}
use Rattle.deno_graph_base.specs.SourceRange.{IsTextRange}
use Rattle.deno_graph_base.specs.declared.text.position.SourceRange.{SourceRange}
use Rattle.deno_graph_source.specs.declared.tree.comments.DependencyComment.{DependencyComment}
use Rattle.deno_graph_source.specs.declared.tree.node.Node.{Node}
use Rattle.deno_graph_source.specs.declared.tree.node.Program.{Program}
use Rattle.deno_graph_source.specs.declared.tree.node.StrLit.{StrLit}
use Rattle.deno_graph_source.proofs.Lists.{All-within, Contains-flat_map, Contains-map, flat_map-flat_map}
use Rattle.deno_graph_source.proofs.NodeRanges.{Contains-own_range, Contains-kind_range, Contains-child_range}
use Rattle.deno_graph_source.proofs.Nodes.{Contains-child_node, Contains-own_node}

-- a property of the ranges of a program, for those of each item
pub All-item_ranges : (P : SourceRange → Type 0) (program : Program) (node : Node)
    → Contains program.body node → All P (program_ranges program) → All P (node_ranges node)
unfolding program_ranges node_ranges nodes_of
All-item_ranges P program node at all =
    All-within P (program_ranges program) _ (λ range h. Contains-append_right (program.range ∷ []) _ range
    (rw (flat_map-flat_map held_ranges nodes_in program.body)
    (Contains-flat_map (λ n. flat_map held_ranges (nodes_in n)) program.body node range at h))) all

-- a property of the ranges of a node, for those of each child
pub All-child_ranges : (P : SourceRange → Type 0) (node child : Node) → Contains (children_of node) child
    → All P (node_ranges node) → All P (node_ranges child)
All-child_ranges P node child at all =
    All-within P (node_ranges node) _ (λ range. Contains-child_range node child range at) all

-- a property of the ranges of a node, for its own range
pub node_range-holds : (P : SourceRange → Type 0) (node : Node) → All P (node_ranges node) → P (range_of node)
node_range-holds P node all = All-contains P (node_ranges node) _ all (Contains-own_range node)

-- a property of the ranges of a node, for those of its kind
pub All-kind_ranges : (P : SourceRange → Type 0) (node : Node) → All P (node_ranges node)
    → All P (ranges_in_kind (kind_of node))
All-kind_ranges P node all = All-within P (node_ranges node) _ (Contains-kind_range node) all

-- a property of the ranges of a node, for that of its literal
pub literal_range-holds : (P : SourceRange → Type 0) (node : Node) (literal : StrLit)
    → literal_of (kind_of node) ≡ Some literal → All P (node_ranges node) → P literal.range
literal_range-holds P node literal is all =
    All-contains P _ _ (All-kind_ranges P node all) (rw is (0, omega arith, refl))

-- the ranges of the program of a valid source are ranges of its text
pub valid_program : (text : List ℕ) (program : Program) (comments : FiledComments)
    → IsValid text program comments → All (IsTextRange text) (program_ranges program)
unfolding ranges_of
valid_program text program comments valid =
    All-within (IsTextRange text) (ranges_of program comments) _
    (λ range. Contains-append_left (program_ranges program) _ range) valid.ranges

-- the ranges of each item, and of all nodes below it, are ranges of the text
pub valid_item : (text : List ℕ) (program : Program) (comments : FiledComments) (node : Node)
    → IsValid text program comments → Contains program.body node → All (IsTextRange text) (node_ranges node)
valid_item text program comments node valid at =
    All-item_ranges (IsTextRange text) program node at (valid_program text program comments valid)

-- the range of each comment is a range of the text
pub valid_comment : (text : List ℕ) (program : Program) (comments : FiledComments)
    (comment : DependencyComment) → IsValid text program comments → Contains (comments_of comments) comment
    → IsTextRange text comment.range
unfolding ranges_of
valid_comment text program comments comment valid at =
    All-contains (IsTextRange text) (ranges_of program comments) _ valid.ranges
    (Contains-append_right (program_ranges program) _ comment.range
    (Contains-map (λ c. c.range) (comments_of comments) comment at))

-- an item of the list at an offset is among the items at all offsets
pub Contains-at_position : {T : Type 0} (entries : List (ℕ × List T)) (pos : ℕ) (items : List T) (item : T)
    → value_at entries pos ≡ Some items → Contains items item → Contains (all_items entries) item
Contains-at_position entries pos items item found at =
    let place = place_from_lookup _ entries items found in
    let entry : Contains entries (place.1, items) = (
      place.0,
      slice_get_within entries place.0 _ place.2,
      get_or_from_slice_get entries place.0 _ _ place.2,
    ) in
    Contains-flat_map (λ list. list) (values_of entries) items item
    (Contains-values_of entries place.1 items entry) at

-- a comment that is filed as leading is one of all comments
pub Contains-leading : (comments : FiledComments) (pos : ℕ) (filed : List DependencyComment)
    (comment : DependencyComment) → value_at comments.leading pos ≡ Some filed → Contains filed comment
    → Contains (comments_of comments) comment
unfolding comments_of
Contains-leading comments pos filed comment found at =
    Contains-append_left (all_items comments.leading) (all_items comments.trailing) comment
    (Contains-at_position comments.leading pos filed comment found at)

-- a comment that is filed as trailing is one of all comments
pub Contains-trailing : (comments : FiledComments) (pos : ℕ) (filed : List DependencyComment)
    (comment : DependencyComment) → value_at comments.trailing pos ≡ Some filed → Contains filed comment
    → Contains (comments_of comments) comment
unfolding comments_of
Contains-trailing comments pos filed comment found at =
    Contains-append_right (all_items comments.leading) (all_items comments.trailing) comment
    (Contains-at_position comments.trailing pos filed comment found at)

-- a property of all nodes of a program, for those of each item
pub All-item_nodes : (P : Node → Type 0) (program : Program) (node : Node) → Contains program.body node
    → All P (nodes_of program) → All P (nodes_in node)
unfolding nodes_of
All-item_nodes P program node at all =
    All-within P (nodes_of program) _ (λ n. Contains-flat_map nodes_in program.body node n at) all

-- a property of all nodes of a node, for those of each child
pub All-child_nodes : (P : Node → Type 0) (node child : Node) → Contains (children_of node) child
    → All P (nodes_in node) → All P (nodes_in child)
All-child_nodes P node child at all =
    All-within P (nodes_in node) _ (λ n. Contains-child_node node child n at) all

-- a property of all nodes of a node, for the node itself
pub node-holds : (P : Node → Type 0) (node : Node) → All P (nodes_in node) → P node
node-holds P node all = All-contains P (nodes_in node) node all (Contains-own_node node)
