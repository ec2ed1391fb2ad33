-- The parts of a node of a syntax tree.
use Rattle.std.specs.Prelude.{◌≡◌, ℕ, ◌+◌, ◌≤◌, ◌<◌, ⊤, Bool, true, false, IsTrue, length, List, [], ◌∷◌}
use Rattle.std.specs.Prelude.{◌++◌, map, Option, Some, None, IsSomeAnd, slice_get}
use Rattle.std.specs.List.{flat_map}
use Rattle.std.specs.Option.{option_to_list}
use Rattle.deno_graph_base.specs.declared.text.position.SourceRange.{SourceRange}
use Rattle.deno_graph_source.specs.declared.tree.node.Arg.{Arg}
use Rattle.deno_graph_source.specs.declared.tree.node.Callee.{Callee}
use Rattle.deno_graph_source.specs.declared.tree.node.Callee.TheVariants.{Expr}
use Rattle.deno_graph_source.specs.declared.tree.node.StrLit.{StrLit}
use Rattle.deno_graph_source.specs.declared.tree.node.Kind.{Kind}
use Rattle.deno_graph_source.specs.declared.tree.node.Kind.TheVariants.{ImportDecl, NamedExport, ExportAll}
use Rattle.deno_graph_source.specs.declared.tree.node.Kind.TheVariants.{ImportEquals, ImportType, ModuleDecl}
use Rattle.deno_graph_source.specs.declared.tree.node.Kind.TheVariants.{Call, Template, Binary, Object}
use Rattle.deno_graph_source.specs.declared.tree.node.Kind.TheVariants.{KeyValue}
use Rattle.deno_graph_source.specs.declared.tree.node.Node.{Node, out-Node, roll-Node}
use Rattle.deno_graph_source.specs.declared.tree.node.Program.{Program}
use Rattle.deno_graph_source.specs.declared.tree.node.Node.TheOpen.{Node-F}
use Rattle.deno_graph_source.specs.declared.tree.node.Node.TheFolds.{fold-Node, map-Node}

-- the kind of a node
unfoldable pub kind_of : Node → Kind
kind_of node = (out-Node node).kind

-- the range of a node, in bytes of the text
unfoldable pub range_of : Node → SourceRange
range_of node = (out-Node node).range

-- the children of a node, in order
unfoldable pub children_of : Node → List Node
children_of node = (out-Node node).children

-- the string literal of a kind, if there is one
abbrev pub literal_of : Kind → Option StrLit
literal_of (ImportDecl type_only phase src has_specifiers has_with) = Some src
literal_of (NamedExport type_only src has_with) = src
literal_of (ExportAll type_only src has_with) = Some src
literal_of (ImportEquals type_only is_export external) = external
literal_of (ImportType arg has_with) = Some arg
literal_of (ModuleDecl name) = name
literal_of _ = None

-- the arguments of a call, and no arguments for every other kind
abbrev pub args_of : Kind → List Arg
args_of (Call callee args) = args
args_of _ = []

-- the ranges of the string literal and of the arguments of a kind
abbrev pub ranges_in_kind : Kind → List SourceRange
ranges_in_kind kind =
    map (λ literal. literal.range) (option_to_list (literal_of kind)) ++ map (λ arg. arg.range) (args_of kind)

-- one step of `nodes_in`: a node, with all nodes below it, from its children with those below them
abbrev pub nodes_step : Node-F (Node × List Node) → Node × List Node
nodes_step layer =
    let node = roll-Node (map-Node (Node × List Node) Node (λ child. child.0) layer) in
    (node, node ∷ flat_map (λ child. child.1) layer.children)

-- a node and all nodes below it, each node before those below it
unfoldable pub nodes_in : Node → List Node
nodes_in node = (fold-Node (Node × List Node) nodes_step node).1

-- all nodes of a program
unfoldable pub nodes_of : Program → List Node
nodes_of program = flat_map nodes_in program.body

-- the range of a node, and the ranges of its literal and its arguments
abbrev pub held_ranges : Node → List SourceRange
held_ranges node = range_of node ∷ ranges_in_kind (kind_of node)

-- the ranges of a node and of all nodes below it, with their literals and arguments
unfoldable pub node_ranges : Node → List SourceRange
node_ranges node = flat_map held_ranges (nodes_in node)

-- the ranges of a program and of all its nodes, with their literals and arguments
unfoldable pub program_ranges : Program → List SourceRange
program_ranges program = program.range ∷ flat_map held_ranges (nodes_of program)

-- the number of a call's children that are its callee
abbrev pub callee_count : Callee → ℕ
callee_count Expr = 1
callee_count _ = 0

-- whether the kind is that of an object literal
abbrev pub is_object : Kind → Bool
is_object Object = true
is_object _ = false

-- whether a node of this kind has a `with` clause
abbrev pub has_with : Kind → Bool
has_with (ImportDecl type_only phase src has_specifiers with_clause) = with_clause
has_with (NamedExport type_only src with_clause) = with_clause
has_with (ExportAll type_only src with_clause) = with_clause
has_with (ImportType arg with_clause) = with_clause
has_with _ = false

-- if there is a `with` clause, its object literal is the first child
abbrev pub HasClause : Bool → List Node → Type 0
HasClause true children =
    IsSomeAnd (slice_get children 0) (λ clause. IsTrue (is_object (kind_of clause)))
HasClause false children = ⊤

-- a node of this kind may have `count` children: a template has one quasi more than children, a
-- binary expression two operands, a property its value, and a call its callee, if that is an
-- expression, and its arguments
unfoldable pub HasCountOfKind : Kind → ℕ → Type 0
HasCountOfKind (Template quasis) count = length quasis ≡ count + 1
HasCountOfKind (Binary op) count = count ≡ 2
HasCountOfKind (KeyValue key) count = 0 < count
HasCountOfKind (Call callee args) count = callee_count callee + length args ≤ count
HasCountOfKind _ count = ⊤

-- a node has the children that its kind needs
pub record IsShaped (node : Node) : Type 0 where
  pub clause : HasClause (has_with (kind_of node)) (children_of node)
  pub count : HasCountOfKind (kind_of node) (length (children_of node))
