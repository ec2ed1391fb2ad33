-- The nodes below a node, as the tree of a parser has them.
use Rattle.std.specs.Prelude.{ℕ, List, [], ◌∷◌, map, codes, Bool, true, false, not, filter, unwrap_or}
use Rattle.std.specs.Prelude.{if◌then◌else◌}
use Rattle.deno_graph_base.specs.declared.text.position.SourceRange.{SourceRange}
use Rattle.deno_graph_source.specs.declared.tree.node.Kind.TheVariants.{Other as OtherKind}
use Rattle.deno_graph_source.specs.declared.tree.node.Node.{Node, roll-Node}
use Rattle.deno_graph_source.specs.Node.{range_of}
use Rattle.modinfo_document.specs.Named.{named}
use Rattle.modinfo_estree.specs.Order.{sorted_by_start}
use Rattle.modinfo_estree.specs.Range.{is_range}
use Rattle.modinfo_estree.specs.declared.child.Child.{Child}
use Rattle.modinfo_estree.specs.declared.role.Group.{Group}
use Rattle.modinfo_estree.specs.declared.role.Group.TheVariants as group
use Rattle.modinfo_estree.specs.declared.role.Role.{Role}
use Rattle.modinfo_estree.specs.declared.role.Role.TheVariants.{Arguments, Attributes, Callee, Decorators}
use Rattle.modinfo_estree.specs.declared.role.Role.TheVariants.{Expressions, Id, Key, Left, Options}
use Rattle.modinfo_estree.specs.declared.role.Role.TheVariants.{Properties, Right, Source, Value, Other}

-- The roles of the members that have nodes, by the names of the members.
abbrev pub roles : List (List ℕ × Role)
roles =
    (codes "arguments", Arguments) ∷ (codes "attributes", Attributes) ∷ (codes "assertions", Attributes)
    ∷ (codes "callee", Callee) ∷ (codes "decorators", Decorators) ∷ (codes "expressions", Expressions)
    ∷ (codes "id", Id) ∷ (codes "key", Key) ∷ (codes "left", Left) ∷ (codes "options", Options)
    ∷ (codes "properties", Properties) ∷ (codes "right", Right) ∷ (codes "source", Source)
    ∷ (codes "value", Value) ∷ []

-- The role of the nodes in a member. Those of an attribute of JSX are `Other`: the string that is its value
-- isn't written as in JavaScript, and no rule reads it.
unfoldable pub role_of : Bool → List ℕ → Role
role_of is_jsx name = if is_jsx then Other else unwrap_or (named roles name) Other

-- Whether a rule may read a string literal of this role: each but `Other`, since a rule asks for the nodes of
-- all the others.
abbrev pub is_read : Role → Bool
is_read Other = false
is_read _ = true

-- Whether nodes of a role belong to a group.
abbrev pub is_in : Group → Role → Bool
is_in group.Arguments Arguments = true
is_in group.Arguments Attributes = true
is_in group.Arguments Options = true
is_in group.Arguments Source = true
is_in group.Arguments _ = false
is_in group.Attributes Attributes = true
is_in group.Attributes _ = false
is_in group.Callee Callee = true
is_in group.Callee _ = false
is_in group.Decorators Decorators = true
is_in group.Decorators _ = false
is_in group.DecoratorsAndKey Decorators = true
is_in group.DecoratorsAndKey Key = true
is_in group.DecoratorsAndKey _ = false
is_in group.Expressions Expressions = true
is_in group.Expressions _ = false
is_in group.Id Id = true
is_in group.Id _ = false
is_in group.Operands Left = true
is_in group.Operands Right = true
is_in group.Operands _ = false
is_in group.Options Options = true
is_in group.Options _ = false
is_in group.Properties Properties = true
is_in group.Properties _ = false
is_in group.Property Key = true
is_in group.Property Value = true
is_in group.Property _ = false

-- Whether a child is in a group.
abbrev pub has_group : Group → Child → Bool
has_group group child = is_in group child.role

-- Whether a child isn't in a group.
abbrev pub lacks_group : Group → Child → Bool
lacks_group group child = not (has_group group child)

-- The node of a child.
abbrev pub node_of : Child → Node
node_of child = child.node

-- The nodes of the children in a group.
abbrev pub nodes_in : Group → List Child → List Node
nodes_in group children = map node_of (filter (has_group group) children)

-- The nodes of the children that aren't in a group.
abbrev pub nodes_outside : Group → List Child → List Node
nodes_outside group children = map node_of (filter (lacks_group group) children)

-- The start of a child, in bytes.
abbrev pub start_of : Child → ℕ
start_of child = (range_of child.node).start

-- Children in the order of their starts.
abbrev pub sorted_children : List Child → List Child
sorted_children children = sorted_by_start start_of children

-- A node, inside of an `Other` of the range `extent` if that isn't the range of the node: then the node is
-- in parentheses.
unfoldable pub around : SourceRange → Node → Node
around extent node = if is_range extent (range_of node) then node
    else roll-Node (record { range = extent; kind = OtherKind; children = node ∷ [] })

-- The range of a node with this role, with the parentheses around it: the left operand begins where the node
-- above does, and the right one and a property's value end where it does.
abbrev pub extent_of_role : Role → SourceRange → SourceRange → SourceRange
extent_of_role Left above own = record { start = above.start; end = own.end }
extent_of_role Right above own = record { start = own.start; end = above.end }
extent_of_role Value above own = record { start = own.start; end = above.end }
extent_of_role _ above own = own

-- The range of a child with the parentheses around it, in the range of the node above.
abbrev pub extent_in : SourceRange → Child → SourceRange
extent_in above child = extent_of_role child.role above (range_of child.node)

-- The node of a child, with the parentheses around it.
abbrev pub in_extent : SourceRange → Child → Node
in_extent above child = around (extent_in above child) child.node
