-- Children that are read one after another.
use Rattle.std.specs.Prelude.{◌≡◌, ◌++◌, List, Option, Result}
use Rattle.serde_json.specs.Data.{Data, array}
use Rattle.deno_graph_json.specs.declared.error.ReadError.{ReadError}
use Rattle.modinfo_document.specs.Result.{IsReadResultBy}
use Rattle.modinfo_estree.specs.Member.{type_of}
use Rattle.modinfo_estree.specs.Node.{as_child, children_among, reads_node}
use Rattle.modinfo_estree.specs.Source.{EstreeSource}
use Rattle.modinfo_estree.specs.declared.child.Child.{Child}
use Rattle.modinfo_estree.specs.declared.role.Role.{Role}

-- A value, if it is a node.
abbrev pub item_child : EstreeSource → Role → Data → Option (List Child)
item_child source role value = as_child role (type_of value) (reads_node source role value)

-- The nodes in a member: its value, or the items of an array.
abbrev pub children_at : EstreeSource → Role → Data → Option (List Child)
children_at source role (array items) = children_among source role items
children_at source role value = item_child source role value

-- The children that are read from a value were appended to earlier ones; or the value can't be read, and the
-- error is in it; or an allocation failed.
abbrev pub AreAppended : Data → Option (List Child) → List Child → List Child → Result (Unit {0}) ReadError
    → Type 0
AreAppended value wanted old new = IsReadResultBy (λ children _. new ≡ old ++ children) value wanted
