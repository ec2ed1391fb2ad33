-- How the code reads the attributes of an object literal, one property after another.
use Rattle.std.specs.Prelude.{◌≡◌, ℕ, ◌&&◌, if◌then◌else◌, List, Option, Some, None, option_and_then}
use Rattle.std.specs.Str.{bytes_eq}
use Rattle.deno_graph_source.specs.declared.tree.node.Node.{Node}
use Rattle.deno_graph_source.specs.Node.{kind_of, is_object}
use Rattle.deno_graph_base.specs.TextMap.{value_at, IsAscending}
use Rattle.deno_graph_info.specs.declared.analysis.import_attributes.ImportAttribute.{ImportAttribute}
use Rattle.deno_graph_dep.specs.Attributes.{value_node, has_static_keys, Entries}

-- the object literal that is the value of a property, if all its properties have static keys
abbrev pub known_object : Node → Option Node
known_object property =
    option_and_then (λ value.
    if is_object (kind_of value) && has_static_keys value then Some value else None)
    (value_node property)

-- `new` has this value at the key `name`, and the values of `old` at all others
pub record Puts (old new : Entries) (name : List ℕ) (value : ImportAttribute) : Type 0 where
  pub ascending : IsAscending new
  pub values : (other : List ℕ)
      → value_at new other ≡ (if bytes_eq name other then Some value else value_at old other)
