-- The nodes of a value that is read from a tape.
use Rattle.std.specs.Prelude.{◌≡◌, ◌<◌, List, ◌++◌, length, map}
use Rattle.serde_json.specs.Data.{Data, array, object, Items, Members}
use Rattle.deno_graph_json.specs.Data.{value_data}
use Rattle.deno_graph_json.specs.Flat.{PlainNode, plain}
use Rattle.deno_graph_json.specs.Value.{Value, flat_value}
use Rattle.deno_graph_json.specs.declared.flat.FlatNode.{FlatNode}

-- a list with a node begins with the flat list of a value
abbrev pub BeginsValue : List PlainNode → Type 0
BeginsValue nodes = 0 < length nodes → (v : Value) × (rest : List PlainNode) × (nodes ≡ flat_value v ++ rest)

-- the flat list of a value with these data was appended
abbrev pub ArePushed : Data → List FlatNode → List FlatNode → Type 0
ArePushed d old new =
    (v : Value) × (value_data v ≡ d) × (map plain new ≡ map plain old ++ flat_value v)

-- the flat list of an array of these items was appended
abbrev pub AreItemsPushed : Items → List FlatNode → List FlatNode → Type 0
AreItemsPushed items = ArePushed (array items)

-- the flat list of an object with these members was appended
abbrev pub AreMembersPushed : Members → List FlatNode → List FlatNode → Type 0
AreMembersPushed members = ArePushed (object members)
