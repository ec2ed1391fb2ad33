-- What the conversion changes in a dependency.
use Rattle.std.specs.Prelude.{codes}
use Rattle.serde_json.specs.Data.{Data}
use Rattle.deno_graph_info.specs.Conversion.{with_types, without_value_at}
use Rattle.deno_graph_info.specs.declared.conversion.change.Change.{Change}
use Rattle.deno_graph_info.specs.declared.conversion.change.Change.TheVariants.{Comments, Nothing}

-- the dependency with the change
abbrev pub changed : Change → Data → Data
changed Nothing d = d
changed (Comments types) d = without_value_at (codes "leadingComments") (with_types types d)
