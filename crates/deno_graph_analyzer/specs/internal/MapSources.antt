-- The sources in the map of the store in memory.
use Rattle.std.specs.Prelude.{String}
use Rattle.std.specs.BTreeMap.{BTreeMap}
use Rattle.std.specs.FinMap as map
use Rattle.deno_graph_base.specs.TextMap.{entries_of}
use Rattle.deno_graph_source.specs.ParsedSource.{ParsedModule}
use Rattle.deno_graph_analyzer.specs.Sources.{Sources}

-- the sources of a map, by the bytes of its keys
abbrev pub sources_of : {Z : Type 0} → BTreeMap (String Z) ParsedModule → Sources
sources_of stored = map.from_entries (entries_of stored)
