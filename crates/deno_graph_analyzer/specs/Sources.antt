-- Stores of parsed sources: finite maps from the texts of specifiers to sources.
use Rattle.std.specs.Prelude.{ℕ, List, Option, Some, None}
use Rattle.std.specs.Cmp.Lexicographic.{slice_cmp}
use Rattle.std.specs.FinMap as map
use Rattle.std.specs.Ordering.{nat_cmp}
use Rattle.deno_graph_source.specs.ParsedSource.{ParsedModule, marked}

-- the sources in a store, by the bytes of their specifiers' texts
abbrev pub Sources : Type 0
Sources = map.FinMap (slice_cmp nat_cmp) ParsedModule

-- the sources of an empty store
abbrev pub no_sources : Sources
no_sources = map.empty

-- the source under a specifier
abbrev pub source_at : Sources → List ℕ → Option ParsedModule
source_at sources key = map.get sources key

-- the sources after `source` is stored under a specifier
abbrev pub with_source : Sources → List ℕ → ParsedModule → Sources
with_source sources key source = map.insert sources key source

-- the sources after the source under a specifier is removed
abbrev pub without_source : Sources → List ℕ → Sources
without_source sources key = map.remove sources key

-- the sources after a source that was found under a specifier is marked
abbrev pub with_mark_of : Sources → List ℕ → Option ParsedModule → Sources
with_mark_of sources key None = sources
with_mark_of sources key (Some source) = with_source sources key (marked source)

-- the sources after the source under a specifier, if there is one, is marked
abbrev pub with_mark : Sources → List ℕ → Sources
with_mark sources key = with_mark_of sources key (source_at sources key)
