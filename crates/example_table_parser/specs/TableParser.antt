-- The table and the count of a `TableParser`.
use Rattle.std.specs.Prelude.{ℕ, List}
use Rattle.deno_graph_source.specs.ParsedSource.{ParsedModule}
use Rattle.example_table_parser.specs.declared.TableParser.{TableParser}

-- the sources of the table
abbrev pub sources_in : TableParser → List ParsedModule
sources_in parser = parser.sources.items

-- the number of calls, at most the largest `u64`
abbrev pub call_count : TableParser → ℕ
call_count parser = parser.count
