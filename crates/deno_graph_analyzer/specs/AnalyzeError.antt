-- Errors of analyzers.
use Rattle.deno_graph_source.specs.declared.tree.parse_error.ParseError.{ParseError}
use Rattle.deno_graph_source.specs.declared.tree.parse_error.ParseError.TheVariants as parse
use Rattle.deno_graph_analyzer.specs.declared.analyzer.AnalyzeError.{AnalyzeError}
use Rattle.deno_graph_analyzer.specs.declared.analyzer.AnalyzeError.TheVariants.{Parse, OutOfMemory}

-- the analyzer's error for a parser's error
abbrev pub analyze_error_of : ParseError → AnalyzeError
analyze_error_of (parse.Diagnostic diagnostic) = Parse diagnostic
analyze_error_of parse.OutOfMemory = OutOfMemory
