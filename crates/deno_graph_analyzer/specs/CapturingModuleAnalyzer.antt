-- The parser and the store of a `CapturingModuleAnalyzer`.
use Rattle.deno_graph_analyzer.specs.Captures.{State, state}
use Rattle.deno_graph_analyzer.specs.Sources.{Sources}
use Rattle.deno_graph_analyzer.specs.declared.capturing.CapturingModuleAnalyzer.{CapturingModuleAnalyzer}

module _ {P S : Type 0} where
  abbrev pub parser_of : CapturingModuleAnalyzer P S → P
  parser_of analyzer = analyzer.parser

  abbrev pub store_of : CapturingModuleAnalyzer P S → S
  store_of analyzer = analyzer.store

  -- the parser, and the sources in the store
  abbrev pub analyzer_state : (S → Sources) → CapturingModuleAnalyzer P S → State P
  analyzer_state sources analyzer = state (parser_of analyzer) (sources (store_of analyzer))
