-- The parser and the store that a `CapturingEsParser` borrows.
use Rattle.std.specs.Borrow.{MutBor}
use Rattle.deno_graph_analyzer.specs.Captures.{State, state}
use Rattle.deno_graph_analyzer.specs.Sources.{Sources}
use Rattle.deno_graph_analyzer.specs.declared.capturing.CapturingEsParser.{CapturingEsParser}

module _ {P S : Type 0} where
  abbrev pub borrowed_parser : CapturingEsParser P S → MutBor P
  borrowed_parser capturing = capturing.parser

  abbrev pub borrowed_store : CapturingEsParser P S → MutBor S
  borrowed_store capturing = capturing.store

  -- the borrowed parser, and the sources in the borrowed store
  abbrev pub borrowed_state : (S → Sources) → CapturingEsParser P S → State P
  borrowed_state sources capturing =
      state (borrowed_parser capturing).now (sources (borrowed_store capturing).now)
