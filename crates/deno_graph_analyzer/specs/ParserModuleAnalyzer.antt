-- The parser that a `ParserModuleAnalyzer` borrows.
use Rattle.std.specs.Borrow.{MutBor}
use Rattle.deno_graph_analyzer.specs.declared.analyzer.ParserModuleAnalyzer.{ParserModuleAnalyzer}

abbrev pub borrowed_parser : {P : Type 0} → ParserModuleAnalyzer P → MutBor P
borrowed_parser analyzer = analyzer.parser
