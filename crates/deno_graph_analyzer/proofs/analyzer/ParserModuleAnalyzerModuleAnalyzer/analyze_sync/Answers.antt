-- A sound parser returns its outcome.
use Rattle.deno_graph_analyzer.specs.ParserModuleAnalyzer.{borrowed_parser}
use Rattle.deno_graph_analyzer.proofs.Analyses.{analysis_of_outcome}
use Rattle.deno_graph_analyzer.proofs.analyzer.ParserModuleAnalyzerModuleAnalyzer.analyze_sync.Goals as goal

pub returns-clause-info : goal.returns-clause-info
returns-clause-info g c = λ sound.
    analysis_of_outcome (g.P.EsParser.parses (borrowed_parser c.args.self.now).now) _ c.parse_program.result
    c.info_of.result c.info_of.ensures (c.parse_program.ensures.outcome sound)
