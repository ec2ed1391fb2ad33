-- From a sound state, the parser returns its outcome.
use Rattle.deno_graph_analyzer.specs.CapturingModuleAnalyzer.{parser_of}
use Rattle.deno_graph_analyzer.proofs.Analyses.{analysis_of_outcome}
use Rattle.deno_graph_analyzer.proofs.capturing.CapturingModuleAnalyzerModuleAnalyzer.analyze_sync.Goals as goal

pub returns-clause-info : goal.returns-clause-info
returns-clause-info g c = λ sound.
    analysis_of_outcome (g.P.EsParser.parses (parser_of c.args.self.now)) _ c.parse_program.result
    c.info_of.result c.info_of.ensures (c.parse_program.ensures.sound_result sound)
