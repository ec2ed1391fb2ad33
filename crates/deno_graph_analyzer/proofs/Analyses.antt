-- The result of an analyzer, by the result of its parser.
use Rattle.std.proofs.Common.{Result, Ok, Err, sym, subst}
use Rattle.deno_graph_source.specs.ParsedSource.{ParsedModule}
use Rattle.deno_graph_info.specs.declared.analysis.module_info.ModuleInfo.{ModuleInfo}
use Rattle.deno_graph_module_info.specs.InfoOfModule.{IsInfoOfSource}
use Rattle.deno_graph_analyzer.specs.Analysis.{IsAnalyzeResult, IsAnalysisOf}
use Rattle.deno_graph_analyzer.specs.Parsing.{ParseFunction, Input, IsParseResult}
use Rattle.deno_graph_analyzer.specs.declared.analyzer.AnalyzeError.{AnalyzeError}
use Rattle.deno_graph_analyzer.specs.declared.analyzer.AnalyzeError.TheVariants as analyze
use Rattle.deno_graph_source.specs.declared.tree.parse_error.ParseError.{ParseError}
use Rattle.deno_graph_source.specs.declared.tree.parse_error.ParseError.TheVariants as parse

-- if the parser returns its outcome, the analyzer returns the info or the diagnostic of the outcome
pub analysis_of_outcome : (f : ParseFunction) (asked : Input) (answer : Result ParsedModule ParseError)
    (result : Result ModuleInfo AnalyzeError) → IsAnalysisOf answer result → IsParseResult f asked answer
    → IsAnalyzeResult f asked result
analysis_of_outcome f asked (Ok source) (Ok info) h is =
    record {
      program = source.program;
      comments = source.comments;
      outcome = is.outcome;
      is_info = subst
          (λ (i : Input). IsInfoOfSource i.text i.media_type source.program source.comments info)
          is.from_input h;
    }
analysis_of_outcome f asked (Ok source) (Err (analyze.Parse d)) h is = cc
analysis_of_outcome f asked (Ok source) (Err analyze.OutOfMemory) h is = tt
analysis_of_outcome f asked (Err (parse.Diagnostic d)) result h is =
    subst (IsAnalyzeResult f asked) (sym h) is
analysis_of_outcome f asked (Err parse.OutOfMemory) result h is =
    subst (IsAnalyzeResult f asked) (sym h) tt
