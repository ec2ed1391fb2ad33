-- The result of analyzing a text, by the outcome of parsing the text.
use Rattle.std.specs.Prelude.{◌≡◌, Some, Result, Ok, Err}
use Rattle.deno_graph_source.specs.Comments.{FiledComments}
use Rattle.deno_graph_source.specs.ParsedSource.{ParsedModule}
use Rattle.deno_graph_source.specs.declared.tree.node.Program.{Program}
use Rattle.deno_graph_info.specs.declared.analysis.module_info.ModuleInfo.{ModuleInfo}
use Rattle.deno_graph_module_info.specs.InfoOfModule.{IsInfoOfModule, IsInfoOfSource}
use Rattle.deno_graph_analyzer.specs.Parsing.{ParseFunction, Input, parsed, rejected}
use Rattle.deno_graph_source.specs.declared.tree.parse_error.ParseError.{ParseError}
use Rattle.deno_graph_analyzer.specs.AnalyzeError.{analyze_error_of}
use Rattle.deno_graph_analyzer.specs.declared.analyzer.AnalyzeError.{AnalyzeError}
use Rattle.deno_graph_analyzer.specs.declared.analyzer.AnalyzeError.TheVariants.{Parse, OutOfMemory}

-- the info is that of the input's text and media type, with the tree and comments of the input's
-- outcome
pub record IsInfoOf (parses : ParseFunction) (input : Input) (info : ModuleInfo) : Type 0 where
  pub program : Program
  pub comments : FiledComments
  pub outcome : parses input ≡ Some (parsed program comments)
  pub is_info : IsInfoOfSource input.text input.media_type program comments info

-- the result is the info or the diagnostic of the outcome, or out of memory
abbrev pub IsAnalyzeResult : ParseFunction → Input → Result ModuleInfo AnalyzeError → Type 0
IsAnalyzeResult parses input (Ok info) = IsInfoOf parses input info
IsAnalyzeResult parses input (Err (Parse diagnostic)) = parses input ≡ Some (rejected diagnostic)
IsAnalyzeResult parses input (Err OutOfMemory) = Unit {0}

-- the analyzer's result is the info of the parsed source, or the parser's error
abbrev pub IsAnalysisOf : Result ParsedModule ParseError → Result ModuleInfo AnalyzeError → Type 0
IsAnalysisOf (Ok source) (Ok info) = IsInfoOfModule source info
IsAnalysisOf (Ok source) (Err error) = error ≡ OutOfMemory
IsAnalysisOf (Err error) result = result ≡ Err (analyze_error_of error)

-- the analyzer's result follows from some result that the parser may return
pub record IsAnalysisOfSome (may_return : Result ParsedModule ParseError → Type 0)
    (result : Result ModuleInfo AnalyzeError) : Type 0 where
  pub parse_result : Result ParsedModule ParseError
  pub given : may_return parse_result
  pub analysis : IsAnalysisOf parse_result result
