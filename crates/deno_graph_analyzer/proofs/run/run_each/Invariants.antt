-- The commands so far were carried out, and the capacity suffices for the remaining answers.
use Rattle.std.proofs.Common.{◌≡◌, ◌≤◌, length, take, vec_len, vec_capacity}
use Rattle.deno_graph_analyzer.specs.CapturingModuleAnalyzer.{analyzer_state}
use Rattle.deno_graph_analyzer.specs.Runs.{Runs}
use Rattle.deno_graph_analyzer.proofs.run.run_each.Given as goal

abbrev pub invariant-loop-command : goal.invariant-loop-command
invariant-loop-command g l = record {
  ran : Runs g.P.EsParser.parses g.P.EsParser.count g.P.EsParser.is_sound g.P.EsParser.may_return
      (analyzer_state g.S.ParsedSourceStore.sources l.fn.analyzer) (take l.command-index l.commands)
      l.answers.items (analyzer_state g.S.ParsedSourceStore.sources l.analyzer);
  count : vec_len l.answers ≡ l.command-index;
  room : length l.commands ≤ vec_capacity l.answers;
}
