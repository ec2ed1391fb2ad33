-- The run goes on with one more command, or ends at the failed command.
use Rattle.std.proofs.Common.{◌≡◌, ◌<◌, ◌+◌, ◌∷◌, ◌++◌, ◌∙◌, [], length, take, drop, inr, ap, sym, arith}
use Rattle.std.proofs.lemmas.List.{take_more, drop_more, take-append-drop}
use Rattle.deno_graph_analyzer.specs.CapturingModuleAnalyzer.{analyzer_state}
use Rattle.deno_graph_analyzer.specs.declared.run.Command.{Command}
use Rattle.deno_graph_analyzer.proofs.WholeRuns.{runs_more, at_err}
use Rattle.deno_graph_analyzer.proofs.run.run_each.Goals as goal

pub loop-command-preserved : goal.loop-command-preserved
loop-command-preserved g c =
    let commands = c.args.commands.now in
    let i = c.loop-command.command-index in
    let item = c.command-item.result in
    let below : i < length commands = omega arith in
    let more : take (i + 1) commands ≡ take i commands ++ item ∷ [] = take_more commands i item below
    ∙ ap (λ (x : Command). take i commands ++ x ∷ []) (sym c.command-item.is) in
    record {
      ran = rw (more, c.in_ok-push.ensures.items)
          (runs_more g.P.EsParser.parses g.P.EsParser.count g.P.EsParser.is_sound
          g.P.EsParser.may_return (take i commands) c.loop-command.answers.items _ _ _ item
          c.in_ok-answer.answer
          c.loop-command.invariant.ran c.in_ok-answer.ensures.ran);
      count = c.in_ok-push.ensures.len ∙ ap (λ n. n + 1) c.loop-command.invariant.count;
      room = omega (arith, c.in_ok-push.ensures.capacity);
    }

pub returns-in_err-answer-clause-out_of_memory : goal.returns-in_err-answer-clause-out_of_memory
returns-in_err-answer-clause-out_of_memory g c =
    let commands = c.args.commands.now in
    let i = c.loop-command.command-index in
    let item = c.command-item.result in
    let below : i < length commands = omega arith in
    let whole : take i commands ++ item ∷ drop (i + 1) commands ≡ commands =
    ap (λ (x : Command). take i commands ++ x ∷ drop (i + 1) commands) c.command-item.is
    ∙ ap (λ rest. take i commands ++ rest) (sym (drop_more commands i item below))
    ∙ take-append-drop i commands in
    at_err c.from_residual-in_err-answer.result (inr (record {
      before = take i commands;
      failed = item;
      after = drop (i + 1) commands;
      whole = whole;
      answers = c.loop-command.answers.items;
      then = analyzer_state g.S.ParsedSourceStore.sources c.loop-command.analyzer;
      ran = c.loop-command.invariant.ran;
      failure = c.in_err-answer.ensures.out_of_memory;
    }))
