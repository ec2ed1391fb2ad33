-- The laws about a whole run follow from those about each command.
use Rattle.std.proofs.Common.{◌+◌, ◌≤◌, ℕ, List, [], Option, IfOk, OnOk, ap, subst, inl, inr}
use Rattle.std.proofs.lemmas.Result.{IfOk-weaker}
use Rattle.deno_graph_analyzer.specs.CapturingModuleAnalyzer.{parser_of, analyzer_state}
use Rattle.deno_graph_analyzer.specs.Commands.{Unmarked, misses, AreAnswers}
use Rattle.deno_graph_analyzer.proofs.WholeRuns.{by_result, runs_function, early_function, ends_sound}
use Rattle.deno_graph_analyzer.proofs.WholeRuns.{run_replies, sound_empty, unmarked_at-empty}
use Rattle.deno_graph_analyzer.proofs.run.run.Goals as goal

pub returns-clause-function : goal.returns-clause-function
returns-clause-function g c =
    let P = g.P.EsParser in
    let commands = c.args.commands.now in
    by_result c.run_each.result _ _ c.run_each.ensures.ran c.run_each.ensures.out_of_memory
    (λ answers ran. runs_function P.parses P.count P.is_sound P.may_return commands answers.items _ _ ran)
    (λ failed. elim failed [
      | inl same ↦ ap (λ analyzer. P.parses (parser_of analyzer)) same
      | inr early ↦ early_function P.parses P.count P.is_sound P.may_return commands _ _ early
    ])

pub returns-clause-sound : goal.returns-clause-sound
returns-clause-sound g c = λ sound.
    let P = g.P.EsParser in
    let sources = g.S.ParsedSourceStore.sources in
    ends_sound P.parses P.count P.is_sound P.may_return c.args.commands.now (λ answers. answers.items)
    c.run_each.result (analyzer_state sources c.args.analyzer.now)
    (analyzer_state sources c.run_each.new.analyzer)
    c.run_each.ensures.ran c.run_each.ensures.out_of_memory (λ same. ap (analyzer_state sources) same) sound

pub returns-clause-sound_from_empty : goal.returns-clause-sound_from_empty
returns-clause-sound_from_empty g c = λ parser empty.
    let P = g.P.EsParser in
    let sources = g.S.ParsedSourceStore.sources in
    ends_sound P.parses P.count P.is_sound P.may_return c.args.commands.now (λ answers. answers.items)
    c.run_each.result (analyzer_state sources c.args.analyzer.now)
    (analyzer_state sources c.run_each.new.analyzer)
    c.run_each.ensures.ran c.run_each.ensures.out_of_memory (λ same. ap (analyzer_state sources) same)
    (sound_empty P.parses P.is_sound (analyzer_state sources c.args.analyzer.now) parser empty)

pub returns-clause-replies : goal.returns-clause-replies
returns-clause-replies g c = λ sound.
    let P = g.P.EsParser in
    let commands = c.args.commands.now in
    IfOk-weaker c.run_each.result _ _
    (λ answers ran. (run_replies P.parses P.count P.is_sound P.may_return commands answers.items _ _
    sound ran).replies)
    c.run_each.ensures.ran

pub returns-clause-counted : goal.returns-clause-counted
returns-clause-counted g c = λ sound.
    let P = g.P.EsParser in
    let commands = c.args.commands.now in
    IfOk-weaker c.run_each.result _ _
    (λ answers ran. (run_replies P.parses P.count P.is_sound P.may_return commands answers.items _ _
    sound ran).counted)
    c.run_each.ensures.ran

pub returns-clause-from_empty : goal.returns-clause-from_empty
returns-clause-from_empty g c = λ parser empty.
    let P = g.P.EsParser in
    let commands = c.args.commands.now in
    let old = analyzer_state g.S.ParsedSourceStore.sources c.args.analyzer.now in
    let Replied : (List ℕ → Option Unmarked) → Type 0 = λ start. IfOk c.run_each.result
    (λ answers. AreAnswers (P.parses old.parser) start [] commands answers.items) in
    subst Replied (unmarked_at-empty old.sources empty) (IfOk-weaker c.run_each.result _ _
    (λ answers ran. (run_replies P.parses P.count P.is_sound P.may_return commands answers.items _ _
    (sound_empty P.parses P.is_sound old parser empty) ran).replies)
    c.run_each.ensures.ran)

pub returns-clause-counted_from_empty : goal.returns-clause-counted_from_empty
returns-clause-counted_from_empty g c = λ parser empty.
    let P = g.P.EsParser in
    let commands = c.args.commands.now in
    let old = analyzer_state g.S.ParsedSourceStore.sources c.args.analyzer.now in
    let new = analyzer_state g.S.ParsedSourceStore.sources c.run_each.new.analyzer in
    let Counted : (List ℕ → Option Unmarked) → Type 0 = λ start. OnOk c.run_each.result
    (P.count new.parser ≤ P.count old.parser + misses (P.parses old.parser) start [] commands) in
    subst Counted (unmarked_at-empty old.sources empty) (IfOk-weaker c.run_each.result _ _
    (λ answers ran. (run_replies P.parses P.count P.is_sound P.may_return commands answers.items _ _
    (sound_empty P.parses P.is_sound old parser empty) ran).counted)
    c.run_each.ensures.ran)
