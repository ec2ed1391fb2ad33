-- The store has a source for the options after the look-up exactly if it had one before.
use Rattle.std.proofs.Common.{◌∙◌, sym, subst, refl, IfSome}
use Rattle.deno_graph_analyzer.specs.Captures.{state}
use Rattle.deno_graph_analyzer.specs.Capturing.{MatchesInput}
use Rattle.deno_graph_analyzer.specs.Parsing.{input_of_options}
use Rattle.deno_graph_analyzer.proofs.CaptureCases.{captured_from_store, captured_from_parser}
use Rattle.deno_graph_analyzer.proofs.capturing.capture.Goals as goal

pub returns-in-Some : goal.returns-in-Some
returns-in-Some g c =
    let P = g.P.EsParser in
    let sources = g.S.ParsedSourceStore.sources in
    let options = c.args.options in
    captured_from_store P.parses P.count P.is_sound P.may_return options.scope_analysis
    (input_of_options options) (state c.args.parser.now (sources c.args.store.now))
    (state c.args.parser.now (sources c.look_up.new.store))
    c.in-Some.source refl c.in_ok-look_up.ensures.ok
    (sym c.in_ok-look_up.ensures.found ∙ c.in-Some.ensures.stored.0) c.in-Some.ensures.stored.1

pub returns-in-None : goal.returns-in-None
returns-in-None g c =
    let P = g.P.EsParser in
    let sources = g.S.ParsedSourceStore.sources in
    let options = c.args.options in
    captured_from_parser P.parses P.count P.is_sound P.may_return options.scope_analysis
    (input_of_options options)
    (state c.args.parser.now (sources c.args.store.now))
    (state c.parse_and_store.new.parser (sources c.parse_and_store.new.store))
    (sources c.look_up.new.store) c.parse_and_store.result c.in_ok-look_up.ensures.ok
    (subst (λ found. IfSome found (λ source. ¬ MatchesInput (input_of_options options) source))
    c.in_ok-look_up.ensures.found c.in-None.ensures.absent)
    c.parse_and_store.ensures.outcome c.parse_and_store.ensures.allowed c.parse_and_store.ensures.kept
    c.parse_and_store.ensures.err c.parse_and_store.ensures.function c.parse_and_store.ensures.counted
    c.parse_and_store.ensures.sound
