-- The key in the map is the text of the specifier.
use Rattle.std.proofs.Common.{◌∙◌, ap}
use Rattle.std.proofs.lemmas.Result.{on_ok_weaker, IfOk-weaker}
use Rattle.deno_graph_analyzer.specs.Parsing.{specifier_text}
use Rattle.deno_graph_analyzer.specs.Sources.{source_at, with_mark}
use Rattle.deno_graph_analyzer.specs.internal.MapSources.{sources_of}
use Rattle.deno_graph_analyzer.proofs.store.DefaultParsedSourceStoreParsedSourceStore.get_scope_analysis_parsed_source.Goals as goal

pub returns-clause-found : goal.returns-clause-found
unfolding specifier_text
returns-clause-found c =
    IfOk-weaker c.mark_source.result _ _
    (λ found is. is ∙ ap (λ key. source_at (sources_of c.mark_source.new.sources) key)
    c.as_str.ensures.value) c.mark_source.ensures.found

pub returns-clause-ok : goal.returns-clause-ok
unfolding specifier_text
returns-clause-ok c =
    on_ok_weaker c.mark_source.result
    (λ is. is ∙ (λ i. with_mark (c.self.view_is i) (c.as_str.ensures.value i))) c.mark_source.ensures.ok
