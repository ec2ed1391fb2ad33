-- The look-up in the map is by the bytes of the specifier's text.
use Rattle.std.proofs.Common.{◌∙◌, ap, sym, Some}
use Rattle.deno_graph_analyzer.specs.Parsing.{specifier_text}
use Rattle.deno_graph_analyzer.specs.Sources.{source_at}
use Rattle.deno_graph_analyzer.proofs.StoredSources.{source_at-sources_of}
use Rattle.deno_graph_analyzer.proofs.store.DefaultParsedSourceStoreParsedSourceStore.get_parsed_source.Goals as goal

pub returns-in_ok-try_clone-in-Some : goal.returns-in_ok-try_clone-in-Some
unfolding specifier_text
returns-in_ok-try_clone-in-Some c =
    ap Some c.in_ok-try_clone-in-Some.ensures ∙ c.in-Some.ensures.value
    ∙ sym (source_at-sources_of c.self.inside.sources c.as_str.result.now)
    ∙ (λ i. source_at (c.self.view_is i) (c.as_str.ensures.value i))

pub returns-in-None : goal.returns-in-None
unfolding specifier_text
returns-in-None c =
    c.in-None.ensures.value ∙ sym (source_at-sources_of c.self.inside.sources c.as_str.result.now)
    ∙ (λ i. source_at (c.self.view_is i) (c.as_str.ensures.value i))
