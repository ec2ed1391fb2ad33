-- The map changes only at the bytes of the specifier's text.
use Rattle.std.proofs.Common.{◌∙◌, sym}
use Rattle.deno_graph_analyzer.specs.Parsing.{specifier_text}
use Rattle.deno_graph_analyzer.specs.Sources.{source_at, without_source}
use Rattle.deno_graph_analyzer.proofs.StoredSources.{source_at-sources_of, without-sources_of}
use Rattle.deno_graph_analyzer.proofs.store.DefaultParsedSourceStoreParsedSourceStore.remove_parsed_source.Goals as goal

pub returns-clause-former : goal.returns-clause-former
unfolding specifier_text
returns-clause-former c =
    c.remove.ensures.value ∙ sym (source_at-sources_of c.self.inside.sources c.as_str.result.now)
    ∙ (λ i. source_at (c.self.view_is i) (c.as_str.ensures.value i))

pub returns-clause-ok : goal.returns-clause-ok
unfolding specifier_text
returns-clause-ok c =
    without-sources_of c.as_str.result.now c.self.inside.sources c.remove.new.self c.remove.ensures.updates
    ∙ (λ i. without_source (c.self.view_is i) (c.as_str.ensures.value i))
