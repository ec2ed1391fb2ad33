-- The map changes only at the bytes of the specifier's text.
use Rattle.std.proofs.Common.{◌∙◌, sym}
use Rattle.std.specs.String.{string_bytes}
use Rattle.deno_graph_analyzer.specs.Parsing.{specifier_text}
use Rattle.deno_graph_analyzer.specs.Sources.{source_at, with_source}
use Rattle.deno_graph_analyzer.proofs.StoredSources.{source_at-sources_of, with_source-sources_of}
use Rattle.deno_graph_analyzer.proofs.store.DefaultParsedSourceStoreParsedSourceStore.set_parsed_source.Goals as goal

pub returns-clause-former : goal.returns-clause-former
unfolding specifier_text
returns-clause-former c =
    let same = c.in_ok-key.ensures.ok ∙ c.as_str.ensures.value in
    c.in_ok-insert.ensures.old ∙ sym
    (source_at-sources_of c.self.inside.sources (string_bytes c.in_ok-key.key))
    ∙ (λ i. source_at (c.self.view_is i) (same i))

pub returns-clause-ok : goal.returns-clause-ok
unfolding specifier_text
returns-clause-ok c =
    let same = c.in_ok-key.ensures.ok ∙ c.as_str.ensures.value in
    with_source-sources_of (string_bytes c.in_ok-key.key) c.self.inside.sources c.insert.new.self
    c.args.source c.in_ok-insert.ensures.updates
    ∙ (λ i. with_source (c.self.view_is i) (same i) c.args.source)
