-- The source at the key is marked in the map. Without a source nothing changes.
use Rattle.std.proofs.Common.{◌≡◌, ◌∙◌, ap, sym, Some, None, Result, Ok, Err, OnErr, rules}
use Rattle.deno_graph_source.specs.ParsedSource.{marked}
use Rattle.deno_graph_analyzer.specs.Sources.{source_at, with_source, with_mark_of}
use Rattle.deno_graph_analyzer.specs.internal.MapSources.{sources_of}
use Rattle.deno_graph_analyzer.proofs.StoredSources.{source_at-sources_of, with_source-sources_of}
use Rattle.deno_graph_analyzer.proofs.StoredSources.{with_source_again, source_at-with_source_here}
use Rattle.deno_graph_analyzer.proofs.store.mark_source.Goals as goal

at_err : {T E P : Type 0} (result : Result T E) → P → OnErr result P
at_err (Ok x) p = tt
at_err (Err e) p = p

pub returns-in_default-clause-found : goal.returns-in_default-clause-found
returns-in_default-clause-found c =
    let old = c.args.sources.now in
    c.in_default.ensures.value ∙ sym (source_at-sources_of old c.args.key.now)
    ∙ ap (λ sources. source_at (sources_of sources) c.args.key.now) (sym c.get_mut.follows.holds-at-none)

pub returns-in_default-clause-ok : goal.returns-in_default-clause-ok
returns-in_default-clause-ok c =
    let old = c.args.sources.now in
    let absent : source_at (sources_of old) c.args.key.now ≡ None = source_at-sources_of old c.args.key.now
    ∙ sym c.in_default.ensures.value in
    ap sources_of c.get_mut.follows.holds-at-none
    ∙ ap (with_mark_of (sources_of old) c.args.key.now) (sym absent)

pub returns-in_err-try_clone-clause-err : goal.returns-in_err-try_clone-clause-err
returns-in_err-try_clone-clause-err c =
    let old = c.args.sources.now in
    let key = c.args.key.now in
    let source = c.in-Some.source.now in
    let updates = (c.get_mut.follows.holds source).3 (search rules) in
    at_err c.from_residual.result
    (with_source-sources_of key old (c.get_mut.follows.lender source) source updates
    ∙ with_source_again (sources_of old) key source
    (source_at-sources_of old key ∙ sym c.in-Some.ensures.value))

pub returns-in_err-source-clause-err : goal.returns-in_err-source-clause-err
returns-in_err-source-clause-err c =
    let old = c.args.sources.now in
    let key = c.args.key.now in
    let source = c.in-Some.source.now in
    let updates = (c.get_mut.follows.holds source).3 (search rules) in
    at_err c.from_residual-in_err-source.result
    (with_source-sources_of key old (c.get_mut.follows.lender source) source updates
    ∙ with_source_again (sources_of old) key source
    (source_at-sources_of old key ∙ sym c.in-Some.ensures.value))

pub returns-clause-found : goal.returns-clause-found
returns-clause-found c =
    let old = c.args.sources.now in
    let key = c.args.key.now in
    let source = c.in_ok-source.field-0 in
    let updates = (c.get_mut.follows.holds source).3 (search rules) in
    ap Some (sym c.in_ok-source.ensures)
    ∙ sym (source_at-with_source_here (sources_of old) key source)
    ∙ ap (λ sources. source_at sources key)
    (sym (with_source-sources_of key old (c.get_mut.follows.lender source) source updates))

pub returns-clause-ok : goal.returns-clause-ok
returns-clause-ok c =
    let old = c.args.sources.now in
    let key = c.args.key.now in
    let source = c.in_ok-source.field-0 in
    let updates = (c.get_mut.follows.holds source).3 (search rules) in
    let is : source ≡ marked c.in-Some.source.now = c.in_ok-source.ensures
    ∙ c.into_with_scope_analysis-marked.ensures ∙ ap marked c.in_ok-try_clone.ensures in
    let had : source_at (sources_of old) key ≡ Some c.in-Some.source.now = source_at-sources_of old key
    ∙ sym c.in-Some.ensures.value in
    with_source-sources_of key old (c.get_mut.follows.lender source) source updates
    ∙ ap (with_source (sources_of old) key) is
    ∙ ap (with_mark_of (sources_of old) key) (sym had)
