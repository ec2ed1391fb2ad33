-- One attribute after another, up to the closing brace.
use Rattle.std.proofs.Common.{length, subst, ap, arith, rules}
use Rattle.std.specs.Str.{chars}
use Rattle.deno_graph_jsdoc.specs.JsDocGrammar.{Anything}
use Rattle.deno_graph_jsdoc.specs.internal.Cache.{AreCached}
use Rattle.deno_graph_jsdoc.specs.internal.Reading.{IsModeBlockEnd, Reads, rest_and_mode, chars_of}
use Rattle.deno_graph_jsdoc.proofs.Blocks.{SoFar, SoFar-more, block_fails, block_cached, block_no_attribute}
use Rattle.deno_graph_jsdoc.proofs.Blocks.{block_closed, block_broken}
use Rattle.deno_graph_jsdoc.proofs.Readings.{Begins-length, Begins-shorter, space_read}
use Rattle.deno_graph_jsdoc.proofs.Cached.{AreCached-after, AreCached-skipped}
use Rattle.deno_graph_jsdoc.proofs.grammar.attributes.attributes.Goals as goal
use Rattle.deno_graph_jsdoc.proofs.grammar.attributes.attributes.Goals.{In_ok-rest}

pub returns-in_err-after : goal.returns-in_err-after
returns-in_err-after c =
    rw c.from_residual.ensures
    (block_no_attribute (chars c.args.input.now) (chars c.loop-after.rest.now)
    (chars_of c.loop-after.name) c.loop-after.invariant.1 c.in_err-after.ensures)

pub returns-in-Some : goal.returns-in-Some
returns-in-Some c =
    block_closed (chars c.args.input.now) (chars c.loop-after.rest.now) (chars c.in_ok-after.after.now)
    (chars_of c.loop-after.name) (chars_of c.name_after-name.result)
    (record { key = chars c.in_ok-after.key.now; value = chars c.in_ok-after.value.now })
    c.loop-after.invariant.1 c.in_ok-after.ensures c.name_after-name.ensures
    (chars c.in-Some.end.now) c.mode_of.result
    (rw c.skip_space-after.ensures at c.in-Some.ensures) c.mode_of.ensures

pub returns-in_err-rest : goal.returns-in_err-rest
returns-in_err-rest c =
    rw c.from_residual-in_err-rest.ensures
    (block_broken (chars c.args.input.now) (chars c.loop-after.rest.now) (chars c.in_ok-after.after.now)
    (chars_of c.loop-after.name) (chars_of c.name_after-name.result)
    (record { key = chars c.in_ok-after.key.now; value = chars c.in_ok-after.value.now })
    c.loop-after.invariant.1 c.in_ok-after.ensures c.name_after-name.ensures
    (rw c.skip_space-after.ensures at c.in_default.ensures)
    (rw c.skip_space-after.ensures at c.in_err-rest.ensures))

pub loop-after-smaller : goal.loop-after-smaller
loop-after-smaller c =
    let less = Begins-length c.in_ok-after.ensures.0 in
    let skipped = Begins-length (space_read (chars c.in_ok-after.after.now)).0 in
    let shorter = Begins-shorter c.in_ok-rest.ensures.0 in
    omega (arith, ap length c.skip_space-after.ensures)

-- the cache of the text after a comma
cache : (c : In_ok-rest) → AreCached (chars c.in_ok-rest.rest.now) c.args.cache.now
cache c =
    AreCached-after c.args.cache.now c.in_ok-rest.ensures.0
    (AreCached-skipped (chars c.in_ok-after.after.now) (chars c.skip_space-after.result.now)
    c.args.cache.now c.skip_space-after.ensures
    (AreCached-after c.args.cache.now c.in_ok-after.ensures.0 c.loop-after.invariant.2))

more : (c : In_ok-rest)
    → SoFar (chars c.args.input.now) (chars c.in_ok-rest.rest.now) (chars_of c.name_after-name.result)
more c =
    SoFar-more (chars c.args.input.now) (chars c.loop-after.rest.now) (chars c.in_ok-after.after.now)
    (chars_of c.loop-after.name) (chars_of c.name_after-name.result)
    (record { key = chars c.in_ok-after.key.now; value = chars c.in_ok-after.value.now })
    c.loop-after.invariant.1 c.in_ok-after.ensures c.name_after-name.ensures
    (chars c.in_ok-rest.rest.now) (rw c.skip_space-after.ensures at c.in_ok-rest.ensures)

pub list_at-requires : goal.list_at-requires
list_at-requires c = cache (goal.at.list_at-requires c).In_ok-rest

pub returns-in_err-end : goal.returns-in_err-end
returns-in_err-end c =
    let later = chars c.in_ok-rest.rest.now in
    rw c.from_residual-in_err-end.ensures
    (block_fails (chars c.args.input.now) later (chars_of c.name_after-name.result)
    (more (goal.at.returns-in_err-end c).In_ok-rest)
    (subst (λ read. Reads Anything IsModeBlockEnd later (rest_and_mode read)) c.in_err-end.was
    c.in-Some-list_at.ensures))

pub returns-in-Some-list_at : goal.returns-in-Some-list_at
returns-in-Some-list_at c =
    let later = chars c.in_ok-rest.rest.now in
    block_cached (chars c.args.input.now) later (chars_of c.name_after-name.result)
    (more (goal.at.returns-in-Some-list_at c).In_ok-rest) (chars c.in_ok-end.end.now) c.in_ok-end.mode
    c.mode_with.result
    (subst (λ read. Reads Anything IsModeBlockEnd later (rest_and_mode read)) c.in_ok-end.was
    c.in-Some-list_at.ensures)
    c.mode_with.ensures

pub loop-after-preserved : goal.loop-after-preserved
loop-after-preserved c =
    let here = (goal.at.loop-after-preserved c).In_ok-rest in
    (search rules, more here, cache here)
