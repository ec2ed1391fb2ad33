-- A comma, a brace, `with`, a colon, a block and a brace.
use Rattle.std.proofs.Common.{Some, None}
use Rattle.std.specs.Str.{chars}
use Rattle.deno_graph_jsdoc.proofs.Arguments.{options_no_comma, options_no_brace, options_no_with}
use Rattle.deno_graph_jsdoc.proofs.Arguments.{options_no_colon, options_no_block, options_read}
use Rattle.deno_graph_jsdoc.proofs.Cached.{AreCached-after, AreCachedSpaces-after}
use Rattle.deno_graph_jsdoc.proofs.grammar.dynamic.options.Goals as goal

pub returns-in_err-rest : goal.returns-in_err-rest
returns-in_err-rest c =
    rw c.from_residual.ensures (options_no_comma (chars c.args.input.now) c.in_err-rest.ensures)

pub returns-in_err-rest-2 : goal.returns-in_err-rest-2
returns-in_err-rest-2 c =
    rw c.from_residual-in_err-rest-2.ensures
    (options_no_brace (chars c.args.input.now)
    (chars c.in_ok-rest.rest.now) c.in_ok-rest.ensures c.in_err-rest-2.ensures)

pub returns-in_err-rest-3 : goal.returns-in_err-rest-3
returns-in_err-rest-3 c =
    rw c.from_residual-in_err-rest-3.ensures
    (options_no_with (chars c.args.input.now) (chars c.in_ok-rest.rest.now) c.in_ok-rest.ensures
    (chars c.in_ok-rest-2.rest.now) c.in_ok-rest-2.ensures c.in_err-rest-3.ensures)

pub returns-in_err-token : goal.returns-in_err-token
returns-in_err-token c =
    rw c.from_residual-in_err-token.ensures
    (options_no_colon (chars c.args.input.now) (chars c.in_ok-rest.rest.now) c.in_ok-rest.ensures
    (chars c.in_ok-rest-2.rest.now) c.in_ok-rest-2.ensures
    (chars c.in_ok-rest-3.rest.now) c.in_ok-rest-3.ensures c.in_err-token.ensures)

pub returns-in_err-rest-4 : goal.returns-in_err-rest-4
returns-in_err-rest-4 c =
    rw c.from_residual-in_err-rest-4.ensures
    (options_no_block (chars c.args.input.now) (chars c.in_ok-rest.rest.now) c.in_ok-rest.ensures
    (chars c.in_ok-rest-2.rest.now) c.in_ok-rest-2.ensures
    (chars c.in_ok-rest-3.rest.now) c.in_ok-rest-3.ensures
    (chars c.in_ok-token.field-0.now) c.in_ok-token.ensures c.in_err-rest-4.ensures)

pub returns-in_err-word : goal.returns-in_err-word
returns-in_err-word c =
    rw c.from_residual-in_err-word.ensures
    (options_read (chars c.args.input.now) (chars c.in_ok-rest.rest.now) c.in_ok-rest.ensures
    (chars c.in_ok-rest-2.rest.now) c.in_ok-rest-2.ensures
    (chars c.in_ok-rest-3.rest.now) c.in_ok-rest-3.ensures
    (chars c.in_ok-token.field-0.now) c.in_ok-token.ensures
    (chars c.in_ok-rest-4.rest.now) c.in_ok-rest-4.mode None c.in_ok-rest-4.ensures
    (rw c.skip_cached.ensures at c.in_err-word.ensures))

pub returns : goal.returns
returns c =
    options_read (chars c.args.input.now) (chars c.in_ok-rest.rest.now) c.in_ok-rest.ensures
    (chars c.in_ok-rest-2.rest.now) c.in_ok-rest-2.ensures
    (chars c.in_ok-rest-3.rest.now) c.in_ok-rest-3.ensures
    (chars c.in_ok-token.field-0.now) c.in_ok-token.ensures
    (chars c.in_ok-rest-4.rest.now) c.in_ok-rest-4.mode (Some (chars c.in_ok-word.field-0.now, tt))
    c.in_ok-rest-4.ensures (rw c.skip_cached.ensures at c.in_ok-word.ensures)

pub block-requires : goal.block-requires
block-requires c =
    let cache = c.args.lists.now in
    AreCached-after cache c.in_ok-token.ensures.0 (AreCached-after cache c.in_ok-rest-3.ensures.0
    (AreCached-after cache c.in_ok-rest-2.ensures.0
    (AreCached-after cache c.in_ok-rest.ensures.0 c.requires.lists)))

pub skip_cached-requires : goal.skip_cached-requires
skip_cached-requires c =
    let cache = c.args.spaces.now in
    AreCachedSpaces-after cache c.in_ok-rest-4.ensures.0 (AreCachedSpaces-after cache c.in_ok-token.ensures.0
    (AreCachedSpaces-after cache c.in_ok-rest-3.ensures.0
    (AreCachedSpaces-after cache c.in_ok-rest-2.ensures.0
    (AreCachedSpaces-after cache c.in_ok-rest.ensures.0 c.requires.spaces))))
