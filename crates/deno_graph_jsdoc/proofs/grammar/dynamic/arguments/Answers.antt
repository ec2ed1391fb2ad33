-- A parenthesis, the specifier, maybe options, and a parenthesis.
use Rattle.std.proofs.Common.{◌≡◌, ◌+◌, length, Some, None, codes, refl, ap, arith, rules}
use Rattle.std.proofs.lemmas.Str.{encodes-chars}
use Rattle.std.specs.Str.{IsUtf8, chars}
use Rattle.deno_graph_jsdoc.specs.JsDocGrammar.{◌·◌, Is, IsSpace, NoSpace}
use Rattle.deno_graph_jsdoc.specs.internal.Reading.{EndsArguments, Reads}
use Rattle.deno_graph_jsdoc.specs.JsDocImport.{byte_count}
use Rattle.deno_graph_jsdoc.specs.internal.Cache.{AreCachedSpaces}
use Rattle.deno_graph_jsdoc.proofs.Arguments.{open_none, open_read, arguments_end}
use Rattle.deno_graph_jsdoc.proofs.Imports.{no_head, no_quote, no_tail, import_read, byte_count_before}
use Rattle.deno_graph_jsdoc.proofs.Imports.{BeginsWithImport-within}
use Rattle.deno_graph_jsdoc.proofs.Cached.{AreCached-after, AreCached-skipped, AreCachedSpaces-after}
use Rattle.deno_graph_jsdoc.proofs.Cached.{AreCachedSpaces-skipped, AreCachedSpaces-options}
use Rattle.deno_graph_jsdoc.proofs.grammar.dynamic.arguments.Goals as goal
use Rattle.deno_graph_jsdoc.proofs.grammar.dynamic.arguments.Goals.{In_ok-quoted, After-skip_space-after}

open_at : (c : In_ok-quoted) → Reads NoSpace (λ (_ : Unit {0}). IsSpace · Is (codes "(") · IsSpace)
    (chars c.args.input.now) (Some (chars c.in_ok-quoted.quoted.now, tt))
open_at c = open_read (chars c.args.input.now) (chars c.in_ok-quoted.quoted.now)
    (rw c.skip_space.ensures at c.in_ok-quoted.ensures)

before : (c : In_ok-quoted)
    → byte_count (open_at c).0.piece + length c.in_ok-quoted.quoted.now ≡ length c.args.input.now
before c =
    let utf8 : IsUtf8 c.in_ok-quoted.quoted.now = search rules in
    byte_count_before c.args.input.now c.in_ok-quoted.quoted.now
    (open_at c).0.piece c.utf8.input utf8 (open_at c).0.whole

pub returns-in_err-quoted-clause-parsed : goal.returns-in_err-quoted-clause-parsed
returns-in_err-quoted-clause-parsed c =
    rw c.from_residual.ensures
    (no_head (IsSpace · Is (codes "(") · IsSpace) EndsArguments (chars c.args.input.now)
    (open_none (chars c.args.input.now) (rw c.skip_space.ensures at c.in_err-quoted.ensures)))

pub returns-in_err-after-clause-parsed : goal.returns-in_err-after-clause-parsed
returns-in_err-after-clause-parsed c =
    rw c.from_residual-in_err-after.ensures
    (no_quote (IsSpace · Is (codes "(") · IsSpace) EndsArguments (chars c.args.input.now)
    (chars c.in_ok-quoted.quoted.now)
    (open_at (goal.at.returns-in_err-after-clause-parsed c).In_ok-quoted) c.in_err-after.ensures)

pub returns-in_err-rest-clause-parsed : goal.returns-in_err-rest-clause-parsed
returns-in_err-rest-clause-parsed c =
    rw c.from_residual-in_err-rest.ensures
    (no_tail (IsSpace · Is (codes "(") · IsSpace) EndsArguments (chars c.args.input.now)
    (chars c.in_ok-quoted.quoted.now)
    (open_at (goal.at.returns-in_err-rest-clause-parsed c).In_ok-quoted) (chars c.in_ok-after.after.now)
    (chars c.in_ok-after.specifier.now) c.in_ok-after.ensures
    (arguments_end (chars c.in_ok-after.after.now) c.options.result c.skip_space-after.result
    c.unwrap_or-resolution_mode.result
    c.skip_space-after.ensures c.options.ensures c.unwrap_or-resolution_mode.ensures None
    (rw c.skip_cached.ensures at c.in_err-rest.ensures)))

pub overflow_sub-start : goal.overflow_sub-start
overflow_sub-start c = omega (arith, before (goal.at.overflow_sub-start c).In_ok-quoted)

pub returns-clause-parsed : goal.returns-clause-parsed
returns-clause-parsed c =
    let ends = arguments_end (chars c.in_ok-after.after.now) c.options.result c.skip_space-after.result
    c.unwrap_or-resolution_mode.result
    c.skip_space-after.ensures c.options.ensures c.unwrap_or-resolution_mode.ensures
    (Some (chars c.in_ok-rest.rest.now, tt)) (rw c.skip_cached.ensures at c.in_ok-rest.ensures) in
    let utf8 : IsUtf8 c.in_ok-after.specifier.now = search rules in
    let opened = (goal.at.returns-clause-parsed c).In_ok-quoted in
    import_read (IsSpace · Is (codes "(") · IsSpace) EndsArguments (chars c.args.input.now)
    (chars c.in_ok-quoted.quoted.now) (open_at opened)
    (chars c.in_ok-after.after.now) (chars c.in_ok-after.specifier.now) c.in_ok-after.ensures _ _ refl
    (omega (arith, before opened))
    (omega (arith, ap length (encodes-chars c.in_ok-after.specifier.now utf8)))
    ends.0 ends.1

pub returns-clause-within : goal.returns-clause-within
returns-clause-within c =
    BeginsWithImport-within (IsSpace · Is (codes "(") · IsSpace) EndsArguments c.args.input.now _ _
    c.utf8.input (returns-clause-parsed c).0

pub options-requires-clause-lists : goal.options-requires-clause-lists
options-requires-clause-lists c =
    let cache = c.args.lists.now in
    AreCached-skipped (chars c.in_ok-after.after.now) (chars c.skip_space-after.result.now) cache
    c.skip_space-after.ensures
    (AreCached-after cache c.in_ok-after.ensures.0
    (AreCached-after cache c.in_ok-quoted.ensures.0
    (AreCached-skipped (chars c.args.input.now) (chars c.skip_space.result.now) cache c.skip_space.ensures
    c.requires.lists)))

-- the white space that is cached after the specifier
spaces : (c : After-skip_space-after)
    → AreCachedSpaces (chars c.skip_space-after.result.now) c.args.spaces.now
spaces c =
    let cache = c.args.spaces.now in
    AreCachedSpaces-skipped (chars c.in_ok-after.after.now) (chars c.skip_space-after.result.now) cache
    c.skip_space-after.ensures
    (AreCachedSpaces-after cache c.in_ok-after.ensures.0
    (AreCachedSpaces-after cache c.in_ok-quoted.ensures.0
    (AreCachedSpaces-skipped (chars c.args.input.now) (chars c.skip_space.result.now) cache
    c.skip_space.ensures c.requires.spaces)))

pub options-requires-clause-spaces : goal.options-requires-clause-spaces
options-requires-clause-spaces c = spaces (goal.at.options-requires-clause-spaces c).After-skip_space-after

pub skip_cached-requires : goal.skip_cached-requires
skip_cached-requires c =
    AreCachedSpaces-options c.args.spaces.now c.options.result c.skip_space-after.result
    c.unwrap_or-resolution_mode.result c.options.ensures c.unwrap_or-resolution_mode.ensures
    (spaces (goal.at.skip_cached-requires c).After-skip_space-after)
