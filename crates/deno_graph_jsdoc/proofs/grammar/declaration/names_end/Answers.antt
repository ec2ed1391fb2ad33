-- The text after the next brace, if one is left.
use Rattle.std.proofs.Common.{◌≤◌, ap, length, arith}
use Rattle.std.proofs.lemmas.Str.{encodes-chars}
use Rattle.std.specs.Str.{chars}
use Rattle.deno_graph_jsdoc.specs.JsDocImport.{byte_count}
use Rattle.deno_graph_jsdoc.proofs.Braces.{no_brace_left}
use Rattle.deno_graph_jsdoc.proofs.Cached.{AreCached-after, AreCached-skipped}
use Rattle.deno_graph_jsdoc.proofs.grammar.declaration.names_end.Goals as goal

pub returns-then-input-unclosed : goal.returns-then-input-unclosed
returns-then-input-unclosed c =
    let fits : byte_count (chars c.args.input.now) ≤ c.args.unclosed =
    omega (arith, c.if-input-unclosed.true, ap length (encodes-chars c.args.input.now c.utf8.input)) in
    record {
      is_end = tt;
      is_next = no_brace_left (chars c.args.input.now) c.args.unclosed c.requires.unclosed fits;
    }

pub source-requires : goal.source-requires
source-requires c =
    AreCached-skipped (chars c.in_ok-after.after.now) (chars c.skip_space-from.result.now) c.args.lists.now
    c.skip_space-from.ensures
    (AreCached-after c.args.lists.now c.in_ok-after.ensures.0 c.requires.lists)
