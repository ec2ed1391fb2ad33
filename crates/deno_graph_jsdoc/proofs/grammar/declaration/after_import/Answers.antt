-- A clause, and then a source, whose range is counted from before the clause.
use Rattle.std.proofs.Common.{rules}
use Rattle.std.specs.Str.{IsUtf8, chars}
use Rattle.deno_graph_jsdoc.specs.internal.Reading.{IsDeclarationEnd, rest_and_import}
use Rattle.deno_graph_jsdoc.proofs.Cached.{AreCached-after}
use Rattle.deno_graph_jsdoc.proofs.Counted.{counted_reads, end_fits}
use Rattle.deno_graph_jsdoc.proofs.Declarations.{no_clause, after_clause}
use Rattle.deno_graph_jsdoc.proofs.grammar.declaration.after_import.Goals as goal

pub returns-in_err-from-clause-parsed : goal.returns-in_err-from-clause-parsed
returns-in_err-from-clause-parsed c =
    rw c.from_residual.ensures (no_clause (chars c.args.input.now) c.in_err-from.ensures)

pub source-requires : goal.source-requires
source-requires c = AreCached-after c.args.lists.now c.in_ok-from.ensures.0 c.requires

pub counted_from-requires-clause-end : goal.counted_from-requires-clause-end
counted_from-requires-clause-end c =
    let utf8 : IsUtf8 c.in_ok-from.from.now = search rules in
    end_fits c.args.input.now c.in_ok-from.from.now c.utf8.input utf8 c.in_ok-from.ensures.0

pub returns-clause-parsed : goal.returns-clause-parsed
returns-clause-parsed c =
    let utf8 : IsUtf8 c.in_ok-from.from.now = search rules in
    counted_reads IsDeclarationEnd c.args.input.now c.in_ok-from.from.now
    (rest_and_import c.source.result) (rest_and_import c.counted_from.result) c.utf8.input utf8
    c.in_ok-from.ensures.0
    (after_clause (chars c.args.input.now) (chars c.in_ok-from.from.now) c.in_ok-from.ensures
    (rest_and_import c.source.result) c.source.ensures.parsed) c.counted_from.ensures.read
