-- The number of bytes left determines the end of the text.
use Rattle.std.proofs.Common.{[], refl, sym, ap, subst, arith, length}
use Rattle.std.proofs.lemmas.Str.{encodes-chars}
use Rattle.std.specs.Str.{chars}
use Rattle.deno_graph_jsdoc.specs.internal.Cache.{IsCached}
use Rattle.deno_graph_jsdoc.proofs.grammar.cached_lists.list_at.Goals as goal

pub returns-then-list-input : goal.returns-then-list-input
returns-then-list-input c =
    let list = c.in_ok-list.field-0.now in
    let input = c.args.input.now in
    let found = c.in_ok-list.ensures.lookup.3 in
    subst (IsCached (chars input)) (sym (found.1 list))
    (c.requires c.partition_point-at.result list found.0) [] (chars input) refl
    (omega (arith, ap length (encodes-chars input c.utf8.input), c.if-list-input.true))
