-- The number of bytes left determines the end of the text.
use Rattle.std.proofs.Common.{[], refl, sym, ap, subst, arith, length}
use Rattle.std.proofs.lemmas.Str.{encodes-chars}
use Rattle.std.specs.Str.{chars}
use Rattle.deno_graph_jsdoc.specs.internal.Cache.{IsCachedSpace}
use Rattle.deno_graph_jsdoc.proofs.grammar.cached_spaces.skip_cached.Goals as goal

pub returns-then-space-input : goal.returns-then-space-input
returns-then-space-input c =
    let space = c.in-Some.space.now in
    let input = c.args.input.now in
    let found = c.in-Some.ensures.lookup.3 in
    subst (IsCachedSpace (chars input)) (sym (found.1 space))
    (c.requires c.partition_point-at.result space found.0) [] (chars input) refl
    (omega (arith, ap length (encodes-chars input c.utf8.input), c.if-space-input.true))
