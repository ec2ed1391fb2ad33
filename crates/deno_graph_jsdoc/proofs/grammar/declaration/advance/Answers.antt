-- The cached brace is the next one, or the next one is searched for.
use Rattle.std.proofs.Common.{◌<◌, ℕ, Option, Some, None, List, length, ap, arith}
use Rattle.std.specs.Option.{IsSomeAnd}
use Rattle.std.proofs.lemmas.Str.{encodes-chars}
use Rattle.std.specs.Str.{chars, IsUtf8}
use Rattle.deno_graph_jsdoc.specs.internal.Braces.{IsNextEnd, Keeps}
use Rattle.deno_graph_jsdoc.specs.declared.grammar.declaration.NamesEnd.{NamesEnd}
use Rattle.deno_graph_jsdoc.proofs.Braces.{IsNextEnd-ahead}
use Rattle.deno_graph_jsdoc.proofs.grammar.declaration.advance.Goals as goal

ahead : (input : List ℕ) (cache : Option NamesEnd) → IsUtf8 input → Keeps (chars input) cache
    → IsSomeAnd cache (λ end. length end.after.now < length input) → IsNextEnd (chars input) cache
ahead input None utf8 keeps some = absurd some
ahead input (Some end) utf8 keeps some =
    IsNextEnd-ahead (chars input) end keeps
    (omega (
      arith,
      some,
      ap length (encodes-chars input utf8),
      ap length (encodes-chars end.after.now keeps.0.utf8),
    ))

pub returns-else-not-is_ahead : goal.returns-else-not-is_ahead
returns-else-not-is_ahead c =
    ahead c.args.input.now c.args.cache.now c.utf8.input c.requires.keeps
    (c.is_ahead.ensures.0 c.if-not-is_ahead.false)
