-- Skips the characters that std's `trim_start` cuts off.
use Rattle.std.proofs.Common.{ap, ◌∙◌}
use Rattle.std.proofs.lemmas.Str.{chars-encodes, scalars-chars}
use Rattle.std.specs.Str.{chars, skip_leading_whitespace, trim_start}
use Rattle.deno_graph_jsdoc.proofs.Runs.{scalars_after_space}
use Rattle.deno_graph_jsdoc.proofs.grammar.parts.skip_space.Goals as goal

pub returns : goal.returns
unfolding trim_start
returns c =
    ap chars c.trim_start.ensures.trim
    ∙ chars-encodes (skip_leading_whitespace (chars c.args.input.now))
    (scalars_after_space (chars c.args.input.now) (scalars-chars c.args.input.now c.utf8.input))
