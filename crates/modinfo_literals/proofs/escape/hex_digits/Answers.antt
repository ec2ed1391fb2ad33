-- The number is a code point, and stands for the digits if there are as many as wanted.
use Rattle.std.proofs.Common.{sym, ◌∙◌}
use Rattle.std.specs.Str.{chars}
use Rattle.modinfo_literals.proofs.Steps.{hex_step-read, hex_step-none, hex_value-below}
use Rattle.modinfo_literals.proofs.escape.hex_digits.Goals as goal

pub returns-then-found-count-clause-step : goal.returns-then-found-count-clause-step
returns-then-found-count-clause-step c =
    let found = c.read_digits-found.ensures in
    hex_step-read c.args.count c.requires (chars c.args.text.now) _ found.value _
    (sym found.count ∙ c.if-found-count.true) found.rest

pub returns-then-found-count-clause-code_point : goal.returns-then-found-count-clause-code_point
returns-then-found-count-clause-code_point c =
    hex_value-below c.args.count c.requires (chars c.args.text.now) _ c.read_digits-found.ensures.value

pub returns-else-found-count-clause-step : goal.returns-else-found-count-clause-step
returns-else-found-count-clause-step c =
    hex_step-none c.args.count (chars c.args.text.now)
    (λ long. c.if-found-count.false (c.read_digits-found.ensures.count ∙ long))
