use Rattle.std.proofs.Common.{rules, arith}
use Rattle.std.specs.Str.{chars}
use Rattle.modinfo_literals.proofs.Digits.{IsSoFar-more}
use Rattle.modinfo_literals.proofs.escape.read_digits.Goals as goal

pub loop-digit-preserved : goal.loop-digit-preserved
loop-digit-preserved c = (
  search rules,
  IsSoFar-more c.args.base c.args.most (chars c.args.text.now) c.loop-digit.value c.loop-digit.count
      (chars c.loop-digit.rest.now) (omega
      (arith, c.requires.low)) c.in-Some.ensures.more c.loop-digit.invariant.1
      c.in-Some.digit (chars c.in-Some.after.now) c.in-Some.ensures.cases _ c.min-value.ensures,
)
