-- Each piece is one more element, and what the loop leaves begins with no element.
use Rattle.std.proofs.Common.{rules}
use Rattle.std.specs.Str.{chars}
use Rattle.modinfo_literals.specs.internal.Read.{step_of}
use Rattle.modinfo_literals.proofs.Reading.{IsSoFar-more, step_shorter}
use Rattle.modinfo_literals.proofs.element.read_units.Goals as goal

pub loop-piece-smaller : goal.loop-piece-smaller
loop-piece-smaller c =
    step_shorter c.args.form (chars c.loop-piece.end.now) (step_of c.in-Some.piece) c.in-Some.ensures.step

pub loop-piece-preserved : goal.loop-piece-preserved
loop-piece-preserved c = (
  search rules,
  IsSoFar-more c.args.form (chars c.args.text.now) (chars c.loop-piece.end.now) c.loop-piece.units.items
      (step_of c.in-Some.piece) _ c.loop-piece.invariant.1 c.in-Some.ensures.step c.in_ok-push_units.ensures,
)
