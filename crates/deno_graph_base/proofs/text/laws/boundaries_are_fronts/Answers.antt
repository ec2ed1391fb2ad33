use Rattle.std.proofs.Common.{subst}
use Rattle.std.specs.Str.{IsCharBoundary}
use Rattle.deno_graph_base.proofs.FrontLemmas.{boundary_from_front, front_from_boundary, position_from_front}
use Rattle.deno_graph_base.proofs.text.laws.boundaries_are_fronts.Goals as goal

pub returns-clause-sizes : goal.returns-clause-sizes
returns-clause-sizes c = λ n.
    let text = c.args.text.now in (
      front_from_boundary text n c.utf8.text,
      λ (front, rest, is, size). subst (IsCharBoundary text) size
          (boundary_from_front text front rest c.utf8.text is),
    )

pub returns-clause-positions : goal.returns-clause-positions
returns-clause-positions c = λ front rest is. position_from_front c.args.text.now front rest c.utf8.text is
