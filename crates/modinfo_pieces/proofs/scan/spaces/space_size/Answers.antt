use Rattle.std.proofs.Common.{arith}
use Rattle.modinfo_pieces.specs.Spaces.{space_size}
use Rattle.modinfo_pieces.proofs.Narrow.{wide_space_size-narrow}
use Rattle.modinfo_pieces.proofs.scan.spaces.space_size.Goals as goal

pub returns-then-first-lt128-clause-exact : goal.returns-then-first-lt128-clause-exact
unfolding space_size
returns-then-first-lt128-clause-exact c = grind (arith, wide_space_size-narrow)
