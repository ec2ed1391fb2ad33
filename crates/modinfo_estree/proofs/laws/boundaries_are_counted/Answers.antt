use Rattle.modinfo_estree.proofs.UnitSizes.{boundary_counted}
use Rattle.modinfo_estree.proofs.laws.boundaries_are_counted.Goals as goal

pub returns : goal.returns
returns c = boundary_counted
