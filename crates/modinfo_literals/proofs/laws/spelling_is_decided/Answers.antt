use Rattle.modinfo_literals.proofs.Decided.{decided}
use Rattle.modinfo_literals.proofs.laws.spelling_is_decided.Goals as goal

pub returns : goal.returns
returns c = decided
