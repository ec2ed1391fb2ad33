use Rattle.modinfo_estree.proofs.UnitSizes.{offsets_ascend}
use Rattle.modinfo_estree.proofs.laws.byte_offsets_ascend.Goals as goal

pub returns : goal.returns
returns c = offsets_ascend
