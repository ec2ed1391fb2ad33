use Rattle.std.proofs.Common.{refl, arith}
use Rattle.modinfo_pieces.specs.declared.classes.TheConstants.{CLASSES}
use Rattle.modinfo_pieces.specs.Spaces.{is_ascii_space}
use Rattle.modinfo_pieces.proofs.Tables.{agree_below, from_table}
use Rattle.modinfo_pieces.proofs.classes.is_ascii_space.Goals as goal

pub returns : goal.returns
unfolding agree_below
returns c = from_table CLASSES 2 is_ascii_space c.args.byte (omega arith) refl
