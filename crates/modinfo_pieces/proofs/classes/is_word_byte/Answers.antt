use Rattle.std.proofs.Common.{refl, arith}
use Rattle.modinfo_pieces.specs.declared.classes.TheConstants.{CLASSES}
use Rattle.modinfo_pieces.specs.Words.{is_word_byte}
use Rattle.modinfo_pieces.proofs.Tables.{agree_below, from_table}
use Rattle.modinfo_pieces.proofs.classes.is_word_byte.Goals as goal

pub returns : goal.returns
unfolding agree_below is_word_byte
returns c = from_table CLASSES 1 is_word_byte c.args.byte (omega arith) refl
