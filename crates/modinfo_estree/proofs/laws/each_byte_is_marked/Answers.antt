use Rattle.modinfo_estree.specs.Tokens.{is_line_break}
use Rattle.modinfo_estree.proofs.ByteMarks.{length-bytes_of, length-gaps}
use Rattle.modinfo_estree.proofs.laws.each_byte_is_marked.Goals as goal

pub returns : goal.returns
returns c = record { between = length-gaps; lines = length-bytes_of is_line_break }
