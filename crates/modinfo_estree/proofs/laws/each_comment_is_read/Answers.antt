use Rattle.modinfo_estree.proofs.CommentReading.{comment_read}
use Rattle.modinfo_estree.proofs.laws.each_comment_is_read.Goals as goal

pub returns : goal.returns
returns c = comment_read
