use Rattle.modinfo_estree.proofs.CommentErrors.{not_spelled}
use Rattle.modinfo_estree.proofs.laws.no_error_is_a_comment.Goals as goal

pub returns : goal.returns
returns c = not_spelled
