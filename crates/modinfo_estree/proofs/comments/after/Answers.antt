use Rattle.modinfo_estree.proofs.CommentTexts.{starts}
use Rattle.modinfo_estree.proofs.comments.after.Goals as goal

pub returns : goal.returns
returns c = starts c.args.text.now c.args.start.now c.strip_prefix.result c.strip_prefix.ensures.cases
