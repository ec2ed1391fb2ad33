use Rattle.modinfo_estree.proofs.CommentTexts.{ends}
use Rattle.modinfo_estree.proofs.comments.before.Goals as goal

pub returns : goal.returns
returns c = ends c.args.text.now c.args.end.now c.strip_suffix.result c.strip_suffix.ensures.cases
