use Rattle.std.proofs.Common.{codes}
use Rattle.std.proofs.lemmas.Str.Pattern.{contains_text}
use Rattle.std.specs.Bool.{one_answer}
use Rattle.modinfo_estree.specs.Comments.{has_close}
use Rattle.modinfo_estree.proofs.CommentTexts.{closes}
use Rattle.modinfo_estree.proofs.comments.has_close.Goals as goal

pub returns : goal.returns
returns c =
    let text = c.args.text.now in
    one_answer c.contains.result (has_close text)
    (contains_text c.contains.result (codes "*/") text c.contains.ensures.cases) (closes text)
