use Rattle.std.proofs.Common.{◌∙◌, inr}
use Rattle.modinfo.proofs.files.put_unnamed.Goals as goal

pub returns : goal.returns
returns c folder none =
    c.put_line.ensures folder c.args.name.now tt
    (inr (none, c.as_str.ensures.value ∙ c.in_ok-specifier.ensures.lossy))
