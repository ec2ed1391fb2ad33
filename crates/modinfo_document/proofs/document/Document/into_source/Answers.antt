use Rattle.std.proofs.Common.{arith}
use Rattle.std.proofs.lemmas.Grind.{common_steps}
use Rattle.std.proofs.lemmas.Result.{err_from_is_err_and}
use Rattle.modinfo_document.proofs.Urls.{no_source}
use Rattle.modinfo_document.proofs.document.Document.into_source.Goals as goal

pub returns-in_err-specifier : goal.returns-in_err-specifier
returns-in_err-specifier c =
    let is = err_from_is_err_and c.from_residual.result c.from_residual.ensures.1 in
    rw (is.1, is.2) (no_source c.args.self c.in_err-specifier.field-0.0
    (rw c.as_str.ensures at c.in_err-specifier.ensures))

-- Written out, since the search before `grind` takes long here.
pub returns : goal.returns
returns c = grind (arith, common_steps)

pub returns-in_err-new : goal.returns-in_err-new
returns-in_err-new c = grind (arith, common_steps)
