use Rattle.std.proofs.Common.{inl}
use Rattle.std.proofs.lemmas.Result.{err_from_is_err_and}
use Rattle.modinfo.proofs.Faults.{no_text}
use Rattle.modinfo.proofs.request.Request.read.Goals as goal

-- The bytes aren't UTF-8.
pub returns-in_err-text : goal.returns-in_err-text
returns-in_err-text c =
    let is = err_from_is_err_and c.from_residual.result c.from_residual.ensures.1 in
    rw (is.1, is.2, c.in_err-text.ensures.0)
    (no_text c.args.format c.args.document.now c.in_err-text.ensures.1)
