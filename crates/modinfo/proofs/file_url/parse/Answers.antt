use Rattle.std.proofs.lemmas.Result.{err_from_is_err_and}
use Rattle.modinfo.proofs.Texts.{no_url}
use Rattle.modinfo.proofs.file_url.parse.Goals as goal

-- The text is no URL, or an allocation failed.
pub returns-in_err-parse : goal.returns-in_err-parse
returns-in_err-parse c =
    let is = err_from_is_err_and c.from_residual.result c.from_residual.ensures.1 in
    rw (is.1, is.2) (no_url c.args.text.now c.in_err-parse.field-0.0 c.in_err-parse.ensures)
