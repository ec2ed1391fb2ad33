use Rattle.std.proofs.lemmas.Result.{err_from_is_err_and}
use Rattle.modinfo_document.proofs.Urls.{no_url}
use Rattle.modinfo_document.proofs.document.Document.url.Goals as goal

pub returns-in_err-parse : goal.returns-in_err-parse
returns-in_err-parse c =
    let is = err_from_is_err_and c.from_residual.result c.from_residual.ensures.1 in
    rw (is.1, is.2) (no_url c.args.self.now c.in_err-parse.field-0.0
    (rw c.as_str.ensures at c.in_err-parse.ensures))
