use Rattle.std.proofs.Common.{rules}
use Rattle.std.proofs.lemmas.Result.{err_from_is_err_and}
use Rattle.modinfo.proofs.request.info_of.Goals as goal

-- The document has no source.
pub returns-in_err-source : goal.returns-in_err-source
returns-in_err-source c reads text is_document =
    let is = err_from_is_err_and c.from_residual.result c.from_residual.ensures.1 in
    rw (is.1, is.2) (c.in_err-source.ensures reads text is_document)

-- The information is that of the source.
pub returns : goal.returns
returns c reads text is_document =
    (c.in_ok-source.source, c.in_ok-source.ensures reads text is_document, search rules)
