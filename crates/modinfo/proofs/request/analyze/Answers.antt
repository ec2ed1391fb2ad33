use Rattle.std.proofs.lemmas.Result.{err_from_is_err_and}
use Rattle.modinfo.proofs.request.analyze.Goals as goal

-- The document has a fault.
pub returns-in_err-info_of : goal.returns-in_err-info_of
returns-in_err-info_of c reads text is_document =
    let is = err_from_is_err_and c.from_residual.result c.from_residual.ensures.1 in
    rw (is.1, is.2) (c.in_err-info_of.ensures reads text is_document)

-- The text is the JSON of the information.
pub returns : goal.returns
returns c reads text is_document =
    let (module_, is_module, is_info) = c.in_ok-info_of.ensures reads text is_document in
    (module_, is_module, c.in_ok-info_of.field-0, is_info, c.in_ok-to_json.ensures.text)
