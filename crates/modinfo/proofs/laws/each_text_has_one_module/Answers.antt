use Rattle.modinfo_document.proofs.OneDocument.{one_document, one_source}
use Rattle.modinfo.proofs.laws.each_text_has_one_module.Goals as goal

pub returns : goal.returns
returns c reads text one other a b =
    one_source a.document b.document one other
    (one_document reads text a.document b.document a.is_document b.is_document) a.is_source b.is_source
