use Rattle.modinfo_document.proofs.OneDocument.{valid_refutes}
use Rattle.modinfo.proofs.laws.no_valid_text_has_a_fault.Goals as goal

pub returns : goal.returns
returns c reads text states none =
    valid_refutes reads text states.document states.has_url.0 none.0 states.is_document states.has_url.1
    states.is_valid none.1 none.2
