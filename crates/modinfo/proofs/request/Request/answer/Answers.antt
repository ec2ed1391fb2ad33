use Rattle.modinfo_document.specs.Document.{reads_document}
use Rattle.modinfo_estree.specs.Document.{reads_estree}
use Rattle.modinfo.proofs.Texts.{text_answer}
use Rattle.modinfo.proofs.request.Request.answer.Goals as goal

pub returns-in-Module : goal.returns-in-Module
returns-in-Module c document is =
    rw c.in-Module.is (c.analyze.ensures reads_document document (rw c.in-Module.is at is))

pub returns-in-Estree : goal.returns-in-Estree
returns-in-Estree c document is =
    rw c.in-Estree.is
    (c.analyze-in-Estree.ensures reads_estree document (rw c.in-Estree.is at is))

pub returns-in-Source : goal.returns-in-Source
returns-in-Source c document is =
    rw c.in-Source.is (text_answer document c.in-Source.text c.info_text.result (rw c.in-Source.is at is)
    c.info_text.ensures)
