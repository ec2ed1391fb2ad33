use Rattle.std.proofs.Common.{inr, refl, List, Option, ℕ}
use Rattle.std.proofs.lemmas.Result.{err_from_is_err_and}
use Rattle.modinfo_document.specs.declared.error.DocumentError.{DocumentError}
use Rattle.modinfo_document.specs.declared.error.DocumentError.TheVariants as error
use Rattle.modinfo_document.specs.Document.{Contents, HasErrorIn}
use Rattle.serde_json.specs.Data.{Data}
use Rattle.modinfo.specs.Answer.{IsNoModule}
use Rattle.modinfo.specs.Fault.{fault_of_document}
use Rattle.modinfo.proofs.request.source_of.Goals as goal

no_module : (reads : Data → Option Contents) (text : List ℕ) (inner : DocumentError)
    → HasErrorIn reads text inner → IsNoModule reads text (fault_of_document inner)
no_module reads text error.OutOfMemory has = tt
no_module reads text inner has = (inner, refl, has)

-- The document has no source.
pub returns-in_err-into_source : goal.returns-in_err-into_source
returns-in_err-into_source c reads text is_document =
    let is = err_from_is_err_and c.from_residual.result c.from_residual.ensures.1 in
    rw (is.1, is.2) (no_module reads text c.in_err-into_source.field-0.0
    (inr (c.args.document, is_document, c.in_err-into_source.ensures)))

-- The document has this source.
pub returns : goal.returns
returns c reads text is_document = record {
  document = c.args.document;
  is_document = is_document;
  is_source = c.in_ok-into_source.ensures;
}
