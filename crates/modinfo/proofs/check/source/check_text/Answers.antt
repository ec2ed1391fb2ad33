use Rattle.std.proofs.Common.{◌∙◌, subst}
use Rattle.modinfo.specs.Check.{HasSourcePlace}
use Rattle.modinfo.specs.declared.fault.Fault.TheVariants.{Defect, Syntax}
use Rattle.modinfo.proofs.check.source.check_text.Goals as goal

-- The parser reported a syntax error.
pub returns-in_ok-syntax_report-in-Err-Syntax-clause-report :
    goal.returns-in_ok-syntax_report-in-Err-Syntax-clause-report
returns-in_ok-syntax_report-in-Err-Syntax-clause-report c = record {
  fault = Syntax;
  no_memory = λ same. cc (same);
  has_fault = (c.in-Ok.specifier, c.in-Ok.ensures);
  name = c.in_ok-syntax_report-in-Err-Syntax.ensures.name;
  place = subst (λ text. HasSourcePlace text c.in_ok-syntax_report-in-Err-Syntax.field-0)
      (c.in_ok-source.ensures.ok ∙ c.as_str.ensures) c.in_ok-syntax_report-in-Err-Syntax.ensures.place;
}

-- The parser read what isn't the text's.
pub returns-in_ok-defect_report-in-Err-Defect-clause-report :
    goal.returns-in_ok-defect_report-in-Err-Defect-clause-report
returns-in_ok-defect_report-in-Err-Defect-clause-report c = record {
  fault = Defect;
  no_memory = λ same. cc (same);
  has_fault = (c.in-Ok.specifier, c.in-Ok.ensures);
  name = c.in_ok-defect_report-in-Err-Defect.ensures.name;
  place = subst (λ text. HasSourcePlace text c.in_ok-defect_report-in-Err-Defect.field-0)
      (c.in_ok-source.ensures.ok ∙ c.as_str.ensures) c.in_ok-defect_report-in-Err-Defect.ensures.place;
}
