use Rattle.std.proofs.Common.{◌≢◌, true≢false, is_some, ap, sym, ⊎_elim, ◌∙◌}
use Rattle.deno_graph_json.specs.Data.{data_of}
use Rattle.deno_graph_info.specs.declared.conversion.fault.ConvertFault.TheVariants as convert
use Rattle.modinfo.proofs.StoredOverflow.{column_fault}
use Rattle.modinfo.proofs.check.conversion.report_columns.Goals as goal

pub returns-in-Some-clause-report : goal.returns-in-Some-clause-report
returns-in-Some-clause-report c =
    let apart : convert.ColumnOverflow ≢ convert.Float = λ same. cc (same) in
    λ none. record {
      fault = convert.ColumnOverflow;
      no_memory = λ same. cc (same);
      has_fault = column_fault (data_of c.args.value) none
          (c.in_ok-report.ensures.fault.0 (ap is_some c.in-Some.is));
      name = rw c.in-Some.is at c.in_ok-report.ensures.name;
      place = λ same. absurd (apart same);
      column = λ _. rw c.in-Some.is at c.in_ok-report.ensures.column;
    }

pub returns-in-None-clause-report : goal.returns-in-None-clause-report
returns-in-None-clause-report c =
    λ none. (
      none,
      ⊎_elim (λ converted. converted)
          (λ over. absurd (true≢false (sym (c.in_ok-report.ensures.fault.1 over) ∙ ap is_some c.in-None.is)))
          (c.conversion_has_one_outcome.ensures.some (data_of c.args.value)),
    )
