use Rattle.std.proofs.Common.{◌≡◌, None, Some, sym, true≢false, ◌∙◌}
use Rattle.deno_graph_info.proofs.NamedMembers.{dependencies_named}
use Rattle.deno_graph_info.specs.Conversion.{dependencies_in}
use Rattle.deno_graph_json.specs.Data.{data_of, elements_data}
use Rattle.modinfo.proofs.StoredOverflow.{overflows_none, overflows_of, same_report}
use Rattle.modinfo.proofs.check.conversion.column_report.Goals as goal

pub returns-in-Some-clause-fault : goal.returns-in-Some-clause-fault
returns-in-Some-clause-fault c =
    let d = data_of c.args.value in
    let old = elements_data c.in-Some.dependencies in
    let is : dependencies_in d ≡ Some old = dependencies_named d ∙ sym c.in-Some.ensures in
    same_report c.first_overflow.result (overflows_of d old is) c.first_overflow.ensures.fault

pub returns-in-Some-clause-column : goal.returns-in-Some-clause-column
returns-in-Some-clause-column c =
    let d = data_of c.args.value in
    let old = elements_data c.in-Some.dependencies in
    let is : dependencies_in d ≡ Some old = dependencies_named d ∙ sym c.in-Some.ensures in
    rw is c.first_overflow.ensures.column

pub returns-in-None-clause-fault : goal.returns-in-None-clause-fault
returns-in-None-clause-fault c =
    let d = data_of c.args.value in
    let is : dependencies_in d ≡ None = dependencies_named d ∙ sym c.in-None.ensures in
    ((λ some. absurd (true≢false (sym some))), (λ over. absurd (overflows_none d is over)))
