use Rattle.std.proofs.lemmas.Result.{err_from_is_err_and}
use Rattle.deno_graph_json.specs.Data.{data_of, members_data}
use Rattle.modinfo.proofs.Modules.{no_modules, modules_answer}
use Rattle.modinfo.proofs.reach.read_modules.Goals as goal

-- The value is no object.
pub returns-in_err-members : goal.returns-in_err-members
returns-in_err-members c =
    let is = err_from_is_err_and c.from_residual.result c.from_residual.ensures.1 in
    rw (is.1, is.2) (no_modules (data_of c.args.modules) c.in_err-members.field-0.0
    c.in_err-members.ensures.1 c.in_err-members.ensures.2)

pub returns : goal.returns
returns c = modules_answer (data_of c.args.modules) (members_data c.in_ok-members.members)
    c.read_infos.result c.in_ok-members.ensures c.read_infos.ensures
