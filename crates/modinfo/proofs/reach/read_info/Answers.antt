use Rattle.std.proofs.lemmas.Result.{err_from_is_err_and}
use Rattle.deno_graph_json.specs.Data.{data_of}
use Rattle.deno_graph_json.proofs.Floats.{no_float_found}
use Rattle.modinfo.proofs.Modules.{float_error, shape_error_of, stored_info}
use Rattle.modinfo.proofs.reach.read_info.Goals as goal

-- The value has a float, or an allocation failed.
pub returns-in-Err : goal.returns-in-Err
returns-in-Err c =
    float_error (data_of c.args.value) c.in-Err.error c.in-Err.ensures.read c.in-Err.ensures.expected

-- The value has another form, or an allocation failed.
pub returns-in_err-from_json : goal.returns-in_err-from_json
returns-in_err-from_json c =
    let is = err_from_is_err_and c.from_residual.result c.from_residual.ensures.1 in
    rw (is.1, is.2) (shape_error_of (data_of c.args.value) c.in_err-from_json.field-0.0
    (no_float_found _ c.in_default.ensures.read) c.in_err-from_json.ensures)

pub returns : goal.returns
returns c = stored_info (data_of c.args.value) c.in_ok-from_json.field-0
    (no_float_found _ c.in_default.ensures.read) c.in_ok-from_json.ensures
