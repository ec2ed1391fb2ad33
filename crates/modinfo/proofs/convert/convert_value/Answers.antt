use Rattle.std.proofs.lemmas.Result.{err_from_is_err_and}
use Rattle.deno_graph_json.specs.Data.{data_of}
use Rattle.modinfo.proofs.Faults.{no_converted_value}
use Rattle.modinfo.proofs.convert.convert_value.Goals as goal

-- The value has a fault, or an allocation failed.
pub returns-in_err-converted_text : goal.returns-in_err-converted_text
returns-in_err-converted_text c =
    let is = err_from_is_err_and c.from_residual.result c.from_residual.ensures.1 in
    rw (is.1, is.2) (no_converted_value (data_of c.args.value) c.in_err-converted_text.field-0.0
    c.in_err-converted_text.ensures.err)

pub returns : goal.returns
returns c =
    let text = c.in_ok-converted_text.ensures.ok in
    (c.in_ok-converted_text.ensures.no_float, text.0, text.1, text.2, c.in_ok-converted_text.ensures.compact)
