use Rattle.std.proofs.Common.{Err, Some, ap, sym, ◌∙◌}
use Rattle.std.proofs.lemmas.Result.{err_from_is_err_and}
use Rattle.deno_graph_json.specs.Data.{data_of}
use Rattle.modinfo.proofs.Faults.{converts_text, no_converted_tape}
use Rattle.modinfo.proofs.convert.convert_text.Goals as goal

-- The text isn't JSON, or an allocation failed.
pub returns-in_err-tape : goal.returns-in_err-tape
returns-in_err-tape c =
    let is = err_from_is_err_and c.from_residual.result c.from_residual.ensures.1 in
    rw (is.1, is.2) (no_converted_tape c.args.text.now c.in_err-tape.field-0.0
    (λ offset same. c.in_err-tape.ensures.no_json offset (ap Err same)))

-- The value of the text is converted.
pub returns : goal.returns
returns c =
    converts_text c.args.text.now (data_of c.root.result) c.convert_value.result
    (c.in_ok-tape.ensures.json ∙ ap Some (sym c.root.ensures.json)) c.convert_value.ensures
