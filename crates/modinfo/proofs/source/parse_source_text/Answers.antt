use Rattle.std.proofs.Common.{Err, ap}
use Rattle.std.proofs.lemmas.Result.{err_from_is_err_and}
use Rattle.deno_graph_json.specs.Data.{tape_data}
use Rattle.modinfo.proofs.Texts.{no_tape, no_value}
use Rattle.modinfo.proofs.source.parse_source_text.Goals as goal

-- The document isn't JSON, or an allocation failed.
pub returns-in_err-tape : goal.returns-in_err-tape
returns-in_err-tape c =
    let is = err_from_is_err_and c.from_residual.result c.from_residual.ensures.1 in
    rw (is.1, is.2) (no_tape c.args.text.now c.in_err-tape.field-0.0
    (λ offset same. c.in_err-tape.ensures.no_json offset (ap Err same)))

-- The JSON has no text, or an allocation failed.
pub returns-in_err-read_source_text : goal.returns-in_err-read_source_text
returns-in_err-read_source_text c =
    let error = rw c.root.ensures.json at c.in_err-read_source_text.ensures in
    let is = err_from_is_err_and c.from_residual-in_err-read_source_text.result
    c.from_residual-in_err-read_source_text.ensures.1 in
    rw (is.1, is.2) (no_value c.args.text.now (tape_data c.in_ok-tape.tape)
    c.in_err-read_source_text.field-0.0 c.in_ok-tape.ensures.json error)

-- The text is that of the document's value.
pub returns : goal.returns
returns c =
    let read = rw c.root.ensures.json at c.in_ok-read_source_text.ensures in
    (tape_data c.in_ok-tape.tape, c.in_ok-tape.ensures.json, read)
