use Rattle.std.proofs.Common.{Err, Some, ap, sym, ◌∙◌}
use Rattle.std.proofs.lemmas.Result.{err_from_is_err_and}
use Rattle.deno_graph_json.specs.Data.{data_of}
use Rattle.modinfo.proofs.Faults.{asks_nothing, no_tape}
use Rattle.modinfo.proofs.reach.parse_question.Goals as goal

-- The text isn't JSON, or an allocation failed.
pub returns-in_err-tape : goal.returns-in_err-tape
returns-in_err-tape c =
    let is = err_from_is_err_and c.from_residual.result c.from_residual.ensures.1 in
    rw (is.1, is.2) (no_tape c.args.text.now c.in_err-tape.field-0.0
    (λ offset same. c.in_err-tape.ensures.no_json offset (ap Err same)))

-- The value can't be read.
pub returns-in_err-read_question : goal.returns-in_err-read_question
returns-in_err-read_question c =
    let is = err_from_is_err_and c.from_residual-in_err-read_question.result
    c.from_residual-in_err-read_question.ensures.1 in
    rw (is.1, is.2) (asks_nothing c.args.text.now (data_of c.root.result) c.in_err-read_question.field-0.0
    (c.in_ok-tape.ensures.json ∙ ap Some (sym c.root.ensures.json)) c.in_err-read_question.ensures.read)

-- The question is that of the text's value.
pub returns : goal.returns
returns c = (
  data_of c.root.result,
  c.in_ok-tape.ensures.json ∙ ap Some (sym c.root.ensures.json),
  c.in_ok-read_question.ensures.read,
)
