use Rattle.std.proofs.Common.{inl, inr}
use Rattle.std.proofs.lemmas.Result.{err_from_is_err_and}
use Rattle.modinfo_c.proofs.source_line.Goals as goal

-- The parts are no text.
pub returns-in_err-source : goal.returns-in_err-source
returns-in_err-source c =
    let is = err_from_is_err_and c.from_residual.result c.from_residual.ensures.1 in
    rw (is.1, is.2) (inl c.in_err-source.ensures)

-- The text has no information.
pub returns-in_err-line : goal.returns-in_err-line
returns-in_err-line c =
    let is = err_from_is_err_and c.from_residual-in_err-line.result c.from_residual-in_err-line.ensures.1 in
    rw (is.1, is.2) (inr (c.in_ok-source.source, c.in_ok-source.ensures, c.in_err-line.ensures))
