use Rattle.std.proofs.Common.{sym}
use Rattle.deno_graph_info.proofs.Outcomes.{types_found, no_column_found}
use Rattle.deno_graph_info.proofs.conversion.types.types_named.Goals as goal

pub returns-in_err-range-clause-err : goal.returns-in_err-range-clause-err
returns-in_err-range-clause-err c =
    no_column_found c.args.comments.now c.in-Some.comment.now c.in-Some-find_deno_types.found
    c.as_str.result.now _ _ (sym c.in-Some.ensures) c.as_str.ensures
    c.in-Some-find_deno_types.ensures.quoted c.in-Some-find_deno_types.ensures.quoteless
    c.in_err-range.ensures.err.0 c.in_err-range.ensures.err.1 c.from_residual.ensures.1

pub returns-clause-ok : goal.returns-clause-ok
returns-clause-ok c =
    types_found c.args.comments.now c.in-Some.comment.now c.in-Some-find_deno_types.found c.as_str.result.now
    c.in_ok-text.text c.in_ok-range.range (sym c.in-Some.ensures) c.as_str.ensures
    c.in-Some-find_deno_types.ensures.quoted c.in-Some-find_deno_types.ensures.quoteless
    c.in_ok-range.ensures.fits c.in_ok-text.ensures c.in_ok-range.ensures.lines c.in_ok-range.ensures.columns
