use Rattle.std.proofs.Common.{refl, sym}
use Rattle.deno_graph_pragmas.specs.Finders.{quoteless_pragma}
use Rattle.deno_graph_pragmas.proofs.Barriers.{quoteless_pragma_apart}
use Rattle.deno_graph_pragmas.proofs.Found.{no_front, finds_none, finds_after, length_left}
use Rattle.deno_graph_pragmas.proofs.finders.types.find_quoteless_pragma.Goals as goal

pub returns-in_err-value : goal.returns-in_err-value
returns-in_err-value c =
    finds_none (quoteless_pragma c.args.name.now) _ _ c.from_residual.ensures
    (no_front (quoteless_pragma c.args.name.now) _
    (quoteless_pragma_apart c.args.name.now c.requires.start) refl (sym c.in_err-value.ensures.left))

pub capture_run-requires : goal.capture_run-requires
capture_run-requires c =
    let value = c.in_ok-value.ensures in
    length_left (quoteless_pragma c.args.name.now).front _ _ c.utf8.text value.utf8 (sym value.left)

pub returns : goal.returns
returns c =
    let value = c.in_ok-value.ensures in
    let run = c.capture_run.ensures in
    finds_after (quoteless_pragma c.args.name.now) _ _ _ c.utf8.text value.utf8
    (quoteless_pragma_apart c.args.name.now c.requires.start) refl (sym value.left) run.found run.none
