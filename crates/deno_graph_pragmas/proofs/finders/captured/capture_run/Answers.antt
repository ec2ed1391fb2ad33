use Rattle.std.proofs.Common.{[], ap, refl, sym}
use Rattle.std.specs.Char.{is_not_whitespace}
use Rattle.std.specs.Option.{option_and_then}
use Rattle.deno_graph_pragmas.specs.internal.Reading.{after_pieces}
use Rattle.deno_graph_pragmas.proofs.Found.{length_front, IsCapturedAt-front}
use Rattle.deno_graph_pragmas.proofs.Runs.{after_some-nonempty, after_some-empty}
use Rattle.deno_graph_pragmas.proofs.finders.captured.capture_run.Goals as goal

pub at_start_of-requires-clause-found : goal.at_start_of-requires-clause-found
at_start_of-requires-clause-found c =
    length_front _ _ _ c.utf8.rest c.before_white_space-found.utf8 c.before_white_space-found.ensures

pub returns-clause-found : goal.returns-clause-found
returns-clause-found c =
    let found = c.before_white_space-found in
    let made = c.at_start_of.ensures in
    IsCapturedAt-front _ _ _ _ _ _ _ found.utf8 (after_some-nonempty is_not_whitespace _ _ found.utf8
    found.ensures (sym c.if-is_empty.ensures)) refl found.ensures made.text made.start made.end

pub returns-then-is_empty-clause-none : goal.returns-then-is_empty-clause-none
returns-then-is_empty-clause-none c = λ _.
    ap (option_and_then (after_pieces [])) (after_some-empty is_not_whitespace _ _
    c.before_white_space-found.ensures (sym c.if-is_empty.ensures))
