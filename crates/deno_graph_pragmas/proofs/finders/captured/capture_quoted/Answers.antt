use Rattle.std.proofs.Common.{refl}
use Rattle.deno_graph_pragmas.proofs.Found.{length_front, IsCapturedAt-front}
use Rattle.deno_graph_pragmas.proofs.finders.captured.capture_quoted.Goals as goal

pub at_start_of-requires-clause-found : goal.at_start_of-requires-clause-found
at_start_of-requires-clause-found c =
    length_front _ _ _ c.utf8.rest c.in_ok-found.ensures.utf8 c.in_ok-found.ensures.front

pub returns-clause-found : goal.returns-clause-found
returns-clause-found c =
    let found = c.in_ok-found.ensures in
    let made = c.at_start_of.ensures in
    IsCapturedAt-front _ _ _ _ _ _ _ found.utf8 refl found.quote found.front made.text made.start made.end
