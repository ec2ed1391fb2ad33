use Rattle.deno_graph_pragmas.proofs.TextSteps.{trim_start_skips}
use Rattle.deno_graph_pragmas.proofs.finders.scan.skip_white_space.Goals as goal

pub returns : goal.returns
returns c = trim_start_skips _ _ c.utf8.text c.trim_start.ensures.trim
