use Rattle.std.proofs.Common.{rules}
use Rattle.std.proofs.lemmas.Fn.{always_returns_same}
use Rattle.deno_graph_pragmas.specs.Piece.{is_white_or_star}
use Rattle.deno_graph_pragmas.proofs.TextSteps.{trim_start_matches_skips}
use Rattle.deno_graph_pragmas.proofs.finders.scan.skip_white_space_and_stars.Goals as goal

pub returns : goal.returns
returns c =
    trim_start_matches_skips _ is_white_or_star _ c.trim_start_matches.result.now c.utf8.text
    (always_returns_same _ _ _ (λ a r f k. search rules)) c.trim_start_matches.ensures.matches
