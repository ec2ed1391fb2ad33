use Rattle.std.proofs.Common.{rules}
use Rattle.std.specs.Char.{is_whitespace}
use Rattle.std.proofs.lemmas.Fn.{always_returns_same}
use Rattle.deno_graph_pragmas.proofs.TextSteps.{strip_prefix_one, strip_prefix_one-utf8}
use Rattle.deno_graph_pragmas.proofs.finders.scan.strip_white_space.Goals as goal

pub returns-clause-left : goal.returns-clause-left
returns-clause-left c = strip_prefix_one _ is_whitespace _ c.strip_prefix.result c.utf8.text
    (always_returns_same _ _ _ (λ a r f k. search rules)) c.strip_prefix.ensures.cases

pub returns-clause-utf8 : goal.returns-clause-utf8
returns-clause-utf8 c =
    strip_prefix_one-utf8 _ is_whitespace _ c.strip_prefix.result c.utf8.text
    (always_returns_same _ _ _ (λ a r f k. search rules)) c.strip_prefix.ensures.cases
