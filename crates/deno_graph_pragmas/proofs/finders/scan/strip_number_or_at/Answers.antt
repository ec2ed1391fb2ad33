use Rattle.std.proofs.Common.{refl}
use Rattle.deno_graph_pragmas.specs.Piece.{is_number_or_at}
use Rattle.deno_graph_pragmas.proofs.TextSteps.{strip_prefix_one, strip_prefix_one-utf8}
use Rattle.deno_graph_pragmas.proofs.finders.scan.strip_number_or_at.Goals as goal

pub returns-clause-left : goal.returns-clause-left
returns-clause-left c =
    strip_prefix_one _ is_number_or_at _ c.strip_prefix.result c.utf8.text
    (λ _. refl) c.strip_prefix.ensures.cases

pub returns-clause-utf8 : goal.returns-clause-utf8
returns-clause-utf8 c =
    strip_prefix_one-utf8 _ is_number_or_at _ c.strip_prefix.result c.utf8.text
    (λ _. refl) c.strip_prefix.ensures.cases
