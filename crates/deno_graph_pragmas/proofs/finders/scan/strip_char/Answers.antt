use Rattle.deno_graph_pragmas.proofs.TextSteps.{strip_prefix_char, strip_prefix_char-utf8}
use Rattle.deno_graph_pragmas.proofs.finders.scan.strip_char.Goals as goal

pub returns-clause-left : goal.returns-clause-left
returns-clause-left c =
    strip_prefix_char c.args.c _ c.strip_prefix.result c.utf8.text c.strip_prefix.ensures.cases

pub returns-clause-utf8 : goal.returns-clause-utf8
returns-clause-utf8 c =
    strip_prefix_char-utf8 c.args.c _ c.strip_prefix.result c.utf8.text c.strip_prefix.ensures.cases
