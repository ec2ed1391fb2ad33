use Rattle.deno_graph_pragmas.proofs.Captured.{attribute_in_quotes, pragma_in_quotes}
use Rattle.deno_graph_pragmas.proofs.finders.laws.quotes_stand_around.Goals as goal

pub returns-clause-attributes : goal.returns-clause-attributes
returns-clause-attributes c = λ name part. attribute_in_quotes name c.args.text.now part c.utf8.text

pub returns-clause-pragmas : goal.returns-clause-pragmas
returns-clause-pragmas c = λ name part. pragma_in_quotes name c.args.text.now part c.utf8.text
