use Rattle.deno_graph_jsdoc.proofs.UniqueImports.{one_declaration}
use Rattle.deno_graph_jsdoc.proofs.grammar.laws.one_declaration.Goals as goal

pub returns : goal.returns
returns c = one_declaration
