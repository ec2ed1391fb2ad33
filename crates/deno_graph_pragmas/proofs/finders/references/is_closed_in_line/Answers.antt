use Rattle.std.proofs.Common.{codes}
use Rattle.std.proofs.lemmas.Str.Pattern.{contains_text}
use Rattle.deno_graph_pragmas.proofs.Lines.{closed_in_line}
use Rattle.deno_graph_pragmas.proofs.finders.references.is_closed_in_line.Goals as goal

pub returns : goal.returns
returns c =
    closed_in_line c.args.text.now c.first_line.result.now
    c.contains.result c.first_line.utf8 c.first_line.ensures
    (contains_text c.contains.result (codes "/>") c.first_line.result.now c.contains.ensures.cases)
