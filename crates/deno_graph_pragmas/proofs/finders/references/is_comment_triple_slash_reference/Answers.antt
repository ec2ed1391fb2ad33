use Rattle.std.proofs.Common.{sym}
use Rattle.deno_graph_pragmas.proofs.References.{reference_iff, no_reference}
use Rattle.deno_graph_pragmas.proofs.finders.references.is_comment_triple_slash_reference.Goals as goal

pub returns-in-Some : goal.returns-in-Some
returns-in-Some c =
    reference_iff _ _ c.is_closed_in_line.result (sym c.in-Some.ensures.left) c.is_closed_in_line.ensures

pub returns-in-None : goal.returns-in-None
returns-in-None c = no_reference _ (sym c.in-None.ensures.left)
