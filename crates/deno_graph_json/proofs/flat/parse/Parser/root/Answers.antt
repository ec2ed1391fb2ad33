use Rattle.std.proofs.Common.{[], refl, sym, subst}
use Rattle.deno_graph_json.specs.internal.Parsing.{NoneAhead}
use Rattle.deno_graph_json.proofs.ValueTokens.{none_begins}
use Rattle.deno_graph_json.proofs.flat.parse.Parser.root.Goals as goal

pub returns-in_err-first-clause-none : goal.returns-in_err-first-clause-none
returns-in_err-first-clause-none c offset e =
    subst (NoneAhead 127) (sym c.in_err-first.ensures.end) (none_begins 127 [] refl)
