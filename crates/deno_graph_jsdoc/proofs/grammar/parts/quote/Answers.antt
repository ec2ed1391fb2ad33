-- The marks are of one kind.
use Rattle.std.specs.Str.{chars}
use Rattle.deno_graph_jsdoc.specs.internal.Reading.{rest_and_text}
use Rattle.deno_graph_jsdoc.proofs.Parts.{quote_double, quote_single}
use Rattle.deno_graph_jsdoc.proofs.grammar.parts.quote.Goals as goal

pub returns-in-Some : goal.returns-in-Some
returns-in-Some c = quote_double (chars c.args.input.now) (chars c.in-Some.rest.now)
    (chars c.in-Some.text.now) c.in-Some.ensures

pub returns-in-None : goal.returns-in-None
returns-in-None c = quote_single (chars c.args.input.now)
    (rest_and_text c.between-in-None.result) c.in-None.ensures c.between-in-None.ensures
