-- A quoted text, or else an identifier.
use Rattle.std.specs.Str.{chars}
use Rattle.deno_graph_jsdoc.specs.internal.Reading.{rest_and_text}
use Rattle.deno_graph_jsdoc.proofs.Attributes.{key_quoted, key_named}
use Rattle.deno_graph_jsdoc.proofs.grammar.attributes.key.Goals as goal

pub returns-in-Some : goal.returns-in-Some
returns-in-Some c = key_quoted (chars c.args.input.now) (chars c.in-Some.rest.now)
    (chars c.in-Some.text.now) c.in-Some.ensures

pub returns-in-None : goal.returns-in-None
returns-in-None c =
    key_named (chars c.args.input.now) (rest_and_text c.ident.result) c.in-None.ensures c.ident.ensures
