-- The word, and then all white space.
use Rattle.std.specs.Str.{chars}
use Rattle.deno_graph_jsdoc.specs.JsDocGrammar.{Is}
use Rattle.deno_graph_jsdoc.proofs.Readings.{spaced_none, spaced}
use Rattle.deno_graph_jsdoc.proofs.grammar.parts.token.Goals as goal

pub returns-in_err-word : goal.returns-in_err-word
returns-in_err-word c = rw c.from_residual.ensures
    (spaced_none (λ (_ : Unit {0}). Is c.args.word.now) (chars c.args.input.now) c.in_err-word.ensures)

pub returns : goal.returns
returns c =
    rw c.skip_space.ensures
    (spaced (λ (_ : Unit {0}). Is c.args.word.now) (chars c.args.input.now)
    (chars c.in_ok-word.field-0.now) tt c.in_ok-word.ensures)
