-- The brace is the first, if there is one.
use Rattle.std.proofs.Common.{Some, None, lit<}
use Rattle.std.specs.Str.{chars}
use Rattle.deno_graph_jsdoc.specs.Characters.{closing_brace}
use Rattle.deno_graph_jsdoc.proofs.Parts.{brace_none, brace_read}
use Rattle.deno_graph_jsdoc.proofs.Texts.{split_chars}
use Rattle.deno_graph_jsdoc.proofs.grammar.parts.through_brace.Goals as goal

pub returns-in_err-rest : goal.returns-in_err-rest
returns-in_err-rest c =
    rw c.from_residual.ensures
    (brace_none (chars c.args.input.now)
    (split_chars closing_brace c.args.input.now None c.utf8.input (lit< tt) c.in_err-rest.ensures.cases))

pub returns : goal.returns
returns c =
    let split = split_chars closing_brace c.args.input.now (Some (c.in_ok-rest.field-0-0, c.in_ok-rest.rest))
    c.utf8.input (lit< tt) c.in_ok-rest.ensures.cases in
    brace_read (chars c.args.input.now) (chars c.in_ok-rest.field-0-0.now)
    (chars c.in_ok-rest.rest.now) split.0 split.1
