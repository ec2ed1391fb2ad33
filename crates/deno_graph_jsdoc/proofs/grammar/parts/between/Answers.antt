-- The text between the marks.
use Rattle.std.proofs.Common.{Some, None}
use Rattle.std.specs.Str.{chars}
use Rattle.deno_graph_jsdoc.proofs.Parts.{unmarked_read, unclosed_read, between_read}
use Rattle.deno_graph_jsdoc.proofs.Texts.{no_mark_chars, mark_chars, split_chars}
use Rattle.deno_graph_jsdoc.proofs.grammar.parts.between.Goals as goal

pub returns-in_err-strip_prefix : goal.returns-in_err-strip_prefix
returns-in_err-strip_prefix c =
    rw c.from_residual.ensures
    (unmarked_read c.args.mark (chars c.args.input.now)
    (no_mark_chars c.args.mark c.args.input.now c.utf8.input c.in_err-strip_prefix.ensures.cases))

pub returns-in_err-text : goal.returns-in_err-text
returns-in_err-text c =
    let opened = mark_chars c.args.mark c.args.input.now c.in_ok-strip_prefix.field-0.now c.utf8.input
    c.in_ok-strip_prefix.ensures.cases in
    rw c.from_residual-in_err-text.ensures
    (unclosed_read c.args.mark (chars c.args.input.now) (chars c.in_ok-strip_prefix.field-0.now) opened.0
    (split_chars c.args.mark c.in_ok-strip_prefix.field-0.now None opened.1 c.requires
    c.in_err-text.ensures.cases))

pub returns : goal.returns
returns c =
    let opened = mark_chars c.args.mark c.args.input.now c.in_ok-strip_prefix.field-0.now c.utf8.input
    c.in_ok-strip_prefix.ensures.cases in
    let split = split_chars c.args.mark c.in_ok-strip_prefix.field-0.now
    (Some (c.in_ok-text.text, c.in_ok-text.rest)) opened.1 c.requires c.in_ok-text.ensures.cases in
    between_read c.args.mark (chars c.args.input.now) (chars c.in_ok-strip_prefix.field-0.now)
    (chars c.in_ok-text.text.now) (chars c.in_ok-text.rest.now)
    opened.0 split.0 split.1
