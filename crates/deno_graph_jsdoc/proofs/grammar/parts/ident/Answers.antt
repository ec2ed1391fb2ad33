-- The name is the text up to the first character that ends it.
use Rattle.std.proofs.Common.{sym, ◌∙◌, rules, drop, length}
use Rattle.std.proofs.lemmas.List.Sorted.{answers_always}
use Rattle.std.specs.Str.{chars}
use Rattle.std.specs.Option.{unwrap_or}
use Rattle.deno_graph_jsdoc.specs.JsDocGrammar.{ends_ident}
use Rattle.deno_graph_jsdoc.proofs.Parts.{IsNameRun, IsNameRun-found, ident_read, ident_none}
use Rattle.deno_graph_jsdoc.proofs.Texts.{find_by_test, find_chars}
use Rattle.deno_graph_jsdoc.proofs.grammar.parts.ident.Goals as goal
use Rattle.deno_graph_jsdoc.proofs.grammar.parts.ident.Goals.{After-begins_ident}

run : (c : After-begins_ident) → IsNameRun (chars c.args.input.now) (chars c.range-name.result.now)
    (chars (drop c.unwrap_or-end.result c.args.input.now))
run c =
    let input = c.args.input.now in
    IsNameRun-found input c.range-name.result.now c.unwrap_or-end.result
    (unwrap_or c.find.result (length input)) c.unwrap_or-end.ensures c.range-name.ensures.value
    (find_chars ends_ident input c.find.result c.utf8.input
    (find_by_test ends_ident _ input c.find.result
    (answers_always _ _ _ (λ f a r g h. search rules)) c.find.ensures.cases))

pub returns-then-begins_ident : goal.returns-then-begins_ident
returns-then-begins_ident c =
    rw c.range_from.ensures.value
    (ident_read (chars c.args.input.now) (chars c.range-name.result.now)
    (chars (drop c.unwrap_or-end.result c.args.input.now))
    (run (goal.at.returns-then-begins_ident c).After-begins_ident)
    (sym c.begins_ident.ensures ∙ c.if-begins_ident.true))

pub returns-else-begins_ident : goal.returns-else-begins_ident
returns-else-begins_ident c =
    ident_none (chars c.args.input.now) (chars c.range-name.result.now)
    (chars (drop c.unwrap_or-end.result c.args.input.now))
    (run (goal.at.returns-else-begins_ident c).After-begins_ident)
    (sym c.begins_ident.ensures ∙ c.if-begins_ident.false)
