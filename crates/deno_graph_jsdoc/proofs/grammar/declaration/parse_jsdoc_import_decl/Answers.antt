-- The word, and then the rest of a declaration, whose range is counted from before the word.
use Rattle.std.proofs.Common.{Some, subst, rules}
use Rattle.std.specs.Str.{IsUtf8, chars}
use Rattle.deno_graph_jsdoc.specs.JsDocGrammar.{Anything}
use Rattle.deno_graph_jsdoc.specs.JsDocImport.{IsDeclaration}
use Rattle.deno_graph_jsdoc.specs.internal.Reading.{rest_and_import, Reads, rest_of}
use Rattle.deno_graph_jsdoc.proofs.Declarations.{AtWord, no_word, after_word}
use Rattle.deno_graph_jsdoc.proofs.Counted.{counted_parses, end_fits}
use Rattle.deno_graph_jsdoc.proofs.grammar.declaration.parse_jsdoc_import_decl.Goals as goal
use Rattle.deno_graph_jsdoc.proofs.grammar.declaration.parse_jsdoc_import_decl.Goals.{In_ok-after}

at_word : (c : In_ok-after) → Reads Anything AtWord (chars c.args.input.now)
    (Some (chars c.in_ok-after.after.now, tt))
at_word c = subst (λ result. Reads Anything AtWord (chars c.args.input.now) (rest_of result))
    c.in_ok-after.ensures.ok_part c.word.ensures

pub returns-in_err-after-clause-only : goal.returns-in_err-after-clause-only
returns-in_err-after-clause-only c = λ import rest begins.
    absurd (no_word (chars c.args.input.now)
    (subst (λ result. Reads Anything AtWord (chars c.args.input.now) (rest_of result))
    c.in_err-after.ensures.ok_part c.word.ensures) import rest begins)

pub counted_from-requires-clause-end : goal.counted_from-requires-clause-end
counted_from-requires-clause-end c =
    let start = at_word (goal.at.counted_from-requires-clause-end c).In_ok-after in
    let utf8 : IsUtf8 c.in_ok-after.after.now = search rules in
    end_fits c.args.input.now c.in_ok-after.after.now c.utf8.input utf8 start.0

pub returns-clause-found : goal.returns-clause-found
returns-clause-found c =
    let start = at_word (goal.at.returns-clause-found c).In_ok-after in
    let utf8 : IsUtf8 c.in_ok-after.after.now = search rules in
    (counted_parses IsDeclaration c.args.input.now c.in_ok-after.after.now c.after_import.result
    c.counted_from.result _ _ c.utf8.input utf8 start.0
    (after_word (chars c.args.input.now) (chars c.in_ok-after.after.now) start
    (rest_and_import c.after_import.result) c.after_import.ensures.parsed) c.counted_from.ensures.read
    c.ok_or-2.ensures.value).0

pub returns-clause-only : goal.returns-clause-only
returns-clause-only c =
    let start = at_word (goal.at.returns-clause-only c).In_ok-after in
    let utf8 : IsUtf8 c.in_ok-after.after.now = search rules in
    (counted_parses IsDeclaration c.args.input.now c.in_ok-after.after.now c.after_import.result
    c.counted_from.result _ _ c.utf8.input utf8 start.0
    (after_word (chars c.args.input.now) (chars c.in_ok-after.after.now) start
    (rest_and_import c.after_import.result) c.after_import.ensures.parsed) c.counted_from.ensures.read
    c.ok_or-2.ensures.value).1
