-- The text after the last brace has no brace.
use Rattle.std.proofs.Common.{lit<, subst, ap, rules}
use Rattle.std.proofs.lemmas.Str.{encodes-chars}
use Rattle.std.specs.Str.{IsUtf8, chars}
use Rattle.std.proofs.Common.{length}
use Rattle.deno_graph_jsdoc.specs.Characters.{closing_brace}
use Rattle.deno_graph_jsdoc.specs.internal.Braces.{IsUnclosed}
use Rattle.deno_graph_jsdoc.proofs.Braces.{IsUnclosed-last, IsUnclosed-none}
use Rattle.deno_graph_jsdoc.proofs.Texts.{rsplit_chars, Lacks-chars}
use Rattle.deno_graph_jsdoc.proofs.grammar.parts.unclosed_len.Goals as goal

pub returns-in-Some : goal.returns-in-Some
returns-in-Some c =
    let text = c.args.text.now in
    let after = c.in-Some.after.now in
    let utf8 : IsUtf8 after = search rules in
    let split = rsplit_chars closing_brace text c.in-Some.field-0-0.now after c.utf8.text
    (lit< tt) c.in-Some.ensures.cases in
    subst (IsUnclosed (chars text)) (ap length (encodes-chars after utf8))
    (IsUnclosed-last (chars text) (chars c.in-Some.field-0-0.now) (chars after) split.1 split.0)

pub returns-in-None : goal.returns-in-None
returns-in-None c =
    let text = c.args.text.now in
    subst (IsUnclosed (chars text)) (ap length (encodes-chars text c.utf8.text))
    (IsUnclosed-none (chars text) (Lacks-chars closing_brace text c.utf8.text c.in-None.ensures.cases))
