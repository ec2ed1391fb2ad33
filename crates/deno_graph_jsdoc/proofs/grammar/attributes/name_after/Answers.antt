-- The first of two names counts.
use Rattle.std.proofs.Common.{◌∷◌, [], sym, ap, ◌∙◌}
use Rattle.std.specs.Str.{chars}
use Rattle.deno_graph_jsdoc.specs.internal.Reading.{chars_of}
use Rattle.deno_graph_jsdoc.proofs.Words.{mode_name-kept, mode_name-first, is_mode-chars, chars_of-then_some}
use Rattle.deno_graph_jsdoc.proofs.grammar.attributes.name_after.Goals as goal

pub returns-in-Some : goal.returns-in-Some
returns-in-Some c = λ before is.
    mode_name-kept before (record { key = chars c.args.key.now; value = chars c.args.value.now } ∷ [])
    (chars c.in-Some.name.now) (sym (ap chars_of c.in-Some.is) ∙ is)

pub returns-in-None : goal.returns-in-None
returns-in-None c = λ before is.
    ap chars_of c.then_some.ensures ∙ chars_of-then_some c.eq.result c.args.value
    ∙ mode_name-first before (record { key = chars c.args.key.now; value = chars c.args.value.now })
    c.eq.result (sym (ap chars_of c.in-None.is) ∙ is)
    (c.eq.ensures ∙ sym (is_mode-chars c.args.key.now c.utf8.key))
