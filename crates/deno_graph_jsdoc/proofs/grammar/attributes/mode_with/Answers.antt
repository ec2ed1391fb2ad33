-- The first of two modes counts.
use Rattle.std.proofs.Common.{sym, ap, ◌∙◌, option_and_then}
use Rattle.std.specs.Str.{chars}
use Rattle.deno_graph_base.specs.ResolutionMode.{mode_named}
use Rattle.deno_graph_jsdoc.specs.internal.Reading.{chars_of}
use Rattle.deno_graph_jsdoc.proofs.Words.{mode_name-kept, mode_name-later}
use Rattle.deno_graph_jsdoc.proofs.grammar.attributes.mode_with.Goals as goal

pub returns-in-Some : goal.returns-in-Some
returns-in-Some c = λ before others named _.
    c.mode_of.ensures
    ∙ ap (option_and_then mode_named)
    (ap chars_of c.in-Some.is
    ∙ mode_name-kept before others (chars c.in-Some.field-0.now) (sym (ap chars_of c.in-Some.is) ∙ named))

pub returns-in-None : goal.returns-in-None
returns-in-None c = λ before others named is.
    is ∙ ap (option_and_then mode_named)
    (mode_name-later before others (sym (ap chars_of c.in-None.is) ∙ named))
