-- The bytes of a text name the same mode as its characters.
use Rattle.std.proofs.Common.{sym, ap, ◌∙◌, rules, option_and_then}
use Rattle.std.specs.Str.{IsUtf8}
use Rattle.deno_graph_base.specs.ResolutionMode.{mode_named}
use Rattle.deno_graph_jsdoc.specs.internal.Reading.{chars_of}
use Rattle.deno_graph_jsdoc.proofs.Words.{mode_named-chars}
use Rattle.deno_graph_jsdoc.proofs.grammar.attributes.mode_of.Goals as goal

pub returns : goal.returns
returns c =
    let utf8 : IsUtf8 c.in_ok-name.field-0.now = search rules in
    c.from_str.ensures.named ∙ sym (mode_named-chars c.in_ok-name.field-0.now utf8)
    ∙ ap (λ o. option_and_then mode_named (chars_of o)) (sym c.in_ok-name.was)
