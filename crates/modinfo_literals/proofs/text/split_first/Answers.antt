-- The text is its first character and the text after it.
use Rattle.std.proofs.Common.{◌∙◌, sym, ap, ◌++◌, encode_utf8}
use Rattle.std.proofs.lemmas.Str.{chars_past_char}
use Rattle.modinfo_literals.proofs.text.split_first.Goals as goal

pub returns-clause-cases : goal.returns-clause-cases
returns-clause-cases c =
    let first = c.in_ok-first.first in
    let steps = c.in_ok-first.ensures.steps in
    chars_past_char c.args.text.now c.as_str.result.now first c.utf8.text
    (sym c.chars-characters.ensures.rest ∙ steps.0
    ∙ ap (λ rest. encode_utf8 first ++ rest) (sym c.as_str.ensures))
