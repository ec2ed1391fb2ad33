-- No byte between the quotes begins an escape or ends the literal.
use Rattle.std.proofs.Common.{Some, rules, sym}
use Rattle.std.specs.Str.{IsUtf8}
use Rattle.std.proofs.lemmas.Str.Pattern.{strip_suffix_char}
use Rattle.modinfo_literals.proofs.PlainTexts.{Spells-plain, quote_small}
use Rattle.modinfo_literals.proofs.plain.plain_text.Goals as goal

pub returns-else-has_special : goal.returns-else-has_special
returns-else-has_special c =
    let quote = c.in_ok-quote.quote in
    let opens = c.in_ok-quote.ensures in
    let utf8 : IsUtf8 c.in_ok-text.text.now = search rules in
    let closes = strip_suffix_char quote c.in_ok-quote.inside.now
    (Some c.in_ok-text.text) c.in_ok-text.ensures.cases
    (quote_small quote opens.0) in
    Spells-plain c.args.slice.now c.in_ok-quote.inside.now c.in_ok-text.text.now quote opens.0 opens.1 utf8
    closes
    (sym c.if-has_special.ensures)
