use Rattle.std.proofs.Common.{◌∙◌, arith}
use Rattle.modinfo_imports.proofs.PlainBytes.{quote-is}
use Rattle.modinfo_imports.proofs.PlainTags.{attribute-turn}
use Rattle.modinfo_imports.proofs.plain_tag.after_attribute.Goals as goal

pub returns : goal.returns
returns c is is_a_quote around parentheses inside =
    rw c.after_token.ensures (attribute-turn c.args.text.now c.args.plain c.args.quote c.in_ok-end.end
    around parentheses is (omega arith) (quote-is c.args.quote is_a_quote)
    (inside ∙ c.is_tag.ensures c.if-not-is_tag.false) (c.is_equal.ensures c.if-not-is_equal.false)
    (rw c.in_ok-end.was at c.jsx_string_end.ensures) c.if-end-plain.false c.if-end-text.false)
