use Rattle.modinfo_imports.proofs.PlainElements.{text-turn}
use Rattle.modinfo_imports.proofs.plain_element.after_text.Goals as goal

pub returns : goal.returns
returns c around parentheses is =
    rw c.after_token.ensures (text-turn c.args.text.now c.args.plain c.jsx_text_end-end.result around
    parentheses is c.jsx_text_end-end.ensures c.if-end-plain.false c.if-end-text.false)
