use Rattle.std.proofs.Common.{◌∙◌, ap, arith, sym}
use Rattle.modinfo_imports.proofs.PlainBytes.{quote-is, string-turn}
use Rattle.modinfo_imports.proofs.plain_piece.after_string.Goals as goal
use Rattle.modinfo_imports.specs.internal.Plains.{is_code}

pub returns : goal.returns
returns c is is_a_quote parentheses =
    rw c.after_token.ensures (string-turn c.args.text.now c.args.plain c.args.quote c.in_ok-end.end
    c.args.around.now parentheses is (omega arith) (quote-is c.args.quote is_a_quote)
    (ap is_code (sym c.innermost-inside.ensures) ∙ (sym c.is_code.ensures ∙ c.if-not-is_code.false))
    (rw c.in_ok-end.was at c.string_end.ensures) c.if-end-plain.false c.if-end-text.false)
