use Rattle.std.proofs.Common.{◌∙◌, ℕ, ap, subst, sym}
use Rattle.modinfo_imports.proofs.PlainBytes.{angle-turn}
use Rattle.modinfo_imports.proofs.plain_piece.after_angle.Goals as goal
use Rattle.modinfo_imports.specs.internal.Plains.{IsByteAt, is_code}

pub returns-then-is_code : goal.returns-then-is_code
returns-then-is_code c text parentheses here is =
    rw c.after_token.ensures (angle-turn text c.args.plain c.args.byte c.args.end c.args.around.now
    parentheses
    here is (ap is_code (sym c.innermost.ensures) ∙ (sym c.is_code.ensures ∙ c.if-is_code.true)))

pub returns-then-byte-eq62 : goal.returns-then-byte-eq62
returns-then-byte-eq62 c text parentheses here is =
    c.end_tag.ensures text parentheses
    (subst (λ (b : ℕ). IsByteAt text c.args.plain b c.args.end) c.if-byte-eq62.true here)
