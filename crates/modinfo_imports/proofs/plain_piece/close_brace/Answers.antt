use Rattle.std.proofs.Common.{◌∙◌, ap, sym}
use Rattle.modinfo_imports.proofs.PlainBytes.{closing_brace-turn}
use Rattle.modinfo_imports.proofs.plain_piece.close_brace.Goals as goal
use Rattle.modinfo_pieces.specs.Openings.{is_brace, is_element}

pub returns : goal.returns
returns c text parentheses at =
    rw c.after_token.ensures (closing_brace-turn text c.args.plain c.args.end c.is_element.result
    c.pop-opening.result c.args.around.now c.pop-opening.new.self parentheses at
    (ap is_brace (sym c.innermost.ensures) ∙ (sym c.is_brace.ensures ∙ c.if-not-is_brace.false))
    c.pop-opening.ensures (c.is_element.ensures ∙ ap is_element c.innermost-2.ensures))
