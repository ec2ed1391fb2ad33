use Rattle.std.proofs.Common.{◌∙◌, ap, sym}
use Rattle.modinfo_imports.proofs.PlainBytes.{closing_parenthesis-turn}
use Rattle.modinfo_imports.proofs.plain_piece.close_parenthesis.Goals as goal
use Rattle.modinfo_pieces.specs.Openings.{is_element, is_parenthesis}

pub returns : goal.returns
returns c text at =
    rw (
      c.after_token.ensures,
      c.pop-asked.ensures,
      c.before_after_parenthesis.ensures,
      c.innermost-inside.ensures,
    )
    (closing_parenthesis-turn text c.args.plain c.args.end c.is_element.result c.pop-opening.result
    c.args.around.now c.pop-opening.new.self c.args.parentheses.now at
    (ap is_parenthesis (sym c.innermost-inside.ensures)
    ∙ (sym c.is_parenthesis.ensures ∙ c.if-not-is_parenthesis.false))
    (sym c.is_method.ensures ∙ c.if-is_method.false) c.pop-opening.ensures
    (c.is_element.ensures ∙ ap is_element c.innermost.ensures))
