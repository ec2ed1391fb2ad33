use Rattle.modinfo_imports.proofs.PlainBytes.{parenthesis-turn}
use Rattle.modinfo_imports.proofs.plain_piece.open_parenthesis.Goals as goal

pub returns : goal.returns
returns c text at =
    rw (c.after_token.ensures, c.in_ok-push.ensures, c.in_ok-push-2.ensures, c.opening_of_parenthesis.ensures)
    (parenthesis-turn text c.args.plain c.args.end c.args.around.now c.args.parentheses.now at)
