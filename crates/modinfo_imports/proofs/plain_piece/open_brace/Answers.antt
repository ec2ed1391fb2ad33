use Rattle.modinfo_imports.proofs.PlainBytes.{brace-turn}
use Rattle.modinfo_imports.proofs.plain_piece.open_brace.Goals as goal

pub returns : goal.returns
returns c text parentheses at =
    rw (c.after_token.ensures, c.in_ok-push.ensures)
    (brace-turn text c.args.plain c.args.end c.args.around.now parentheses at)
