use Rattle.modinfo_imports.proofs.PlainBytes.{plain_byte-turn}
use Rattle.modinfo_imports.proofs.plain_piece.after_byte.Goals as goal

pub returns : goal.returns
returns c text byte around parentheses at less is before_is =
    rw c.after_token.ensures (plain_byte-turn text c.args.plain byte c.args.end c.args.before around
    parentheses
    less at is before_is)
