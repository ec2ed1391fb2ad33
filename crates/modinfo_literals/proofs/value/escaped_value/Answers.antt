-- The elements end where the literal does, or the literal has another end.
use Rattle.modinfo_literals.proofs.Values.{Spells-none}
use Rattle.modinfo_literals.proofs.value.escaped_value.Goals as goal

pub returns : goal.returns
returns c =
    let opens = c.in-Some.ensures in
    Spells-none c.args.slice.now _ _ _ c.in-Some.quote opens.0 opens.1 c.in_ok-read.ensures
    c.if-is_alone.ensures
