-- The part is one of all parts.
use Rattle.std.proofs.Common.{map, sym}
use Rattle.modinfo_imports.specs.Nodes.{part_claim}
use Rattle.modinfo_source.proofs.PartPieces.{contains-mapped}
use Rattle.modinfo_source.proofs.tree.part_at.Goals as goal

pub returns-in_ok-cooked_part-in-Some : goal.returns-in_ok-cooked_part-in-Some
returns-in_ok-cooked_part-in-Some c =
    let claim = part_claim c.args.text.now in
    let lookup = c.in-Some.ensures.lookup.3 in
    c.in_ok-cooked_part-in-Some.ensures (map claim c.args.all_parts.now)
    (contains-mapped claim c.args.all_parts.now c.args.number c.in-Some.range.now lookup.0
    (sym (lookup.1 c.in-Some.range.now)))
