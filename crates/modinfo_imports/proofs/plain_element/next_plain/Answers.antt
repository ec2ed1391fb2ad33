use Rattle.std.proofs.Common.{true, refl}
use Rattle.modinfo_imports.proofs.PlainElements.{both_kept, turn-in}
use Rattle.modinfo_imports.proofs.plain_element.next_plain.Goals as goal

pub returns-then-plain : goal.returns-then-plain
returns-then-plain c =
    turn-in c.args.plain.in_element true c.args.text.now c.args.plain c.args.around.now
    c.next_in_element.new.around c.args.parentheses.now c.args.parentheses.now c.in_ok-next.next _
    c.if-plain.true (both_kept c.in_ok-next.next _ _ _ refl (c.in_ok-next.ensures c.args.parentheses.now))
