use Rattle.std.proofs.Common.{◌∙◌, subst, sym}
use Rattle.std.proofs.KnownBytes.{Appends-nil}
use Rattle.modinfo.specs.Run.{AppendsFront}
use Rattle.modinfo.proofs.Written.{front_after, front_of_both, front_of_result, line_of_closed, line_of_fault}
use Rattle.modinfo.proofs.Written.{whole_of_result}
use Rattle.modinfo.proofs.output.print_fault.Goals as goal

-- The reader of the output ended.
pub returns-then-is_closed : goal.returns-then-is_closed
returns-then-is_closed g c =
    let closed = sym c.is_closed.ensures ∙ c.if-is_closed.true in
    subst (AppendsFront _ _) (sym (line_of_closed c.args.fault.now closed)) (0, Appends-nil _)

pub returns-then-is_ok : goal.returns-then-is_ok
returns-then-is_ok g c =
    let apart = sym c.is_closed.ensures ∙ c.if-is_closed.false in
    let whole = whole_of_result _ _ _ _ (sym c.is_ok.ensures.value ∙ c.if-is_ok.true) c.write_front.ensures in
    let name = rw c.name.ensures at c.print_line.ensures in
    subst (AppendsFront _ _) (sym (line_of_fault c.args.fault.now apart)) (front_after _ _ _ _ _ whole name)

pub returns-else-is_ok : goal.returns-else-is_ok
returns-else-is_ok g c =
    let apart = sym c.is_closed.ensures ∙ c.if-is_closed.false in
    subst (AppendsFront _ _) (sym (line_of_fault c.args.fault.now apart))
    (front_of_both _ _ _ _ (front_of_result _ _ _ _ c.write_front.ensures))
