use Rattle.std.proofs.Common.{◌∙◌, sym}
use Rattle.modinfo.proofs.Written.{front_after, front_of_both, front_of_result, whole_of_result}
use Rattle.modinfo.proofs.output.print_line.Goals as goal

pub returns-then-is_ok : goal.returns-then-is_ok
returns-then-is_ok g c =
    let whole = whole_of_result _ _ _ _ (sym c.is_ok.ensures.value ∙ c.if-is_ok.true) c.write_front.ensures in
    rw (sym c.as_bytes.ensures.value)
    (front_after _ _ _ _ _ whole (front_of_result _ _ _ _ c.write_front-then-is_ok.ensures))

pub returns-else-is_ok : goal.returns-else-is_ok
returns-else-is_ok g c =
    rw (sym c.as_bytes.ensures.value)
    (front_of_both _ _ _ _ (front_of_result _ _ _ _ c.write_front.ensures))
