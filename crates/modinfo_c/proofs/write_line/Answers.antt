use Rattle.std.proofs.Common.{MatchResult, string_bytes, subst, sym}
use Rattle.modinfo.specs.Fault.{name_of_fault}
use Rattle.modinfo_c.specs.Call.{IsLeft}
use Rattle.modinfo_c.proofs.write_line.Goals as goal

-- The line was written.
pub returns-in-Ok : goal.returns-in-Ok
returns-in-Ok c =
    subst (λ line.
    MatchResult line
    (λ text. IsLeft (string_bytes text) 0 c.args.answer.now c.put.new.answer c.put.new.length c.put.result)
    (λ fault.
    IsLeft (name_of_fault fault) 1 c.args.answer.now c.put.new.answer c.put.new.length c.put.result))
    (sym c.in-Ok.is) (rw c.as_bytes.ensures.value at c.put.ensures)
