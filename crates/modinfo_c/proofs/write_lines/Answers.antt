use Rattle.std.proofs.Common.{refl}
use Rattle.modinfo_c.specs.Call.{answered, faulted}
use Rattle.modinfo_c.proofs.write_lines.Goals as goal

-- The lines were written.
pub returns-in-Ok : goal.returns-in-Ok
returns-in-Ok c = answered _ c.in-Ok.ensures (rw c.as_slice.ensures.value at c.put.ensures)

-- The name of the fault was written.
pub returns-in-Err : goal.returns-in-Err
returns-in-Err c = faulted _ refl c.put_name.ensures
