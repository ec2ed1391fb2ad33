-- The offsets of the units so far, and their number.
use Rattle.std.proofs.Common.{◌≡◌, ◌-◌, ◌≤◌, length}
use Rattle.modinfo_estree.specs.Offsets.{unit_sizes}
use Rattle.modinfo_estree.specs.internal.Offsets.{HaveBytes, bytes_of_units}
use Rattle.modinfo_estree.specs.internal.Tables.{at_32nds}
use Rattle.modinfo_estree.proofs.offsets.byte_offsets.Given as goal

abbrev pub invariant-loop-end : goal.invariant-loop-end
invariant-loop-end l = record {
  offsets : l.offsets.items ≡ at_32nds (bytes_of_units (unit_sizes l.text)) l.units;
  fewer : l.units ≤ l.end;
  end : HaveBytes (unit_sizes l.text) l.units l.end;
}

abbrev pub decreases-loop-end : goal.decreases-loop-end
decreases-loop-end l = length l.bytes - l.end
