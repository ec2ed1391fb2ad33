-- The offset after so many units more.
use Rattle.std.proofs.Common.{◌+◌, ◌*◌, ◌/◌}
use Rattle.modinfo_estree.specs.Offsets.{unit_sizes}
use Rattle.modinfo_estree.specs.internal.Offsets.{HaveBytes}
use Rattle.modinfo_estree.proofs.offsets.byte_offset_from.Given as goal

abbrev pub invariant-loop : goal.invariant-loop
invariant-loop l = HaveBytes (unit_sizes l.text) (32 * (l.offset / 32) + l.counter) l.at
