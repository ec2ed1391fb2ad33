-- So many marks were pushed.
use Rattle.std.proofs.Common.{◌≡◌, ◌++◌, replicate}
use Rattle.modinfo_estree.proofs.marks.push_char.Given as goal

abbrev pub invariant-loop : goal.invariant-loop
invariant-loop l = l.marks.items ≡ l.fn.marks.items ++ replicate l.counter l.mark
