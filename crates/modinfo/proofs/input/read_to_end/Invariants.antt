-- The bytes that were read come before the remaining bytes, and the chunk has room.
use Rattle.std.proofs.Common.{◌<◌, length}
use Rattle.std.specs.Io.KnownBytes.{Consumes}
use Rattle.modinfo.proofs.input.read_to_end.Given as goal

abbrev pub invariant-reads : goal.invariant-reads
invariant-reads g l = Consumes (g.R.Read.remaining l.initial.input) (g.R.Read.remaining l.input) l.bytes.items
    × (0 < length l.chunk)
