use Rattle.std.proofs.Common.{arith}
use Rattle.modinfo.proofs.LinesTaken.{Takes-read}
use Rattle.modinfo.proofs.lines.next_line.Goals as goal

pub returns-in-Ok : goal.returns-in-Ok
returns-in-Ok g c =
    Takes-read 10 _ _ c.new-line.result.items c.read_until.new.buf.items c.without_end.result.items
    c.new-line.ensures.items c.in-Ok.ensures.bytes (omega (
      arith,
      c.read_until.new.buf.ok.0,
      c.in-Ok.ensures.ok,
    ))
    c.without_end.ensures c.in-Ok.ensures.rest
