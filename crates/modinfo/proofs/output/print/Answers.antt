use Rattle.std.proofs.KnownBytes.{Appends-kept}
use Rattle.modinfo.proofs.Written.{whole_front}
use Rattle.modinfo.proofs.output.print.Goals as goal

-- All bytes were written, and the flush failed.
pub returns-in-Err : goal.returns-in-Err
returns-in-Err g c =
    let whole = c.in_ok-write_front.ensures in (
      c.of_write.ensures.write,
      whole_front _ _ _ (Appends-kept _ _ _ c.args.bytes.now whole c.flush.ensures.bytes),
    )
