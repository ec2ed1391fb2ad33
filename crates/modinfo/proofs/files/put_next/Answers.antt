use Rattle.std.proofs.Common.{◌∙◌, arith}
use Rattle.modinfo.proofs.LinesTaken.{Takes-read}
use Rattle.modinfo.proofs.files.put_next.Goals as goal

pub returns-in-Ok : goal.returns-in-Ok
returns-in-Ok g c =
    let (printed, prints, put) = c.in_ok-put_file-in-Ok.ensures in (
      c.as_slice.result.now,
      printed,
      Takes-read c.args.end _ _ c.new-name.result.items c.read_until.new.buf.items c.as_slice.result.now
          c.new-name.ensures.items c.in-Ok.ensures.bytes (omega (
            arith,
            c.read_until.new.buf.ok.0,
            c.in-Ok.ensures.ok,
          ))
          (c.as_slice.ensures.value ∙ c.without_end-name.ensures) c.in-Ok.ensures.rest,
      prints,
      put,
    )
