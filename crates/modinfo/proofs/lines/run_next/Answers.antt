use Rattle.std.proofs.Common.{◌==◌, take, sym, subst}
use Rattle.std.specs.Io.Buffered.{reader_buffer, reader_capacity, reader_inner}
use Rattle.modinfo.specs.Lines.{PrintsLine, fault_line}
use Rattle.modinfo.specs.declared.fault.Fault.TheVariants.{OutOfMemory}
use Rattle.modinfo.proofs.LinesSplit.{TakesLines-buffered}
use Rattle.modinfo.proofs.LinesTaken.{PrintsLine-out_of_memory}
use Rattle.modinfo.proofs.lines.run_next.Goals as goal

pub returns-in_ok-put_out_of_memory-in-Skipped : goal.returns-in_ok-put_out_of_memory-in-Skipped
returns-in_ok-put_out_of_memory-in-Skipped g c =
    let (line, taken) = rw c.in-Skipped.is at c.in_ok-line.ensures in
    let (passes, put) = c.in_ok-put_out_of_memory-in-Skipped.ensures in (
      line,
      fault_line OutOfMemory,
      taken,
      subst (λ b. PrintsLine c.args.command line b (fault_line OutOfMemory)) (sym passes)
          (PrintsLine-out_of_memory c.args.command line),
      put,
    )

-- The line is whole in the buffer.
pub returns-in-Some : goal.returns-in-Some
returns-in-Some g c =
    let (printed, one, put) = c.in_ok-passes.ensures in
    let reader = c.args.input.now in (
      take c.in-Some.length c.buffer-buffer.result.now,
      printed,
      TakesLines-buffered (reader_capacity reader == 0) c.buffer-buffer.result.now (reader_buffer reader)
          (g.R.Read.remaining (reader_inner reader)) _ c.in-Some.length c.buffer-buffer.ensures
          c.in-Some.ensures c.consume.ensures.bytes,
      one,
      put,
    )
