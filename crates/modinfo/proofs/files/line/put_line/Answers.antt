use Rattle.std.proofs.Common.{◌∙◌, ◌++◌, ap}
use Rattle.modinfo.specs.Files.{file_fault_line}
use Rattle.modinfo.specs.Files.PrintsFile.{with_fault}
use Rattle.modinfo.specs.declared.fault.Fault.TheVariants.{OutOfMemory}
use Rattle.modinfo.proofs.LinesTaken.{exits}
use Rattle.modinfo.proofs.files.line.put_line.Goals as goal

-- An allocation failed for the line, which appended nothing.
pub returns-in_ok-put_fault-in-Err : goal.returns-in_ok-put_fault-in-Err
returns-in_ok-put_fault-in-Err c folder name found names =
    let (message, is) = c.in_ok-put_fault-in-Err.ensures in
    let fault = c.out_of_memory.result in
    let line = file_fault_line c.args.specifier.now fault.fault message fault.position in (
      line,
      with_fault c.args.specifier.now message fault.fault fault.position names,
      is ∙ ap (λ l. l ++ line) (c.in-Err.ensures folder name found names),
    )

pub returns-in_err-put_fault-in-Err : goal.returns-in_err-put_fault-in-Err
returns-in_err-put_fault-in-Err c folder name found names =
    exits _ _ _ OutOfMemory c.from_residual.ensures.1
    (c.in_err-put_fault-in-Err.ensures ∙ c.in-Err.ensures folder name found names)
