use Rattle.std.proofs.Common.{ap, sym, subst, ◌∙◌, ◌++◌}
use Rattle.std.specs.String.{string_bytes}
use Rattle.modinfo.specs.Lines.{PrintsLine, fault_line, framed}
use Rattle.modinfo.specs.Lines.PrintsLine.{with_fault, with_result}
use Rattle.modinfo.proofs.LinesTaken.{refused_after}
use Rattle.modinfo.proofs.lines.put_printed.Goals as goal

pub returns-in-Ok-put_framed : goal.returns-in-Ok-put_framed
returns-in-Ok-put_framed c line printed = (
  framed c.args.command (string_bytes c.in-Ok.printed.line),
  with_result (string_bytes c.in-Ok.printed.line) (rw c.in-Ok.is at printed),
  c.in-Ok-put_framed.ensures ∙ ap (λ t. c.args.waiting.now.items ++ framed c.args.command t)
      c.as_str.ensures.value,
)

pub returns-in-Ok : goal.returns-in-Ok
returns-in-Ok c line printed =
    refused_after _ c.args.command line _ _ _ c.in-Err-put_framed.ensures c.put_out_of_memory.ensures

pub returns : goal.returns
returns c line printed = (
  fault_line c.in-Err.fault,
  subst (λ b. PrintsLine c.args.command line b (fault_line c.in-Err.fault)) (sym c.passes_without.ensures)
      (with_fault c.in-Err.fault (rw c.in-Err.is at printed)),
  c.in_ok-put_fault-in-Err.ensures,
)
