use Rattle.std.proofs.Common.{[], rules, unwrap_or}
use Rattle.std.proofs.lemmas.Result.{err_from_is_err_and}
use Rattle.std.specs.String.{string_bytes}
use Rattle.modinfo.specs.Run.{PrintsResult}
use Rattle.modinfo.specs.declared.fault.Fault.TheVariants.{OutOfMemory}
use Rattle.modinfo.proofs.Faults.{failed_read, read_apart, result_apart, run_fault, run_without_memory}
use Rattle.modinfo.proofs.Faults.{write_fault}
use Rattle.modinfo.proofs.Outputs.{front_left, nothing_left}
use Rattle.modinfo.proofs.Written.{known_or_none}
use Rattle.modinfo.proofs.program.run_document.Goals as goal

-- The input wasn't read.
pub returns-in_err-document : goal.returns-in_err-document
returns-in_err-document g c =
    let is = err_from_is_err_and c.from_residual.result c.from_residual.ensures.1 in
    let known = g.R.Read.remaining c.args.input.now in
    let document = unwrap_or known [] in
    let fault = c.in_err-document.field-0.0 in (
      document,
      known_or_none known,
      rw (is.1, is.2) (
        failed_read c.args.command document fault c.in_err-document.ensures,
        nothing_left (PrintsResult c.args.command document) _ fault
            (read_apart fault c.in_err-document.ensures),
      ),
    )

-- The document has no result.
pub returns-in_err-line : goal.returns-in_err-line
returns-in_err-line g c =
    let is = err_from_is_err_and c.from_residual-in_err-line.result c.from_residual-in_err-line.ensures.1 in
    let document = c.in_ok-document.document.items in
    let fault = c.in_err-line.field-0.0 in (
      document,
      c.in_ok-document.ensures,
      rw (is.1, is.2) (
        run_fault c.args.command document fault c.in_err-line.ensures,
        nothing_left (PrintsResult c.args.command document) _ fault
            (result_apart c.args.command document fault c.in_err-line.ensures),
      ),
    )

-- An allocation for the line feed failed.
pub returns-in_err-push : goal.returns-in_err-push
returns-in_err-push g c =
    let is = err_from_is_err_and c.from_residual-in_err-push.result c.from_residual-in_err-push.ensures.1 in
    let document = c.in_ok-document.document.items in (
      document,
      c.in_ok-document.ensures,
      rw (is.1, is.2) (
        run_without_memory c.args.command document,
        nothing_left (PrintsResult c.args.command document) _ OutOfMemory (λ wrote. wrote),
      ),
    )

-- A write failed.
pub returns-in_err-print : goal.returns-in_err-print
returns-in_err-print g c =
    let is = err_from_is_err_and c.from_residual-in_err-print.result c.from_residual-in_err-print.ensures.1 in
    let document = c.in_ok-document.document.items in
    let fault = c.in_err-print.field-0.0 in
    let failed = c.in_err-print.ensures in (
      document,
      c.in_ok-document.ensures,
      rw (is.1, is.2) (
        write_fault c.args.command document fault failed.0,
        front_left (PrintsResult c.args.command document) _ _ fault c.in_ok-line.field-0.is_passed
            c.as_bytes.result.now (string_bytes c.in_ok-line.field-0.line, c.in_ok-line.ensures, search rules)
            failed.0 failed.1,
      ),
    )

-- The line is the result and a line feed.
pub returns : goal.returns
returns g c = (
  c.in_ok-document.document.items,
  c.in_ok-document.ensures,
  (
    c.as_bytes.result.now,
    (string_bytes c.in_ok-line.field-0.line, c.in_ok-line.ensures, search rules),
    search rules,
  ),
)
