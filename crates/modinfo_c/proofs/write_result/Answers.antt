use Rattle.modinfo.specs.Run.{IsNoResult}
use Rattle.modinfo_c.specs.Call.{IsResultLine}
use Rattle.modinfo_c.proofs.LinesWritten.{answer_of}
use Rattle.modinfo_c.proofs.write_result.Goals as goal

-- The line is the result.
pub returns : goal.returns
returns c =
    answer_of (IsResultLine c.args.command c.args.document.now)
    (IsNoResult c.args.command c.args.document.now) c.print_line.result _ _ _ _ c.print_line.ensures
    c.write_line.ensures
