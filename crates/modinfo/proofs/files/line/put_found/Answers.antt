use Rattle.std.proofs.Common.{sym, subst, true}
use Rattle.modinfo.specs.Files.{PrintsFile, info_line}
use Rattle.modinfo.specs.Files.PrintsFile.{with_fault, with_info}
use Rattle.modinfo.proofs.files.line.put_found.Goals as goal

pub returns-in_ok-put_info-in-Ok : goal.returns-in_ok-put_info-in-Ok
returns-in_ok-put_info-in-Ok c folder name found names =
    let (url, is_url, is_info, same) = rw c.in-Ok.is at found in (
      info_line c.args.specifier.now c.in-Ok.info,
      subst (λ text. PrintsFile folder name true (info_line text c.in-Ok.info)) (sym same)
          (with_info url c.in-Ok.info is_url is_info),
      c.in_ok-put_info-in-Ok.ensures,
    )

pub returns-in_ok-put_fault-in-Err : goal.returns-in_ok-put_fault-in-Err
returns-in_ok-put_fault-in-Err c folder name found names =
    let (message, is) = c.in_ok-put_fault-in-Err.ensures in (
      _,
      with_fault c.args.specifier.now message c.in-Err.fault.fault c.in-Err.fault.position names,
      is,
    )
