use Rattle.modinfo_document.proofs.Warned.{none_unspelled, warns_of_each}
use Rattle.modinfo_document.proofs.report.warnings.find_warnings.Goals as goal

pub returns : goal.returns
returns c =
    let document = c.args.document.now in
    let after = c.warn_of_literals.new.warnings in
    let each = warns_of_each document c.in_ok-warnings.warnings after c.in_ok-warnings.ensures
    c.in_ok-warn_of_literals.ensures in
    record { none = none_unspelled document after each; each = each }
