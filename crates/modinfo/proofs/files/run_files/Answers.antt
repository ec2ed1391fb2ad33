use Rattle.modinfo.proofs.FilesPrinted.{named_files, names_after, no_files, texts_of}
use Rattle.modinfo.proofs.LinesTaken.{exits}
use Rattle.modinfo.proofs.files.run_files.Goals as goal

pub returns-in_err-folder : goal.returns-in_err-folder
returns-in_err-folder g c =
    exits _ _ _ c.in_err-folder.field-0.0 c.from_residual.ensures.1
    (no_files c.args.names (texts_of c.args.words.now) (g.I.Read.remaining c.args.input) _)

pub returns-in-Arguments : goal.returns-in-Arguments
returns-in-Arguments g c =
    rw c.in-Arguments.is (named_files c.print_named.result _ (texts_of c.after_first.result.now)
    (texts_of c.args.words.now) (g.I.Read.remaining c.args.input) _ _
    (names_after c.args.words.now c.after_first.result.now c.after_first.ensures) c.print_named.ensures)
