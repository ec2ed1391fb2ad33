use Rattle.std.proofs.Common.{◌≡◌, ◌∙◌, false, refl, rules, subst, sym, true}
use Rattle.std.proofs.lemmas.Option.{none-some}
use Rattle.modinfo.specs.Files.{IsFilesRun}
use Rattle.modinfo.specs.Files.IsFilesRun.{failed, printed}
use Rattle.modinfo.proofs.FilesPrinted.{texts_of}
use Rattle.modinfo.proofs.files.serve_files.Goals as goal

-- The words are others.
pub returns-in_default-clause-files : goal.returns-in_default-clause-files
returns-in_default-clause-files g c names asks =
    absurd (none-some _ (sym c.in_default.is ∙ (c.files_from_words.ensures names).1 asks))

-- The words ask for files.
pub returns-in-Ok-true-clause-wrong : goal.returns-in-Ok-true-clause-wrong
returns-in-Ok-true-clause-wrong g c none =
    absurd (none c.in-Some.names ((c.files_from_words.ensures c.in-Some.names).0 c.in-Some.is))

pub returns-in-Ok-false-clause-wrong : goal.returns-in-Ok-false-clause-wrong
returns-in-Ok-false-clause-wrong g c none =
    absurd (none c.in-Some.names ((c.files_from_words.ensures c.in-Some.names).0 c.in-Some.is))

pub returns-in-Err-clause-wrong : goal.returns-in-Err-clause-wrong
returns-in-Err-clause-wrong g c none =
    absurd (none c.in-Some.names ((c.files_from_words.ensures c.in-Some.names).0 c.in-Some.is))

-- Each file has information.
pub returns-in-Ok-true-clause-files : goal.returns-in-Ok-true-clause-files
returns-in-Ok-true-clause-files g c names asks =
    let same : c.in-Some.names ≡ names = cc (c.in-Some.is, (c.files_from_words.ensures names).1 asks) in
    subst (λ n. IsFilesRun n (texts_of c.args.words.now) (g.I.Read.remaining c.args.input.now)
    (g.W.Write.contents c.args.output.now) (g.W.Write.contents c.run_files.new.output)
    (g.E.Write.contents c.args.errors.now) (g.E.Write.contents c.args.errors.now) 0) same
    (printed true (rw c.in-Ok-true.field-0-test at c.in-Ok-true.ensures) refl (search rules))

-- A file has a fault.
pub returns-in-Ok-false-clause-files : goal.returns-in-Ok-false-clause-files
returns-in-Ok-false-clause-files g c names asks =
    let same : c.in-Some.names ≡ names = cc (c.in-Some.is, (c.files_from_words.ensures names).1 asks) in
    subst (λ n. IsFilesRun n (texts_of c.args.words.now) (g.I.Read.remaining c.args.input.now)
    (g.W.Write.contents c.args.output.now) (g.W.Write.contents c.run_files.new.output)
    (g.E.Write.contents c.args.errors.now) (g.E.Write.contents c.args.errors.now) 1) same
    (printed false (rw c.in-Ok-false.field-0-test at c.in-Ok-false.ensures) refl (search rules))

-- A fault of the run.
pub returns-in-Err-clause-files : goal.returns-in-Err-clause-files
returns-in-Err-clause-files g c names asks =
    let same : c.in-Some.names ≡ names = cc (c.in-Some.is, (c.files_from_words.ensures names).1 asks) in
    subst (λ n. IsFilesRun n (texts_of c.args.words.now) (g.I.Read.remaining c.args.input.now)
    (g.W.Write.contents c.args.output.now) (g.W.Write.contents c.run_files.new.output)
    (g.E.Write.contents c.args.errors.now) (g.E.Write.contents c.print_fault.new.errors) 1) same
    (failed c.in-Err.fault c.in-Err.ensures refl c.print_fault.ensures)
