use Rattle.std.proofs.Common.{◌∙◌, refl, sym}
use Rattle.std.proofs.KnownBytes.{Keeps-refl}
use Rattle.std.proofs.lemmas.Option.{none-some, same_Some}
use Rattle.modinfo.specs.Lines.IsLinesRun.{printed as lines_printed, failed as lines_failed}
use Rattle.modinfo.specs.Run.IsRun.{printed, failed}
use Rattle.modinfo.specs.declared.command_line.CommandLine.TheVariants.{Help, Version, Document, Lines, Files}
use Rattle.modinfo.proofs.program.serve.Goals as goal

-- Words that ask for no command line.

pub returns-in_default-clause-help : goal.returns-in_default-clause-help
returns-in_default-clause-help g c asks =
    absurd (none-some _ (sym c.in_default.is ∙ (c.from_words.ensures Help).1 asks))

pub returns-in_default-clause-version : goal.returns-in_default-clause-version
returns-in_default-clause-version g c asks =
    absurd (none-some _ (sym c.in_default.is ∙ (c.from_words.ensures Version).1 asks))

pub returns-in_default-clause-document : goal.returns-in_default-clause-document
returns-in_default-clause-document g c command asks =
    absurd (none-some _ (sym c.in_default.is ∙ (c.from_words.ensures (Document command)).1 asks))

pub returns-in_default-clause-lines : goal.returns-in_default-clause-lines
returns-in_default-clause-lines g c command asks =
    absurd (none-some _ (sym c.in_default.is ∙ (c.from_words.ensures (Lines command)).1 asks))

pub returns-in_default-clause-wrong : goal.returns-in_default-clause-wrong
returns-in_default-clause-wrong g c none =
    record { is = c.print_usage.ensures.0; unchanged = Keeps-refl _; usage_printed = c.print_usage.ensures.1 }

-- Words that ask for `files` alone are run as wrong ones.

pub returns-in_default-run_command_line-clause-help : goal.returns-in_default-run_command_line-clause-help
returns-in_default-run_command_line-clause-help g c asks =
    let is = same_Some _ _ (sym c.in-Some.is ∙ (c.from_words.ensures Help).1 asks) in
    absurd (c.in_default-run_command_line.ensures.help is)

pub returns-in_default-run_command_line-clause-version :
    goal.returns-in_default-run_command_line-clause-version
returns-in_default-run_command_line-clause-version g c asks =
    let is = same_Some _ _ (sym c.in-Some.is ∙ (c.from_words.ensures Version).1 asks) in
    absurd (c.in_default-run_command_line.ensures.version is)

pub returns-in_default-run_command_line-clause-document :
    goal.returns-in_default-run_command_line-clause-document
returns-in_default-run_command_line-clause-document g c command asks =
    let is = same_Some _ _ (sym c.in-Some.is ∙ (c.from_words.ensures (Document command)).1 asks) in
    absurd (c.in_default-run_command_line.ensures.document command is)

pub returns-in_default-run_command_line-clause-lines :
    goal.returns-in_default-run_command_line-clause-lines
returns-in_default-run_command_line-clause-lines g c command asks =
    let is = same_Some _ _ (sym c.in-Some.is ∙ (c.from_words.ensures (Lines command)).1 asks) in
    absurd (c.in_default-run_command_line.ensures.lines command is)

-- A line was printed.

pub returns-in-Ok-clause-help : goal.returns-in-Ok-clause-help
returns-in-Ok-clause-help g c asks =
    let is = same_Some _ _ (sym c.in-Some.is ∙ (c.from_words.ensures Help).1 asks) in
    let ran = rw (c.in-Ok.is, c.help_on.ensures) at c.in-Some-run_command_line.ensures.help is in
    printed c.in-Ok.passes ran.0 ran.1 c.status_of.ensures ran.2 (Keeps-refl _)

pub returns-in-Ok-clause-version : goal.returns-in-Ok-clause-version
returns-in-Ok-clause-version g c asks =
    let is = same_Some _ _ (sym c.in-Some.is ∙ (c.from_words.ensures Version).1 asks) in
    let ran = rw c.in-Ok.is at c.in-Some-run_command_line.ensures.version is in
    printed c.in-Ok.passes ran.0 ran.1 c.status_of.ensures ran.2 (Keeps-refl _)

pub returns-in-Ok-clause-document : goal.returns-in-Ok-clause-document
returns-in-Ok-clause-document g c command asks =
    let is = same_Some _ _ (sym c.in-Some.is ∙ (c.from_words.ensures (Document command)).1 asks) in
    let all = c.in-Some-run_command_line.ensures.document command is in
    let ran = rw c.in-Ok.is at all.2 in
    (all.0, all.1, printed c.in-Ok.passes ran.0 ran.1 c.status_of.ensures ran.2 (Keeps-refl _))

pub returns-in-Ok-clause-lines : goal.returns-in-Ok-clause-lines
returns-in-Ok-clause-lines g c command asks =
    let is = same_Some _ _ (sym c.in-Some.is ∙ (c.from_words.ensures (Lines command)).1 asks) in
    let ran = rw c.in-Ok.is at c.in-Some-run_command_line.ensures.lines command is in
    lines_printed c.in-Ok.passes ran c.status_of.ensures (Keeps-refl _)

pub returns-in-Ok-clause-files : goal.returns-in-Ok-clause-files
returns-in-Ok-clause-files g c names asks =
    let is = same_Some _ _ (sym c.in-Some.is ∙ (c.from_words.ensures (Files names)).1 asks) in
    absurd (none-some _ (sym (c.run_command_line.ensures.files names is) ∙ c.in-Some-run_command_line.is))

pub returns-in-Ok-clause-wrong : goal.returns-in-Ok-clause-wrong
returns-in-Ok-clause-wrong g c none =
    absurd (none c.in-Some.command_line ((c.from_words.ensures c.in-Some.command_line).0 c.in-Some.is))

-- There was a fault.

pub returns-in-Err-clause-help : goal.returns-in-Err-clause-help
returns-in-Err-clause-help g c asks =
    let is = same_Some _ _ (sym c.in-Some.is ∙ (c.from_words.ensures Help).1 asks) in
    let ran = rw (c.in-Err.is, c.help_on.ensures) at c.in-Some-run_command_line.ensures.help is in
    failed c.in-Err.fault ran.0 refl ran.1 c.print_fault.ensures

pub returns-in-Err-clause-version : goal.returns-in-Err-clause-version
returns-in-Err-clause-version g c asks =
    let is = same_Some _ _ (sym c.in-Some.is ∙ (c.from_words.ensures Version).1 asks) in
    let ran = rw c.in-Err.is at c.in-Some-run_command_line.ensures.version is in
    failed c.in-Err.fault ran.0 refl ran.1 c.print_fault.ensures

pub returns-in-Err-clause-document : goal.returns-in-Err-clause-document
returns-in-Err-clause-document g c command asks =
    let is = same_Some _ _ (sym c.in-Some.is ∙ (c.from_words.ensures (Document command)).1 asks) in
    let all = c.in-Some-run_command_line.ensures.document command is in
    let ran = rw c.in-Err.is at all.2 in
    (all.0, all.1, failed c.in-Err.fault ran.0 refl ran.1 c.print_fault.ensures)

pub returns-in-Err-clause-lines : goal.returns-in-Err-clause-lines
returns-in-Err-clause-lines g c command asks =
    let is = same_Some _ _ (sym c.in-Some.is ∙ (c.from_words.ensures (Lines command)).1 asks) in
    let ran = rw c.in-Err.is at c.in-Some-run_command_line.ensures.lines command is in
    lines_failed c.in-Err.fault ran refl c.print_fault.ensures

pub returns-in-Err-clause-files : goal.returns-in-Err-clause-files
returns-in-Err-clause-files g c names asks =
    let is = same_Some _ _ (sym c.in-Some.is ∙ (c.from_words.ensures (Files names)).1 asks) in
    absurd (none-some _ (sym (c.run_command_line.ensures.files names is) ∙ c.in-Some-run_command_line.is))

pub returns-in-Err-clause-wrong : goal.returns-in-Err-clause-wrong
returns-in-Err-clause-wrong g c none =
    absurd (none c.in-Some.command_line ((c.from_words.ensures c.in-Some.command_line).0 c.in-Some.is))
