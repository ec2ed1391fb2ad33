use Rattle.std.proofs.Common.{◌∙◌, Some, ap, sym}
use Rattle.std.proofs.lemmas.Option.{none-some, same_Some}
use Rattle.modinfo.specs.declared.command_line.CommandLine.TheVariants.{Files}
use Rattle.modinfo.proofs.command_line.CommandLine.files_from_words.Goals as goal

-- The words are no command line.
pub returns-in_err-names : goal.returns-in_err-names
returns-in_err-names c names = (
  λ is. absurd (none-some _ (sym c.from_residual.ensures ∙ is)),
  λ asks. absurd (none-some _ (sym c.in_err-names.was ∙ (c.from_words.ensures (Files names)).1 asks)),
)

-- The words ask for files.
pub returns-in-Files : goal.returns-in-Files
returns-in-Files c names = (
  λ is. (c.from_words.ensures (Files names)).0
      (c.in_ok-names.was ∙ ap Some (c.in-Files.is ∙ ap Files (same_Some _ _ is))),
  λ asks. cc (c.in_ok-names.was, c.in-Files.is, (c.from_words.ensures (Files names)).1 asks),
)

-- The words are another command line.
pub returns-in_default : goal.returns-in_default
returns-in_default c names = (
  λ is. absurd (none-some _ is),
  λ asks. absurd (c.in_default.not-Files names
      (same_Some _ _ (sym c.in_ok-names.was ∙ (c.from_words.ensures (Files names)).1 asks))),
)
