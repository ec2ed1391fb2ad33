use Rattle.std.proofs.Common.{◌∙◌, sym}
use Rattle.std.proofs.lemmas.Option.{same_Some}
use Rattle.modinfo_c.proofs.modinfo_run_lines.Goals as goal

-- The command that was run has the number.
pub returns-in-Some-clause-lines : goal.returns-in-Some-clause-lines
returns-in-Some-clause-lines c of is =
    rw (same_Some _ _ (sym c.in-Some.is ∙ c.from_number.ensures ∙ is)) at c.write_lines.ensures
