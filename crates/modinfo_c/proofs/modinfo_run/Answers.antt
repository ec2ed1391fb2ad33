use Rattle.std.proofs.Common.{◌∙◌, sym}
use Rattle.std.proofs.lemmas.Option.{same_Some}
use Rattle.modinfo_c.proofs.modinfo_run.Goals as goal

-- The command that was run has the number.
pub returns-in-Some-clause-run : goal.returns-in-Some-clause-run
returns-in-Some-clause-run c of is =
    rw (same_Some _ _ (sym c.in-Some.is ∙ c.from_number.ensures ∙ is)) at c.write_result.ensures
