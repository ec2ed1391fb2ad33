use Rattle.modinfo_literals.proofs.Chains.{Spells-unique, SpellsCooked-unique}
use Rattle.modinfo_literals.proofs.laws.literals_have_one_value.Goals as goal

pub returns-clause-string : goal.returns-clause-string
returns-clause-string c = Spells-unique

pub returns-clause-cooked : goal.returns-clause-cooked
returns-clause-cooked c = SpellsCooked-unique
