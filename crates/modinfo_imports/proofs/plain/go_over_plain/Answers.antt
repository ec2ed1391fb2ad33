use Rattle.modinfo_imports.proofs.plain.go_over_plain.Goals as goal
use Rattle.modinfo_imports.specs.internal.Plains.Turns.{none}

pub returns-then-not-has_token-clause-turns : goal.returns-then-not-has_token-clause-turns
returns-then-not-has_token-clause-turns c is_typed = none
