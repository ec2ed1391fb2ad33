-- Failures to read the input.
use Rattle.modinfo.specs.declared.fault.Fault.{Fault}
use Rattle.modinfo.specs.declared.fault.Fault.TheVariants.{Input, OutOfMemory}

-- A read or an allocation failed.
abbrev pub IsReadFailure : Fault → Type 0
IsReadFailure Input = Unit {0}
IsReadFailure OutOfMemory = Unit {0}
IsReadFailure fault = ⊥
