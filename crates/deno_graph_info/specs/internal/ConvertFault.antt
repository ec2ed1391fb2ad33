-- Why a part of a value can't be converted.
use Rattle.std.specs.Prelude.{◌≡◌, Bool, true}
use Rattle.deno_graph_info.specs.declared.conversion.fault.ConvertFault.{ConvertFault}
use Rattle.deno_graph_info.specs.declared.conversion.fault.ConvertFault.TheVariants.{ColumnOverflow, Float}
use Rattle.deno_graph_info.specs.declared.conversion.fault.ConvertFault.TheVariants.{OutOfMemory}

-- the fault is ColumnOverflow, and a column overflows; or an allocation failed
abbrev pub IsColumnFault : Type 0 → ConvertFault → Type 0
IsColumnFault Overflows ColumnOverflow = Overflows
IsColumnFault Overflows Float = ⊥
IsColumnFault Overflows OutOfMemory = Unit {0}

-- the fault is ColumnOverflow, and a column overflows; or it is Float, and the part has a float; or an
-- allocation failed
abbrev pub IsTextFault : Type 0 → Bool → ConvertFault → Type 0
IsTextFault Overflows has_float ColumnOverflow = Overflows
IsTextFault Overflows has_float Float = has_float ≡ true
IsTextFault Overflows has_float OutOfMemory = Unit {0}
