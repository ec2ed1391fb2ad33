-- The printed names of the faults of information.
use Rattle.std.specs.Prelude.{ℕ, List, codes}
use Rattle.deno_graph_info.specs.declared.analysis.fault.InfoFault.{InfoFault}
use Rattle.deno_graph_info.specs.declared.analysis.fault.InfoFault.TheVariants as info
use Rattle.deno_graph_info.specs.declared.conversion.fault.ConvertFault.{ConvertFault}
use Rattle.deno_graph_info.specs.declared.conversion.fault.ConvertFault.TheVariants as convert

-- the printed name of a fault in reading information
abbrev pub info_fault_name : InfoFault → List ℕ
info_fault_name info.Shape = codes "Shape"
info_fault_name info.Float = codes "Float"
info_fault_name info.OutOfMemory = codes "OutOfMemory"

-- the printed name of a fault of a conversion
abbrev pub convert_fault_name : ConvertFault → List ℕ
convert_fault_name convert.ColumnOverflow = codes "ColumnOverflow"
convert_fault_name convert.Float = codes "Float"
convert_fault_name convert.OutOfMemory = codes "OutOfMemory"
