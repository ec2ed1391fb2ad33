-- Why a `ModuleInfo` can't be read.
use Rattle.std.specs.Prelude.{◌≡◌, false, true, None}
use Rattle.serde_json.specs.Data.{Data}
use Rattle.serde_json.specs.Written.{has_float}
use Rattle.deno_graph_json.specs.declared.error.ReadError.{ReadError}
use Rattle.deno_graph_json.specs.declared.error.ReadError.TheVariants as read
use Rattle.deno_graph_info.specs.declared.analysis.fault.InfoFault.{InfoFault}
use Rattle.deno_graph_info.specs.declared.analysis.fault.InfoFault.TheVariants.{Shape, Float, OutOfMemory}
use Rattle.deno_graph_info.specs.Json.ModuleInfo.{reads_info}

-- the fault of a reader's error
abbrev pub fault_of : ReadError → InfoFault
fault_of (read.Mismatch _) = Shape
fault_of read.OutOfMemory = OutOfMemory

-- why the data can't be read: they have a float; or they have no float, and aren't the JSON of a
-- `ModuleInfo`; or they have no float, and an allocation failed
abbrev pub IsInfoFault : Data → InfoFault → Type 0
IsInfoFault d Shape = (has_float d ≡ false) × (reads_info d ≡ None)
IsInfoFault d Float = has_float d ≡ true
IsInfoFault d OutOfMemory = has_float d ≡ false
