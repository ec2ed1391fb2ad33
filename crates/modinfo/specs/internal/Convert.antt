-- Converting a value that was read.
use Rattle.std.specs.Prelude.{◌≡◌, ◌≢◌, ℕ, List, false}
use Rattle.serde_json.specs.Data.{Data}
use Rattle.serde_json.specs.Written.{has_float, IsInOrder}
use Rattle.deno_graph_info.specs.Conversion.{IsConverted, IsConvertFault}
use Rattle.deno_graph_info.specs.declared.conversion.fault.ConvertFault.TheVariants as convert
use Rattle.modinfo.specs.Answer.{IsCompact}
use Rattle.modinfo.specs.declared.fault.Fault.{Fault}
use Rattle.modinfo.specs.declared.fault.Fault.TheVariants.{Convert, OutOfMemory}

-- The compact JSON of the value to which a value without a float is converted.
abbrev pub IsConvertedValue : Data → List ℕ → Type 0
IsConvertedValue before text = (has_float before ≡ false) × (after : Data) × IsConverted before after
    × IsInOrder text after × IsCompact text

-- Why a value isn't converted: its fault, or a failed allocation.
abbrev pub IsNoConvertedValue : Data → Fault → Type 0
IsNoConvertedValue before (Convert inner) = (inner ≢ convert.OutOfMemory) × IsConvertFault before inner
IsNoConvertedValue before OutOfMemory = Unit {0}
IsNoConvertedValue before fault = ⊥
