-- The faults of the program: from the errors of the libraries, and to the printed names.
use Rattle.std.specs.Prelude.{ℕ, List, codes, Bool, false, true}
use Rattle.deno_graph_info.specs.FaultName.{convert_fault_name, info_fault_name}
use Rattle.deno_graph_source.specs.FaultName.{fault_name}
use Rattle.deno_graph_json.specs.declared.flat.error.TapeError.{TapeError}
use Rattle.deno_graph_json.specs.declared.flat.error.TapeError.TheVariants as tape
use Rattle.modinfo_document.specs.declared.error.DocumentError.{DocumentError}
use Rattle.modinfo_document.specs.declared.error.DocumentError.TheVariants as error
use Rattle.modinfo_source.specs.declared.error.TextError.{TextError}
use Rattle.modinfo_source.specs.declared.error.TextError.TheVariants as text
use Rattle.deno_graph_info.specs.declared.analysis.fault.InfoFault.{InfoFault}
use Rattle.deno_graph_info.specs.declared.conversion.fault.ConvertFault.{ConvertFault}
use Rattle.deno_graph_info.specs.declared.conversion.fault.ConvertFault.TheVariants as convert
use Rattle.deno_graph_json.specs.declared.error.ReadError.{ReadError}
use Rattle.deno_graph_json.specs.declared.error.ReadError.TheVariants as read
use Rattle.modinfo.specs.declared.reach.QuestionError.{QuestionError}
use Rattle.modinfo.specs.declared.fault.Fault.{Fault}
use Rattle.modinfo.specs.declared.fault.Fault.TheVariants.{Input, Json, Tree, Specifier, Syntax, Defect}
use Rattle.modinfo.specs.declared.fault.Fault.TheVariants.{Source, Convert, Info, Output, Closed, OutOfMemory}

-- The fault for an error of a flat list.
abbrev pub fault_of_tape : TapeError → Fault
fault_of_tape (tape.Json _) = Json
fault_of_tape tape.OutOfMemory = OutOfMemory

-- The fault for an error of a document.
abbrev pub fault_of_document : DocumentError → Fault
fault_of_document (error.Json _) = Json
fault_of_document (error.Tree _) = Tree
fault_of_document error.Specifier = Specifier
fault_of_document (error.Source fault) = Source fault
fault_of_document error.OutOfMemory = OutOfMemory

-- The fault of a text without a source.
abbrev pub fault_of_text : TextError → Fault
fault_of_text (text.Syntax diagnostic) = Syntax
fault_of_text (text.Defect position) = Defect
fault_of_text text.OutOfMemory = OutOfMemory

-- The fault for an error of the conversion.
abbrev pub fault_of_conversion : ConvertFault → Fault
fault_of_conversion convert.OutOfMemory = OutOfMemory
fault_of_conversion fault = Convert fault

-- The fault for an error of a document of `reach`.
abbrev pub fault_of_error : InfoFault → ReadError → Fault
fault_of_error fault (read.Mismatch _) = Info fault
fault_of_error fault read.OutOfMemory = OutOfMemory

abbrev pub fault_of_question : QuestionError → Fault
fault_of_question error = fault_of_error error.fault error.error

-- A write failed.
abbrev pub IsWriteFault : Fault → Type 0
IsWriteFault Output = Unit {0}
IsWriteFault Closed = Unit {0}
IsWriteFault fault = ⊥

-- Whether the reader of the output ended.
abbrev pub is_closed : Fault → Bool
is_closed Closed = true
is_closed fault = false

-- The printed name of a fault.
abbrev pub name_of_fault : Fault → List ℕ
name_of_fault Input = codes "Input"
name_of_fault Json = codes "Json"
name_of_fault Tree = codes "Tree"
name_of_fault Specifier = codes "Specifier"
name_of_fault Syntax = codes "Syntax"
name_of_fault Defect = codes "Defect"
name_of_fault (Source fault) = fault_name fault
name_of_fault (Convert fault) = convert_fault_name fault
name_of_fault (Info fault) = info_fault_name fault
name_of_fault Output = codes "Output"
name_of_fault Closed = codes "Output"
name_of_fault OutOfMemory = codes "OutOfMemory"
