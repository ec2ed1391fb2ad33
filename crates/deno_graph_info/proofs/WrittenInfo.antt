-- The value that `to_value` returns is read back, and has no float.
use Rattle.std.proofs.Common.{◌≡◌, false, Some, Result, Ok, Err, IfOk, OnOk, ap, ◌∙◌}
use Rattle.serde_json.specs.declared.value.Value.{Value}
use Rattle.serde_json.specs.View.{view}
use Rattle.serde_json.specs.Written.{has_float}
use Rattle.deno_graph_info.specs.declared.analysis.module_info.ModuleInfo.{ModuleInfo}
use Rattle.deno_graph_info.specs.Json.ModuleInfo.{IsHeldInfo, json_of_info, reads_info}
use Rattle.deno_graph_info.proofs.Written.ModuleInfo.{info_back, info_no_float}

pub written_is_read : {E : Type 0} (answer : Result Value E) (m : ModuleInfo)
    → IfOk answer (λ value. view value ≡ json_of_info m) → OnOk answer (IsHeldInfo m)
    → IfOk answer (λ value. reads_info (view value) ≡ Some m)
written_is_read (Ok value) m form held = ap reads_info form ∙ info_back m held
written_is_read (Err e) m form held = tt

pub written_without_float : {E : Type 0} (answer : Result Value E) (m : ModuleInfo)
    → IfOk answer (λ value. view value ≡ json_of_info m)
    → IfOk answer (λ value. has_float (view value) ≡ false)
written_without_float (Ok value) m form = ap has_float form ∙ info_no_float m
written_without_float (Err e) m form = tt
