-- Documents of `reach`, and the answer to one.
use Rattle.std.specs.Prelude.{◌≡◌, ◌≢◌, ◌⊎◌, ℕ, List, codes, Option, Some, None, MatchOption, if◌then◌else◌}
use Rattle.std.specs.Prelude.{option_map, unwrap_or}
use Rattle.serde_json.specs.Data.{Data, object, string, Members, no_members, member}
use Rattle.serde_json.specs.Find.{as_object, as_str, get}
use Rattle.serde_json.specs.Read.{read as read_text}
use Rattle.serde_json.specs.Written.{compact_text, has_float}
use Rattle.deno_graph_json.specs.Object.{array_of}
use Rattle.deno_graph_json.specs.Read.Partial.{◌>>=◌, reads_members}
use Rattle.deno_graph_info.specs.InfoFault.{IsInfoFault}
use Rattle.deno_graph_info.specs.Json.ModuleInfo.{reads_info}
use Rattle.deno_graph_info.specs.Reach.{IsReach}
use Rattle.deno_graph_info.specs.declared.analysis.fault.InfoFault.{InfoFault}
use Rattle.deno_graph_info.specs.declared.analysis.fault.InfoFault.TheVariants as info
use Rattle.deno_graph_info.specs.declared.analysis.module_info.ModuleInfo.{ModuleInfo}

-- The JSON of the modules by their keys, and the key of the root.
pub record Question : Type 0 where
  pub modules : Members
  pub root : List ℕ

-- The member `modules`, an object.
abbrev pub modules_in : Data → Option Members
modules_in d = get (codes "modules") d >>= as_object

-- The member `root`, a string.
abbrev pub root_in : Data → Option (List ℕ)
root_in d = get (codes "root") d >>= as_str

-- An object with the member `modules` alone, if there is one.
abbrev pub modules_alone : Data → Data
modules_alone d = object (unwrap_or
    (option_map (λ modules. member (codes "modules") modules no_members) (get (codes "modules") d))
    no_members)

-- The two members of an object. Other members are ignored.
unfoldable pub reads_question : Data → Option Question
reads_question d = do
  root ← root_in d
  modules ← modules_in d
  Some (record { modules = modules; root = root })

-- The `ModuleInfo` that JSON without a float describes.
unfoldable pub reads_stored : Data → Option ModuleInfo
reads_stored d = if has_float d then None else reads_info d

-- The value has these modules and this root.
abbrev pub Asks : Data → List (List ℕ × ModuleInfo) → List ℕ → Type 0
Asks value modules root = (question : Question) × (reads_question value ≡ Some question)
    × (root ≡ question.root) × (reads_members reads_stored question.modules ≡ Some modules)

-- The keys that the root reaches, as a compact JSON array.
abbrev pub IsReachText : List ℕ → List ℕ → Type 0
IsReachText document text = (value : Data) × (read_text document ≡ Some value)
    × (modules : List (List ℕ × ModuleInfo)) × (root : List ℕ) × Asks value modules root
    × (keys : List (List ℕ)) × IsReach modules root keys
    × (text ≡ compact_text (array_of string keys))

-- The fault of the first module, in the order of the keys, that isn't the JSON of a `ModuleInfo`.
abbrev pub IsFirstFault : Members → InfoFault → Type 0
IsFirstFault no_members fault = ⊥
IsFirstFault (member key d ms) fault = IsInfoFault d fault
    ⊎ ((reads_stored d ≢ None) × IsFirstFault ms fault)

-- The fault of a value: its own shape, or the first fault of a module.
abbrev pub IsQuestionFault : Data → InfoFault → Type 0
IsQuestionFault d fault = MatchOption (reads_question d) (fault ≡ info.Shape)
    (λ question. IsFirstFault question.modules fault)
