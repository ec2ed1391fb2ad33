-- Reading documents of `reach`.
use Rattle.std.specs.Prelude.{◌≡◌, ◌≢◌, ℕ, List, Some, MatchOption}
use Rattle.serde_json.specs.Data.{Data}
use Rattle.serde_json.specs.Find.{as_object}
use Rattle.serde_json.specs.Read.{read as read_text}
use Rattle.deno_graph_base.specs.TextMap.{entries_of}
use Rattle.deno_graph_json.specs.Read.Error.{Expects, IsIn, IsMismatch}
use Rattle.deno_graph_json.specs.declared.error.ReadError.{ReadError}
use Rattle.deno_graph_json.specs.declared.expected.Expected.TheVariants.{Integer}
use Rattle.deno_graph_info.specs.declared.analysis.fault.InfoFault.{InfoFault}
use Rattle.deno_graph_info.specs.declared.analysis.fault.InfoFault.TheVariants as info
use Rattle.modinfo.specs.Reach.{Asks, IsFirstFault, modules_alone}
use Rattle.modinfo.specs.declared.reach.Question.{Question}
use Rattle.modinfo.specs.declared.reach.QuestionError.{QuestionError}

-- The question of a document.
abbrev pub IsQuestionOf : List ℕ → Question → Type 0
IsQuestionOf document question = (value : Data) × (read_text document ≡ Some value)
    × Asks value (entries_of question.infos) question.root

-- The error of a reader, with its fault.
abbrev pub shape_error : ReadError → QuestionError
shape_error error = record { fault = info.Shape; error = error }

-- The fault of the modules: that they are no object, or the first fault of one.
abbrev pub IsModulesFault : Data → InfoFault → Type 0
IsModulesFault d fault = MatchOption (as_object d) (fault ≡ info.Shape) (λ ms. IsFirstFault ms fault)

-- There is this fault, and the error leads to a value that isn't as expected: a float, if that is the fault.
-- Or an allocation failed.
abbrev pub IsErrorIn : (InfoFault → Type 0) → Data → QuestionError → Type 0
IsErrorIn IsFault value error = IsMismatch error.error → (error.fault ≢ info.OutOfMemory)
    × IsFault error.fault × IsIn value error.error × (error.fault ≡ info.Float → Expects Integer error.error)

-- If the fault is a float, the error leads to one that is read: it is in the modules.
abbrev pub IsFloatRead : Data → QuestionError → Type 0
IsFloatRead value error = IsMismatch error.error → error.fault ≡ info.Float
    → IsIn (modules_alone value) error.error
