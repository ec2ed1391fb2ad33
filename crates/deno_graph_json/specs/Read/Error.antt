-- Why a value can't be read: a part of the value isn't as expected, and the path to that part.
use Rattle.std.specs.Prelude.{◌≡◌, List, [], ◌∷◌, Option, Some, IsSomeAnd}
use Rattle.serde_json.specs.Data.{Data}
use Rattle.serde_json.specs.Find.{at, get}
use Rattle.deno_graph_json.specs.Read.Expected.{IsNot}
use Rattle.deno_graph_json.specs.Read.Partial.{◌>>=◌}
use Rattle.deno_graph_json.specs.declared.error.Step.{Step}
use Rattle.deno_graph_json.specs.declared.error.Step.TheVariants.{Item, Member}
use Rattle.deno_graph_json.specs.declared.error.ReadError.{ReadError}
use Rattle.deno_graph_json.specs.declared.error.ReadError.TheVariants.{Mismatch, OutOfMemory}
use Rattle.deno_graph_json.specs.declared.expected.Expected.{Expected}

-- the item or member to which a step leads
abbrev pub step_into : Step → Data → Option Data
step_into (Item number) value = at number value
step_into (Member name) value = get name value

-- the value to which a path leads. The steps are from the inside out: the last step is the first to take.
abbrev pub data_at : List Step → Data → Option Data
data_at [] value = Some value
data_at (step ∷ around) value = data_at around value >>= step_into step

-- the error of a value to which a path leads
abbrev pub mismatch : List Step → Expected → ReadError
mismatch path expected = Mismatch (record { path = path; expected = expected })

-- the path of the error leads to a value that isn't as expected
abbrev pub IsIn : Data → ReadError → Type 0
IsIn value (Mismatch found) = IsSomeAnd (data_at found.path value) (IsNot found.expected)
IsIn value OutOfMemory = Unit {0}

abbrev pub IsMismatch : ReadError → Type 0
IsMismatch (Mismatch _) = Unit {0}
IsMismatch OutOfMemory = ⊥

-- the error says that this is expected, or that an allocation failed
abbrev pub Expects : Expected → ReadError → Type 0
Expects expected (Mismatch found) = found.expected ≡ expected
Expects expected OutOfMemory = Unit {0}
