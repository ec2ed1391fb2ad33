-- The result of a reader.
use Rattle.std.specs.Prelude.{◌≡◌, Option, Some, None, Result, MatchResult}
use Rattle.serde_json.specs.Data.{Data}
use Rattle.deno_graph_json.specs.Read.Error.{IsIn, IsMismatch}
use Rattle.deno_graph_json.specs.declared.error.ReadError.{ReadError}
use Rattle.deno_graph_json.specs.declared.error.ReadError.TheVariants.{Mismatch, OutOfMemory}

-- the value can't be read, and the error is in the value; or an allocation failed
abbrev pub IsReadError : {A : Type 0} → Data → Option A → ReadError → Type 0
IsReadError value wanted (Mismatch found) = (wanted ≡ None) × IsIn value (Mismatch found)
IsReadError value wanted OutOfMemory = Unit {0}

-- Ok with the value that is read, or an error in the JSON value
abbrev pub IsReadResult : {A : Type 0} → Data → Option A → Result A ReadError → Type 0
IsReadResult value wanted answer = MatchResult answer (λ x. wanted ≡ Some x) (IsReadError value wanted)

-- Like `IsReadResult`, for a reader that allocates nothing: the error is always a mismatch. `seen` is the
-- view of the result that is compared, such as the value to which a reference points.
abbrev pub IsReadResultSeen : {A B : Type 0} → (B → A) → Data → Option A → Result B ReadError → Type 0
IsReadResultSeen seen value wanted answer = MatchResult answer (λ x. wanted ≡ Some (seen x))
    (λ error. IsMismatch error × (wanted ≡ None) × IsIn value error)
