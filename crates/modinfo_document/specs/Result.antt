-- Results of readers whose values are related to what is to be read.
use Rattle.std.specs.Prelude.{Option, Result, MatchResult, IsSomeAnd}
use Rattle.serde_json.specs.Data.{Data}
use Rattle.deno_graph_json.specs.Read.Result.{IsReadError}
use Rattle.deno_graph_json.specs.declared.error.ReadError.{ReadError}

-- Like `IsReadResult`, for a result that is related to the value that is to be read.
abbrev pub IsReadResultBy : {A B : Type 0} → (A → B → Type 0) → Data → Option A → Result B ReadError
    → Type 0
IsReadResultBy Meets value wanted result =
    MatchResult result (λ x. IsSomeAnd wanted (λ w. Meets w x)) (IsReadError value wanted)
