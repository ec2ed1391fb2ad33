-- Results that are related to what is to be read.
use Rattle.std.proofs.Common.{◌≡◌, Option, Some, None, Result, IsErrAnd, IsSomeAnd, refl, sym, subst}
use Rattle.std.proofs.lemmas.Result.{err_from_is_err_and}
use Rattle.serde_json.specs.Data.{Data, object, Items, Members}
use Rattle.serde_json.specs.Find.{as_array, as_object}
use Rattle.deno_graph_json.specs.Read.Error.{IsIn, IsMismatch}
use Rattle.deno_graph_json.specs.Read.Partial.{◌>>=◌, reads_array, reads_items}
use Rattle.deno_graph_json.specs.Read.Result.{IsReadError}
use Rattle.deno_graph_json.specs.declared.error.ReadError.{ReadError}
use Rattle.deno_graph_json.proofs.Reading.{goes_on, is_object, read_error, step_error}
use Rattle.modinfo_document.specs.Result.{IsReadResultBy}

-- a value with a property
pub some_and : {A : Type 0} (P : A → Type 0) (wanted : Option A) (x : A) → wanted ≡ Some x → P x
    → IsSomeAnd wanted P
some_and P wanted x is h = subst (λ o. IsSomeAnd o P) (sym is) h

pub some_with : {A : Type 0} (P : A → Type 0) (wanted : Option A) → IsSomeAnd wanted P
    → (x : A) × (wanted ≡ Some x) × P x
some_with P (Some x) h = (x, refl, h)
some_with P None h = absurd h

module _ {A B C : Type 0} (Meets : B → C → Type 0) (value : Data) (wanted : Option A) (f : A → Option B) where
  -- the exit of a `?`
  pub exits_by : (error : ReadError) (answer : Result C ReadError) → IsErrAnd answer (λ other. other ≡ error)
      → IsReadError value wanted error → IsReadResultBy Meets value (wanted >>= f) answer
  exits_by error answer is h =
      let p = err_from_is_err_and answer is in rw (p.1, p.2) (step_error value wanted f error h)

  -- the exit of a `?` after a reader that allocates nothing
  pub exits_mismatch_by : (error : ReadError) (answer : Result C ReadError)
      → IsErrAnd answer (λ other. other ≡ error)
      → IsMismatch error × (wanted ≡ None) × IsIn value error
      → IsReadResultBy Meets value (wanted >>= f) answer
  exits_mismatch_by error answer is h = exits_by error answer is (read_error value wanted error h.1 h.2)

  -- a step that has a value goes on with it
  pub result_by_on : (x : A) (answer : Result C ReadError) → wanted ≡ Some x
      → IsReadResultBy Meets value (f x) answer → IsReadResultBy Meets value (wanted >>= f) answer
  result_by_on x answer is h =
      let Goal : Option A → Type 0 = λ o. IsReadResultBy Meets value (o >>= f) answer in subst Goal (sym is) h

-- an array is read item by item
pub array_items : {A : Type 0} (reads : Data → Option A) (d : Data) (ds : Items) → as_array d ≡ Some ds
    → reads_array reads d ≡ reads_items reads ds
unfolding reads_array
array_items reads d ds is = goes_on (as_array d) (reads_items reads) ds (reads_items reads ds) is refl

-- reading goes on with the members of an object
pub object_on_by : {B C : Type 0} (Meets : B → C → Type 0) (d : Data) (f : Members → Option B) (ms : Members)
    (answer : Result C ReadError) → as_object d ≡ Some ms → IsReadResultBy Meets (object ms) (f ms) answer
    → IsReadResultBy Meets d (as_object d >>= f) answer
object_on_by Meets d f ms answer is h = rw (is_object d ms is) h

-- the lemmas for a reader that reads step by step, and whose value is related to what is to be read
pub ruleset reading_by = (goes_on, exits_by, exits_mismatch_by, object_on_by, result_by_on)
