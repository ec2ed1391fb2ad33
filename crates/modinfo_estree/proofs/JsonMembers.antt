-- Errors of members.
use Rattle.std.proofs.Common.{◌≡◌, ℕ, List, Option, Some, sym, subst}
use Rattle.serde_json.specs.Data.{Data, object, Members}
use Rattle.serde_json.specs.Find.{get_member}
use Rattle.deno_graph_json.proofs.Reading.{error_around}
use Rattle.deno_graph_json.specs.Read.Error.{IsIn, IsMismatch}
use Rattle.deno_graph_json.specs.Read.Partial.{◌>>=◌, member_at}
use Rattle.deno_graph_json.specs.Read.Result.{IsReadError}
use Rattle.deno_graph_json.specs.declared.error.ReadError.{ReadError}

-- an error of a member is one of the object
pub error_of_member : {A : Type 0} (outer : Members) (name : List ℕ) (value : Data) (reads : Data → Option A)
    (old new : ReadError) → get_member name outer ≡ Some value → (IsIn value old → IsIn (object outer) new)
    → (IsMismatch new → IsMismatch old) → IsReadError value (reads value) old
    → IsReadError (object outer) (member_at reads name outer) new
unfolding member_at
error_of_member outer name value reads old new is place mismatch h =
    let Goal : Option Data → Type 0 = λ found. IsReadError (object outer) (found >>= reads) new in
    subst Goal (sym is) (error_around (object outer) value (reads value) old new place mismatch h)
