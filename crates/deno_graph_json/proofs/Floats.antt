-- Floats among items and members.
use Rattle.std.proofs.Common.{◌≡◌, ℕ, ◌||◌, Bool, true, false, Some, None, refl, List, sym, ap, ◌∙◌}
use Rattle.std.proofs.lemmas.Option.{none-some}
use Rattle.serde_json.specs.Data.{Data, Items, item, Members, member}
use Rattle.serde_json.specs.Written.{has_float, items_have_float, members_have_float}
use Rattle.deno_graph_json.specs.Read.Result.{IsReadError}
use Rattle.deno_graph_json.specs.Read.Partial.{unless_float}
use Rattle.deno_graph_json.specs.declared.error.ReadError.{ReadError}
use Rattle.deno_graph_json.specs.declared.error.ReadError.TheVariants.{Mismatch, OutOfMemory}

-- whether there is a float, by the result of `find_float`
pub no_float_found : (b : Bool) → unless_float b ≡ Some tt → b ≡ false
no_float_found true is = absurd (none-some _ is)
no_float_found false is = refl

pub float_found : (b : Bool) → unless_float b ≡ None → b ≡ true
float_found true is = refl
float_found false is = absurd (none-some _ (sym is))

-- an error in a value with a float is an error in the value around it
pub float_error : (value : Data) (here all : Bool) (error : ReadError) → (here ≡ true → all ≡ true)
    → IsReadError value (unless_float here) error → IsReadError value (unless_float all) error
float_error value here all (Mismatch found) among h = (ap unless_float (among (float_found here h.0)), h.1)
float_error value here all OutOfMemory among h = tt

-- the items or members that are left have a float if all have one
pub items_after : (b : Bool) (all left rest : Items) (d : Data) → items_have_float all ≡ items_have_float left
    → left ≡ item d rest → has_float d ≡ b → items_have_float all ≡ b || items_have_float rest
items_after b all left rest d so_far first here =
    so_far ∙ ap items_have_float first ∙ ap (λ b. b || items_have_float rest) here

pub members_after : (b : Bool) (all left rest : Members) (key : List ℕ) (d : Data)
    → members_have_float all ≡ members_have_float left → left ≡ member key d rest → has_float d ≡ b
    → members_have_float all ≡ b || members_have_float rest
members_after b all left rest key d so_far first here =
    so_far ∙ ap members_have_float first ∙ ap (λ b. b || members_have_float rest) here
