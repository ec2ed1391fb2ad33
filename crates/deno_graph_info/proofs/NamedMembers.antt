-- The dependencies and the leading comments of a value, by the names of their members.
use Rattle.std.proofs.Common.{◌≡◌, codes, refl, ap, ◌∙◌, Option, Some, None}
use Rattle.serde_json.specs.Data.{Data, Members, null, boolean, number, string, array, object}
use Rattle.serde_json.specs.Find.{as_array, as_object, get, get_member}
use Rattle.deno_graph_json.specs.Read.Partial.{◌>>=◌, member_at, reads_array}
use Rattle.deno_graph_info.specs.Comment.{reads_stored_comment}
use Rattle.deno_graph_info.specs.Conversion.{comments_in, dependencies_in}

pub dependencies_named : (d : Data) → dependencies_in d ≡ (get (codes "dependencies") d >>= as_array)
unfolding dependencies_in member_at
dependencies_named null = refl
dependencies_named (boolean b) = refl
dependencies_named (number n) = refl
dependencies_named (string s) = refl
dependencies_named (array ds) = refl
dependencies_named (object ms) = refl

-- a value that is no object has no comments
pub no_comments : (d : Data) → as_object d ≡ None → comments_in d ≡ None
unfolding comments_in
no_comments d is = ap (λ o. o >>= member_at (reads_array reads_stored_comment) (codes "leadingComments")) is

-- the comments among the members of an object
pub comments_among : (d : Data) (ms : Members) (found : Option Data) → as_object d ≡ Some ms
    → get_member (codes "leadingComments") ms ≡ found
    → comments_in d ≡ (found >>= reads_array reads_stored_comment)
unfolding comments_in member_at
comments_among d ms found is named =
    ap (λ o. o >>= member_at (reads_array reads_stored_comment) (codes "leadingComments")) is
    ∙ ap (λ o. o >>= reads_array reads_stored_comment) named

-- the dependencies among the members of an object
pub dependencies_among : (d : Data) (ms : Members) → as_object d ≡ Some ms
    → dependencies_in d ≡ member_at as_array (codes "dependencies") ms
unfolding dependencies_in
dependencies_among d ms is = ap (λ o. o >>= member_at as_array (codes "dependencies")) is

-- a value that is no object has no dependencies
pub no_dependencies : (d : Data) → as_object d ≡ None → dependencies_in d ≡ None
unfolding dependencies_in
no_dependencies d is = ap (λ o. o >>= member_at as_array (codes "dependencies")) is
