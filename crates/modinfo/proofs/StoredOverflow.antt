-- Dependencies of stored information whose types end beyond the largest column.
use Rattle.std.proofs.Common.{◌≡◌, ◌↔◌, codes, Option, Some, None, MatchOption, Result, Ok, Err, IfOk, false}
use Rattle.std.proofs.Common.{IsSome, inl, inr, ⊎_elim, refl}
use Rattle.serde_json.specs.Data.{Data, null, boolean, number, string, array, object, Items, no_items, item}
use Rattle.serde_json.specs.Find.{as_array, get_member}
use Rattle.serde_json.specs.Written.{has_float}
use Rattle.deno_graph_info.specs.Conversion.{AnyOverflows, DependencyOverflows, IsConvertFault, Overflows}
use Rattle.deno_graph_info.specs.Comment.{reads_stored_comment}
use Rattle.deno_graph_info.specs.Conversion.{comments_in, dependencies_in}
use Rattle.deno_graph_info.specs.Types.{HasNoColumn}
use Rattle.deno_graph_json.specs.Read.Partial.{◌>>=◌, member_at, reads_array}
use Rattle.modinfo.specs.Check.{array_in}
use Rattle.deno_graph_info.specs.declared.conversion.fault.ConvertFault.TheVariants as convert

-- All items have an overflow exactly where those that are left have one.
abbrev pub IsLeft : Items → Items → Type 0
IsLeft all left = AnyOverflows all ↔ AnyOverflows left

-- The next item doesn't overflow.
pub left_next : (all left rest : Items) (d : Data) → IsLeft all left → left ≡ item d rest
    → (DependencyOverflows d → ⊥) → IsLeft all rest
left_next all left rest d is first fits = (
  λ h. let among : AnyOverflows (item d rest) = rw first at (is.0 h) in
      ⊎_elim (λ over. absurd (fits over)) (λ over. over) among,
  λ h. is.1 (rw first (inr h)),
)

-- The next item overflows.
pub left_here : (all left rest : Items) (d : Data) → IsLeft all left → left ≡ item d rest
    → DependencyOverflows d → AnyOverflows all
left_here all left rest d is first over = is.1 (rw first (inl over))

-- The dependencies of a value.
pub overflows_of : (d : Data) (old : Items) → dependencies_in d ≡ Some old → Overflows d ↔ AnyOverflows old
overflows_of d old is = rw is ((λ h. h), (λ h. h))

pub overflows_none : (d : Data) → dependencies_in d ≡ None → Overflows d → ⊥
overflows_none d is h = rw is at h

pub column_fault : (d : Data) → has_float d ≡ false → Overflows d
    → IsConvertFault d convert.ColumnOverflow
column_fault d none over = (none, over)

-- Before the first item all are left.
pub left_all : (all left : Items) → left ≡ all → IsLeft all left
left_all all left is = rw is ((λ h. h), (λ h. h))

-- No item is left.
pub left_none : (all left : Items) → IsLeft all left → left ≡ no_items → AnyOverflows all → ⊥
left_none all left is none over = rw none at (is.0 over)

-- A dependency that overflows has an array of comments.
abbrev pub HasComments : Data → Type 0
HasComments d = (comments : Items) × (array_in (codes "leadingComments") d ≡ Some comments)

array_found : (found : Option Data) → MatchOption (found >>= reads_array reads_stored_comment) ⊥ HasNoColumn
    → (comments : Items) × ((found >>= as_array) ≡ Some comments)
unfolding reads_array
array_found None over = absurd over
array_found (Some null) over = absurd over
array_found (Some (boolean b)) over = absurd over
array_found (Some (number n)) over = absurd over
array_found (Some (string s)) over = absurd over
array_found (Some (array ds)) over = (ds, refl)
array_found (Some (object ms)) over = absurd over

pub has_comments : (d : Data) → DependencyOverflows d → HasComments d
unfolding comments_in member_at
has_comments null over = absurd over
has_comments (boolean b) over = absurd over
has_comments (number n) over = absurd over
has_comments (string s) over = absurd over
has_comments (array ds) over = absurd over
has_comments (object ms) over = array_found (get_member (codes "leadingComments") ms) over

-- A report on the dependencies is one on the value.
pub same_report : {A E : Type 0} {P Q : Type 0} (answer : Result (Option A) E) → P ↔ Q
    → IfOk answer (λ report. IsSome report ↔ Q) → IfOk answer (λ report. IsSome report ↔ P)
same_report (Ok report) same h = ((λ some. same.1 (h.0 some)), (λ p. h.1 (same.0 p)))
same_report (Err refused) same h = tt
