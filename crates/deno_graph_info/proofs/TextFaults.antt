-- Faults of the parts of a value that is written.
use Rattle.std.proofs.Common.{◌≡◌, ◌||◌, ◌⊎◌, inl, inr, codes, ℕ, Bool, true, false, List, Option, Some}
use Rattle.std.proofs.Common.{None, refl, ap, subst, ◌∙◌}
use Rattle.std.proofs.Common.{Ordering, Less, Equal, Greater, Result, Ok, Err, IfErr, IsErrAnd}
use Rattle.std.proofs.lemmas.Option.{none-some}
use Rattle.std.proofs.lemmas.Result.{err_from_is_err_and}
use Rattle.std.specs.Cmp.Lexicographic.{slice_cmp}
use Rattle.std.specs.Ordering.{match_ordering, nat_cmp}
use Rattle.serde_json.specs.Data.{Data, null, boolean, number, string, array, object, Items, no_items, item}
use Rattle.serde_json.specs.Data.{Members, no_members, member}
use Rattle.serde_json.specs.Find.{as_array, get_member}
use Rattle.serde_json.specs.Written.{has_float, items_have_float, members_have_float}
use Rattle.deno_graph_json.proofs.NoFloats.{option_has_float}
use Rattle.deno_graph_json.specs.Read.Partial.{◌>>=◌, member_at}
use Rattle.deno_graph_info.proofs.ConvertedItems.{IsConvertedSoFar, items_then}
use Rattle.deno_graph_info.specs.internal.ConvertFault.{IsColumnFault, IsTextFault}
use Rattle.deno_graph_info.specs.declared.conversion.fault.ConvertFault.{ConvertFault}
use Rattle.deno_graph_info.specs.declared.conversion.fault.ConvertFault.TheVariants.{ColumnOverflow, Float}
use Rattle.deno_graph_info.specs.declared.conversion.fault.ConvertFault.TheVariants.{OutOfMemory}
use Rattle.deno_graph_json.specs.Text.{Text}

-- a fault of a part is a fault of the whole
text_fault-on : (P Q : Type 0) (a b : Bool) (fault : ConvertFault) → (P → Q) → (a ≡ true → b ≡ true)
    → IsTextFault P a fault → IsTextFault Q b fault
text_fault-on P Q a b ColumnOverflow on among h = on h
text_fault-on P Q a b Float on among h = among h
text_fault-on P Q a b OutOfMemory on among h = tt

-- the result of a part
pub text_error-on : {A : Type 0} (P Q : Type 0) (a b : Bool) (answer : Result A ConvertFault) → (P → Q)
    → (a ≡ true → b ≡ true) → IfErr answer (IsTextFault P a) → IfErr answer (IsTextFault Q b)
text_error-on P Q a b (Ok x) on among h = tt
text_error-on P Q a b (Err fault) on among h = text_fault-on P Q a b fault on among h

-- the exit of a `?`
pub exits_text : {A : Type 0} (P Q : Type 0) (a b : Bool) (fault : ConvertFault)
    (answer : Result A ConvertFault) → (P → Q) → (a ≡ true → b ≡ true)
    → IsErrAnd answer (λ other. other ≡ fault) → IsTextFault P a fault → IfErr answer (IsTextFault Q b)
exits_text P Q a b fault answer on among is h =
    let p = err_from_is_err_and answer is in rw (p.1, p.2) (text_fault-on P Q a b fault on among h)

-- a fault of a column
column_fault-text : (P : Type 0) (b : Bool) (fault : ConvertFault) → IsColumnFault P fault
    → IsTextFault P b fault
column_fault-text P b ColumnOverflow h = h
column_fault-text P b Float h = absurd h
column_fault-text P b OutOfMemory h = tt

pub exits_column_text : {A : Type 0} (P : Type 0) (b : Bool) (fault : ConvertFault)
    (answer : Result A ConvertFault) → IsErrAnd answer (λ other. other ≡ fault) → IsColumnFault P fault
    → IfErr answer (IsTextFault P b)
exits_column_text P b fault answer is h =
    let p = err_from_is_err_and answer is in rw (p.1, p.2) (column_fault-text P b fault h)

-- the exit of a `?` on members that were put in order
pub exits_ordered : {A : Type 0} (ordered found : Members) (fault : ConvertFault)
    (answer : Result A ConvertFault) → ordered ≡ found → IsErrAnd answer (λ other. other ≡ fault)
    → IsTextFault ⊥ (members_have_float ordered) fault
    → IfErr answer (IsTextFault ⊥ (members_have_float found))
exits_ordered ordered found fault answer same is h =
    exits_text ⊥ ⊥ (members_have_float ordered) (members_have_float found) fault answer (λ x. x)
    (subst (λ ms. members_have_float ordered ≡ true → members_have_float ms ≡ true) same (λ has. has)) is h

-- ---- floats among items and members

pub or_left : (a b : Bool) → a ≡ true → a || b ≡ true
or_left a b here = rw here refl

pub or_right : (a b : Bool) → b ≡ true → a || b ≡ true
or_right true b later = refl
or_right false b later = later

module _ (all left rest : Items) (d : Data)
    (so_far : items_have_float left ≡ true → items_have_float all ≡ true)
    (first : left ≡ item d rest) where
  pub float_at_item : has_float d ≡ true → items_have_float all ≡ true
  float_at_item here =
      so_far (ap items_have_float first ∙ or_left (has_float d) (items_have_float rest) here)

  pub float_after_item : items_have_float rest ≡ true → items_have_float all ≡ true
  float_after_item later =
      so_far (ap items_have_float first ∙ or_right (has_float d) (items_have_float rest) later)

module _ (all left rest : Members) (key : List ℕ) (d : Data)
    (so_far : members_have_float left ≡ true → members_have_float all ≡ true)
    (first : left ≡ member key d rest) where
  pub float_at_member : has_float d ≡ true → members_have_float all ≡ true
  float_at_member here =
      so_far (ap members_have_float first ∙ or_left (has_float d) (members_have_float rest) here)

  pub float_after_member : members_have_float rest ≡ true → members_have_float all ≡ true
  float_after_member later =
      so_far (ap members_have_float first ∙ or_right (has_float d) (members_have_float rest) later)

float_among : (passed rest : Items) (d : Data) → has_float d ≡ true
    → items_have_float (items_then passed (item d rest)) ≡ true
float_among no_items rest d here = or_left (has_float d) (items_have_float rest) here
float_among (item e ds) rest d here =
    or_right (has_float e) (items_have_float (items_then ds (item d rest))) (float_among ds rest d here)

-- the next item has a float
pub float_next : (all left rest : Items) (d : Data) (begun now : Text) → IsConvertedSoFar all left begun now
    → left ≡ item d rest → has_float d ≡ true → items_have_float all ≡ true
float_next all left rest d begun now h first here =
    ap items_have_float (h.whole ∙ ap (items_then h.passed) first) ∙ float_among h.passed rest d here

either_true : (a b : Bool) → a || b ≡ true → (a ≡ true) ⊎ (b ≡ true)
either_true true b h = inl refl
either_true false b h = inr h

-- ---- floats in a member that is found by name

named_float_at : (o : Ordering) (later : Option Data) (e : Data) (rest : Bool)
    → (option_has_float later ≡ true → rest ≡ true)
    → option_has_float (match_ordering o later (Some e) later) ≡ true → has_float e || rest ≡ true
named_float_at Less later e rest on h = or_right (has_float e) rest (on h)
named_float_at Equal later e rest on h = or_left (has_float e) rest h
named_float_at Greater later e rest on h = or_right (has_float e) rest (on h)

named_float : (key : List ℕ) (ms : Members) → option_has_float (get_member key ms) ≡ true
    → members_have_float ms ≡ true
named_float key no_members h = h
named_float key (member l e ms) h =
    named_float_at (slice_cmp nat_cmp key l) (get_member key ms) e (members_have_float ms)
    (named_float key ms) h

items_float : Option Items → Bool
items_float None = false
items_float (Some ds) = items_have_float ds

array_float : (found : Option Data) (ds : Items) → (found >>= as_array) ≡ Some ds
    → items_have_float ds ≡ true → option_has_float found ≡ true
unfolding items_float
array_float None ds is here = absurd (none-some _ is)
array_float (Some null) ds is here = absurd (none-some _ is)
array_float (Some (boolean b)) ds is here = absurd (none-some _ is)
array_float (Some (number n)) ds is here = absurd (none-some _ is)
array_float (Some (string s)) ds is here = absurd (none-some _ is)
array_float (Some (array es)) ds is here = ap items_float is ∙ here
array_float (Some (object ms)) ds is here = absurd (none-some _ is)

pub float_in_member : (key : List ℕ) (ms : Members) (ds : Items) → member_at as_array key ms ≡ Some ds
    → items_have_float ds ≡ true → members_have_float ms ≡ true
unfolding member_at
float_in_member key ms ds is here = named_float key ms (array_float (get_member key ms) ds is here)

-- the dependencies among the members of an object
pub float_in_object : (d : Data) (ms : Members) (ds : Items) → d ≡ object ms
    → member_at as_array (codes "dependencies") ms ≡ Some ds
    → items_have_float ds || members_have_float ms ≡ true → has_float d ≡ true
float_in_object d ms ds is at here =
    ap has_float is ∙ elim (either_true (items_have_float ds) (members_have_float ms) here) [
      | inl inside ↦ float_in_member (codes "dependencies") ms ds at inside
      | inr beside ↦ beside
    ]
