-- Results of a reader: each step of a partial function, and the error that a `?` returns.
use Rattle.std.proofs.Common.{◌≡◌, ℕ, List, [], ◌∷◌, ◌++◌, Option, Some, None, Result, IsErrAnd, refl, sym}
use Rattle.std.proofs.Common.{ap, subst, ◌∙◌, append_assoc, append-nil}
use Rattle.std.proofs.lemmas.Option.{none-some}
use Rattle.std.proofs.lemmas.Result.{err_from_is_err_and}
use Rattle.std.specs.Option.{IsSomeAnd, unwrap_or}
use Rattle.serde_json.specs.Data.{Data, null, boolean, number, array, object, string, Items, no_items, item}
use Rattle.serde_json.specs.Data.{Members, no_members}
use Rattle.serde_json.specs.Find.{as_array, as_object, as_str, get_member}
use Rattle.deno_graph_json.specs.Read.Result.{IsReadError, IsReadResult}
use Rattle.deno_graph_json.specs.Read.Error.{IsIn, IsMismatch, mismatch, step_into, data_at}
use Rattle.deno_graph_json.specs.Read.Expected.{IsNot}
use Rattle.deno_graph_json.specs.Read.Partial.{◌>>=◌, member_at, reads_items}
use Rattle.deno_graph_json.specs.declared.error.Step.{Step}
use Rattle.deno_graph_json.specs.declared.expected.Expected.{Expected}
use Rattle.deno_graph_json.specs.declared.error.ReadError.{ReadError}
use Rattle.deno_graph_json.specs.declared.error.ReadError.TheVariants.{Mismatch, OutOfMemory}

-- a step that has a value goes on with it
pub goes_on : {A B : Type 0} (o : Option A) (f : A → Option B) (x : A) (r : Option B) → o ≡ Some x → f x ≡ r
    → (o >>= f) ≡ r
goes_on o f x r is later = ap (λ v. v >>= f) is ∙ later

-- the exit of a `?` whose error is that of the whole value
pub whole_error : {A : Type 0} (value : Data) (wanted : Option A) (error : ReadError)
    (answer : Result A ReadError)
    → IsErrAnd answer (λ other. other ≡ error) → IsReadError value wanted error
    → IsReadResult value wanted answer
whole_error value wanted error answer is h = let p = err_from_is_err_and answer is in rw (p.1, p.2) h

-- a path with one more step around it
data_at_more : (path : List Step) (step : Step) (outer inner : Data) → step_into step outer ≡ Some inner
    → data_at (path ++ step ∷ []) outer ≡ data_at path inner
data_at_more [] step outer inner is = is
data_at_more (first ∷ path) step outer inner is =
    ap (λ o. o >>= step_into first) (data_at_more path step outer inner is)

-- an error in a value is an error in the value around it
pub place_around : (path : List Step) (step : Step) (expected : Expected) (outer inner : Data)
    → step_into step outer ≡ Some inner → IsIn inner (mismatch path expected)
    → IsIn outer (mismatch (path ++ step ∷ []) expected)
place_around path step expected outer inner is h =
    subst (λ o. IsSomeAnd o (IsNot expected)) (sym (data_at_more path step outer inner is)) h

-- a value that can't be read, with an error in it
pub read_error : {A : Type 0} (value : Data) (wanted : Option A) (error : ReadError) → wanted ≡ None
    → IsIn value error
    → IsReadError value wanted error
read_error value wanted (Mismatch found) none place = (none, place)
read_error value wanted OutOfMemory none place = tt

-- the result of an inner value that can't be read, around that value
pub error_around : {A : Type 0} (outer inner : Data) (wanted : Option A) (old new : ReadError)
    → (IsIn inner old → IsIn outer new) → (IsMismatch new → IsMismatch old) → IsReadError inner wanted old
    → IsReadError outer wanted new
error_around outer inner wanted (Mismatch found) (Mismatch other) place mismatch h = (h.0, place h.1)
error_around outer inner wanted OutOfMemory (Mismatch other) place mismatch h = absurd (mismatch tt)
error_around outer inner wanted old OutOfMemory place mismatch h = tt

module _ {A B : Type 0} (value : Data) (wanted : Option A) (f : A → Option B) where
  -- if a step fails, the whole fails with the same error
  pub step_error : (error : ReadError) → IsReadError value wanted error
      → IsReadError value (wanted >>= f) error
  step_error (Mismatch found) h = (ap (λ o. o >>= f) h.0, h.1)
  step_error OutOfMemory h = h

  -- the exit of a `?`
  pub exits : (error : ReadError) (answer : Result B ReadError) → IsErrAnd answer (λ other. other ≡ error)
      → IsReadError value wanted error → IsReadResult value (wanted >>= f) answer
  exits error answer is h = let p = err_from_is_err_and answer is in rw (p.1, p.2) (step_error error h)

  -- the exit of a `?` after a reader that allocates nothing
  pub exits_mismatch : (error : ReadError) (answer : Result B ReadError)
      → IsErrAnd answer (λ other. other ≡ error)
      → IsMismatch error × (wanted ≡ None) × IsIn value error
      → IsReadResult value (wanted >>= f) answer
  exits_mismatch error answer is h = exits error answer is (read_error value wanted error h.1 h.2)

  -- a step that has a value goes on with it
  pub result_on : (x : A) (answer : Result B ReadError) → wanted ≡ Some x → IsReadResult value (f x) answer
      → IsReadResult value (wanted >>= f) answer
  result_on x answer is h =
      let Goal : Option A → Type 0 = λ o. IsReadResult value (o >>= f) answer in subst Goal (sym is) h

-- data with a string, an array or an object
is_string : (d : Data) (s : List ℕ) → as_str d ≡ Some s → d ≡ string s
is_string (string t) s is = ap (λ o. string (unwrap_or o [])) is
is_string null s is = absurd (none-some _ is)
is_string (boolean b) s is = absurd (none-some _ is)
is_string (number n) s is = absurd (none-some _ is)
is_string (array t) s is = absurd (none-some _ is)
is_string (object t) s is = absurd (none-some _ is)

pub is_array : (d : Data) (ds : Items) → as_array d ≡ Some ds → d ≡ array ds
is_array (array t) ds is = ap (λ o. array (unwrap_or o no_items)) is
is_array null ds is = absurd (none-some _ is)
is_array (boolean b) ds is = absurd (none-some _ is)
is_array (number n) ds is = absurd (none-some _ is)
is_array (string t) ds is = absurd (none-some _ is)
is_array (object t) ds is = absurd (none-some _ is)

pub is_object : (d : Data) (ms : Members) → as_object d ≡ Some ms → d ≡ object ms
is_object (object t) ms is = ap (λ o. object (unwrap_or o no_members)) is
is_object null ms is = absurd (none-some _ is)
is_object (boolean b) ms is = absurd (none-some _ is)
is_object (number n) ms is = absurd (none-some _ is)
is_object (string t) ms is = absurd (none-some _ is)
is_object (array t) ms is = absurd (none-some _ is)

module _ {B : Type 0} where
  -- reading goes on with the text of a string, the items of an array, the members of an object
  pub string_on : (d : Data) (f : List ℕ → Option B) (s : List ℕ) (answer : Result B ReadError)
      → as_str d ≡ Some s
      → IsReadResult (string s) (f s) answer → IsReadResult d (as_str d >>= f) answer
  string_on d f s answer is h = rw (is_string d s is) h

  pub array_on : (d : Data) (f : Items → Option B) (ds : Items) (answer : Result B ReadError)
      → as_array d ≡ Some ds → IsReadResult (array ds) (f ds) answer
      → IsReadResult d (as_array d >>= f) answer
  array_on d f ds answer is h = rw (is_array d ds is) h

  pub object_on : (d : Data) (f : Members → Option B) (ms : Members) (answer : Result B ReadError)
      → as_object d ≡ Some ms → IsReadResult (object ms) (f ms) answer
      → IsReadResult d (as_object d >>= f) answer
  object_on d f ms answer is h = rw (is_object d ms is) h

  -- reading goes on with the text of a member that is a string
  pub member_on : (d : Data) (key : List ℕ) (ms : Members) (f : List ℕ → Option B) (s : List ℕ)
      (answer : Result B ReadError) → get_member key ms ≡ Some (string s) → IsReadResult d (f s) answer
      → IsReadResult d (member_at as_str key ms >>= f) answer
  unfolding member_at
  member_on d key ms f s answer is h = rw is h

-- the lemmas for a reader that reads step by step
pub ruleset reading = (goes_on, exits, exits_mismatch, string_on, array_on, object_on, member_on, result_on)

-- ---- lists

module _ {A : Type 0} where
  -- the items that were read, followed by those that are left
  abbrev pub before : List A → Option (List A) → Option (List A)
  before xs rest = rest >>= (λ ys. Some (xs ++ ys))

  pub before_more : (xs : List A) (x : A) (rest : Option (List A))
      → before xs (rest >>= (λ ys. Some (x ∷ ys))) ≡ before (xs ++ x ∷ []) rest
  before_more xs x None = refl
  before_more xs x (Some ys) = ap Some (sym (append_assoc xs (x ∷ []) ys))

  -- after one more item
  pub items_more : (reads : Data → Option A) (xs : List A) (d : Data) (ds : Items) (x : A) → reads d ≡ Some x
      → before xs (reads_items reads (item d ds)) ≡ before (xs ++ x ∷ []) (reads_items reads ds)
  unfolding reads_items
  items_more reads xs d ds x is = rw is (before_more xs x (reads_items reads ds))

  pub before_nil : (rest : Option (List A)) → before [] rest ≡ rest
  before_nil None = refl
  before_nil (Some ys) = refl

  -- if an item can't be read, the list can't
  pub items_error : (value : Data) (reads : Data → Option A) (all : Option (List A)) (xs : List A)
      (d : Data) (ds : Items) (error : ReadError) → all ≡ before xs (reads_items reads (item d ds))
      → IsReadError value (reads d) error → IsReadError value all error
  unfolding reads_items
  items_error value reads all xs d ds error is h =
      rw is (step_error value _ _ error (step_error value (reads d) _ error h))

  -- no item is left
  pub items_done : (reads : Data → Option A) (all : Option (List A)) (xs : List A)
      → all ≡ before xs (reads_items reads no_items) → all ≡ Some xs
  unfolding reads_items
  items_done reads all xs is = is ∙ ap Some (append-nil xs)
