-- Reading the information on modules, one after the other.
use Rattle.std.proofs.Common.{◌≡◌, ◌∙◌, ℕ, List, ◌∷◌, false, Option, Some, None, codes, inl, inr, refl, sym}
use Rattle.std.proofs.Common.{subst, ap, Result, Ok, Err, MatchResult}
use Rattle.std.proofs.lemmas.Option.{none-some}
use Rattle.serde_json.specs.Data.{Data, null, boolean, number, string, array, object, Members}
use Rattle.serde_json.specs.Find.{as_object, as_str, get, get_member}
use Rattle.serde_json.specs.Written.{has_float}
use Rattle.deno_graph_json.proofs.Floats.{float_found}
use Rattle.deno_graph_json.proofs.ObjectMembers.{Entry}
use Rattle.deno_graph_json.proofs.Reading.{is_object}
use Rattle.deno_graph_json.specs.Data.{data_of, named_data}
use Rattle.deno_graph_json.specs.Read.Error.{Expects, IsIn, IsMismatch}
use Rattle.deno_graph_json.specs.Read.Partial.{◌>>=◌, member_at, reads_map, reads_members, unless_float}
use Rattle.deno_graph_json.specs.Read.Result.{IsReadError}
use Rattle.deno_graph_json.specs.declared.error.ReadError.{ReadError}
use Rattle.deno_graph_json.specs.declared.error.ReadError.TheVariants.{Mismatch, OutOfMemory}
use Rattle.deno_graph_json.specs.declared.expected.Expected.{Expected}
use Rattle.deno_graph_json.specs.declared.expected.Expected.TheVariants.{Integer}
use Rattle.deno_graph_info.specs.InfoFault.{IsInfoFault}
use Rattle.deno_graph_info.specs.Json.ModuleInfo.{reads_info}
use Rattle.deno_graph_info.specs.declared.analysis.fault.InfoFault.{InfoFault}
use Rattle.deno_graph_info.specs.declared.analysis.fault.InfoFault.TheVariants as info
use Rattle.deno_graph_info.specs.declared.analysis.module_info.ModuleInfo.{ModuleInfo}
use Rattle.modinfo.specs.Reach.{IsFirstFault, IsQuestionFault, Question, modules_alone, reads_question}
use Rattle.modinfo.specs.Reach.{reads_stored}
use Rattle.modinfo.specs.internal.Reach.{IsErrorIn, IsFloatRead, IsModulesFault, shape_error}
use Rattle.modinfo.specs.declared.reach.QuestionError.{QuestionError}

pub stored_info : (d : Data) (m : ModuleInfo) → has_float d ≡ false → reads_info d ≡ Some m
    → reads_stored d ≡ Some m
unfolding reads_stored
stored_info d m whole is = rw whole is

-- The first fault of the members that are left is the first of all.
abbrev pub IsFaultOfAll : InfoFault → Members → List Entry → Type 0
IsFaultOfAll inner all left = IsFirstFault (named_data left) inner → IsFirstFault all inner

-- Before the first module.
pub none_left : (inner : InfoFault) (all : Members) (found left : List Entry) → named_data found ≡ all
    → left ≡ found → IsFaultOfAll inner all left
none_left inner all found left is whole fault =
    subst (λ ms. IsFirstFault ms inner) (ap named_data whole ∙ is) fault

module _ (inner : InfoFault) (all : Members) (left rest : List Entry) (e : Entry) (first : left ≡ e ∷ rest)
    (of_all : IsFaultOfAll inner all left) where
  -- After a module without a fault.
  pub fault_after : (m : ModuleInfo) → reads_stored (data_of e.1) ≡ Some m → IsFaultOfAll inner all rest
  fault_after m is fault =
      of_all (subst (λ es. IsFirstFault (named_data es) inner) (sym first)
      (inr ((λ none. none-some m (sym none ∙ is)), fault)))

  -- The fault of the next module is the first of all.
  pub fault_here : IsInfoFault (data_of e.1) inner → IsFirstFault all inner
  fault_here fault = of_all (subst (λ es. IsFirstFault (named_data es) inner) (sym first) (inl fault))

-- ---- The errors of one value

pub float_error : (d : Data) (found : ReadError) → IsReadError d (unless_float (has_float d)) found
    → Expects Integer found → IsErrorIn (IsInfoFault d) d (record { fault = info.Float; error = found })
float_error d (Mismatch found) h expects is = (
  (λ same. cc (same)),
  float_found (has_float d) h.0,
  h.1,
  λ same. expects,
)
float_error d OutOfMemory h expects is = absurd is

-- An error where a value has another form.
shape_in : (IsFault : InfoFault → Type 0) (d : Data) (found : ReadError) → IsFault info.Shape → IsIn d found
    → IsErrorIn IsFault d (shape_error found)
shape_in IsFault d found fault place is = ((λ same. cc (same)), fault, place, λ same. absurd (cc (same)))

pub shape_error_of : (d : Data) (found : ReadError) → has_float d ≡ false → IsReadError d (reads_info d) found
    → IsErrorIn (IsInfoFault d) d (shape_error found)
shape_error_of d (Mismatch found) whole h is = shape_in (IsInfoFault d) d (Mismatch found) (whole, h.0) h.1 is
shape_error_of d OutOfMemory whole h is = absurd is

-- The error of a member is one of the object.
pub error_around : (IsFault IsOuter : InfoFault → Type 0) (outer inner : Data) (fault : InfoFault)
    (old new : ReadError) → (IsMismatch new → IsMismatch old) → (IsIn inner old → IsIn outer new)
    → ((wanted : Expected) → Expects wanted old → Expects wanted new) → (IsFault fault → IsOuter fault)
    → IsErrorIn IsFault inner (record { fault = fault; error = old })
    → IsErrorIn IsOuter outer (record { fault = fault; error = new })
error_around IsFault IsOuter outer inner fault old new same place expects is h found =
    let error = h (same found) in
    (error.0, is error.1, place error.2, λ float. expects Integer (error.3 float))

-- An error that is no float.
pub no_float_read : (d : Data) (found : ReadError) → IsFloatRead d (shape_error found)
no_float_read d found is same = absurd (cc (same))

-- ---- The modules

pub no_modules : (d : Data) (found : ReadError) → as_object d ≡ None → IsIn d found
    → IsErrorIn (IsModulesFault d) d (shape_error found)
no_modules d found none place = shape_in (IsModulesFault d) d found (rw none refl) place

abbrev AreRead : Option (List (List ℕ × ModuleInfo)) → (InfoFault → Type 0) → Data
    → Result (List (List ℕ × ModuleInfo)) QuestionError → Type 0
AreRead wanted IsFault d answer = MatchResult answer (λ infos. wanted ≡ Some infos) (IsErrorIn IsFault d)

-- What is read from an object is read from its members.
modules_of : (ms : Members) (answer : Result (List (List ℕ × ModuleInfo)) QuestionError)
    → AreRead (reads_members reads_stored ms) (IsFirstFault ms) (object ms) answer
    → AreRead (reads_map reads_stored (object ms)) (IsModulesFault (object ms)) (object ms) answer
unfolding reads_map
modules_of ms (Ok infos) h = h
modules_of ms (Err found) h = h

pub modules_answer : (d : Data) (ms : Members) (answer : Result (List (List ℕ × ModuleInfo)) QuestionError)
    → as_object d ≡ Some ms → AreRead (reads_members reads_stored ms) (IsFirstFault ms) (object ms) answer
    → AreRead (reads_map reads_stored d) (IsModulesFault d) d answer
modules_answer d ms answer is h = rw (is_object d ms is) (modules_of ms answer h)

-- ---- The two members of a document

pub lacks_object : (d : Data) → as_object d ≡ None → reads_question d ≡ None
unfolding reads_question
lacks_object null none = refl
lacks_object (boolean b) none = refl
lacks_object (number n) none = refl
lacks_object (string s) none = refl
lacks_object (array ds) none = refl
lacks_object (object ms) none = absurd (none-some ms (sym none))

-- An error where the value is no question.
pub no_question : (d : Data) (found : ReadError) → reads_question d ≡ None → IsIn d found
    → IsErrorIn (IsQuestionFault d) d (shape_error found)
no_question d found none place = shape_in (IsQuestionFault d) d found (rw none refl) place

-- The modules alone have what the object has at `modules`.
modules_there : (ms : Members) (d : Data) → get_member (codes "modules") ms ≡ Some d
    → get (codes "modules") (modules_alone (object ms)) ≡ Some d
modules_there ms d found = rw found refl

-- A float in the modules of an object is one in the modules alone.
pub float_around : (ms : Members) (d : Data) (old new : QuestionError) → new.fault ≡ old.fault
    → (IsMismatch new.error → IsMismatch old.error)
    → (get (codes "modules") (modules_alone (object ms)) ≡ Some d → IsIn d old.error
    → IsIn (modules_alone (object ms)) new.error)
    → get_member (codes "modules") ms ≡ Some d → IsErrorIn (IsModulesFault d) d old
    → IsFloatRead (object ms) new
float_around ms d old new fault mismatch place found error is same =
    place (modules_there ms d found) (error (mismatch is)).2

module _ (ms : Members) where
  lacks_root : member_at as_str (codes "root") ms ≡ None → reads_question (object ms) ≡ None
  unfolding reads_question member_at
  lacks_root none = rw none refl

  -- The root can't be read.
  pub root_error : (found : ReadError) → IsReadError (object ms) (member_at as_str (codes "root") ms) found
      → IsErrorIn (IsQuestionFault (object ms)) (object ms) (shape_error found)
  root_error (Mismatch found) h is = no_question (object ms) (Mismatch found) (lacks_root h.0) h.1 is
  root_error OutOfMemory h is = absurd is

  module _ (root : List ℕ) (rooted : member_at as_str (codes "root") ms ≡ Some root) where
    pub lacks_modules : get_member (codes "modules") ms ≡ None → reads_question (object ms) ≡ None
    unfolding reads_question member_at
    lacks_modules none = rw (rooted, none) refl

    abbrev AsksFor : List (List ℕ × ModuleInfo) → Type 0
    AsksFor infos = (question : Question) × (reads_question (object ms) ≡ Some question)
        × (root ≡ question.root) × (reads_members reads_stored question.modules ≡ Some infos)

    module _ (d : Data) (found : get_member (codes "modules") ms ≡ Some d) where
      -- The question, if the modules are an object.
      pub question_of : (modules : Option Members) → as_object d ≡ modules
          → reads_question (object ms) ≡ (modules >>= λ ms. Some (record { modules = ms; root = root }))
      unfolding reads_question member_at
      question_of modules is = rw (rooted, found, is) refl

      fault_by : (fault : InfoFault) (modules : Option Members) → as_object d ≡ modules
          → IsModulesFault d fault → IsQuestionFault (object ms) fault
      fault_by fault None is h =
          let same = rw is at h in
          rw (question_of None is) same
      fault_by fault (Some members) is h =
          let first = rw is at h in
          rw (question_of (Some members) is) first

      asks_by : (infos : List (List ℕ × ModuleInfo)) (modules : Option Members) → as_object d ≡ modules
          → reads_map reads_stored d ≡ Some infos → AsksFor infos
      unfolding reads_map
      asks_by infos None is read = absurd (none-some infos (rw is at read))
      asks_by infos (Some members) is read =
          (record { modules = members; root = root }, question_of (Some members) is, refl, rw is at read)

      -- The question, if the modules can be read.
      pub asks_for : (infos : List (List ℕ × ModuleInfo)) → reads_map reads_stored d ≡ Some infos
          → AsksFor infos
      asks_for infos read = asks_by infos (as_object d) refl read

      -- A fault of the modules is one of the question.
      pub fault_of_modules : (fault : InfoFault) → IsModulesFault d fault → IsQuestionFault (object ms) fault
      fault_of_modules fault h = fault_by fault (as_object d) refl h
