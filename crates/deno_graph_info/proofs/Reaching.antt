-- The search of `reach`: each step, and the result.
use Rattle.std.proofs.Common.{◌≡◌, ◌⊎◌, ℕ, ◌+◌, ◌≤◌, ◌<◌, suc, List, [], ◌∷◌, ◌++◌, map, length, take, get_or}
use Rattle.std.proofs.Common.{Bool, true, false, cond, bytes_eq, Option, Some, None, is_some, option_copied}
use Rattle.std.proofs.Common.{IsSome, IsTrue, Contains, inl, inr, arith, refl, sym, ap, subst, ◌∙◌}
use Rattle.std.proofs.Common.{length-append, append_assoc, true≢false, String, Vec, Global, string_bytes}
use Rattle.std.proofs.Common.{Result, Ok, Err, IfOk, OnOk}
use Rattle.std.proofs.lemmas.List.{take_more, map-append}
use Rattle.std.proofs.lemmas.List.Elements.{All-weaker, All-contains_itself, Contains-append_left}
use Rattle.std.proofs.lemmas.List.Elements.{Contains-append_right, Contains-append_cases, Contains-push}
use Rattle.std.proofs.lemmas.List.Elements.{Contains-push_cases}
use Rattle.std.proofs.lemmas.Slice.Eq.{bytes_eq-Decides}
use Rattle.std.specs.Borrow.{Bor}
use Rattle.std.specs.Map.{keys_of}
use Rattle.deno_graph_base.specs.TextMap.{value_at, IsAscending}
use Rattle.deno_graph_info.specs.declared.analysis.dependency.DependencyDescriptor.{DependencyDescriptor}
use Rattle.deno_graph_info.specs.Reach.{IsModuleKey, IsClosedUnderDependencies, IsReach, named_specifier}
use Rattle.deno_graph_info.specs.internal.ReachSteps.{infos_of, NamesIn, IsReached, one_unless, unreached}
use Rattle.deno_graph_info.specs.internal.ReachSteps.{Grows}
use Rattle.deno_graph_info.specs.declared.analysis.module_info.ModuleInfo.{ModuleInfo}

abbrev pub Modules : Type 0
Modules = List (List ℕ × ModuleInfo)

some_is : {A : Type 0} (o : Option A) (x : A) → o ≡ Some x → IsSome o
some_is o x is = ap is_some is

here_is : (key : List ℕ) → bytes_eq key key ≡ true
here_is key = (bytes_eq-Decides key key).1 refl

either_or : {A B C D : Type 0} → (A → C) → (B → D) → A ⊎ B → C ⊎ D
either_or f g (inl a) = inl (f a)
either_or f g (inr b) = inr (g b)

names_split : (ds : List DependencyDescriptor) (d : DependencyDescriptor) (k : List ℕ)
    → NamesIn (ds ++ d ∷ []) k → NamesIn ds k ⊎ (named_specifier d ≡ Some k)
names_split ds d k h =
    elim (Contains-push_cases ds d h.0 h.1) [
      | inl was ↦ inl (h.0, was, h.2)
      | inr same
          ↦ inr (ap named_specifier same ∙ h.2)
    ]

names_first : (ds : List DependencyDescriptor) (d : DependencyDescriptor) (k : List ℕ) → NamesIn ds k
    → NamesIn (ds ++ d ∷ []) k
names_first ds d k h = (h.0, Contains-append_left ds (d ∷ []) h.0 h.1, h.2)

take_one_more : (ds : List DependencyDescriptor) (i : ℕ) (d : DependencyDescriptor) → i < length ds
    → d ≡ get_or ds i d → take (i + 1) ds ≡ take i ds ++ d ∷ []
take_one_more ds i d below is = take_more ds i d below ∙ ap (λ x. take i ds ++ x ∷ []) (sym is)

nothing_contained : {A : Type 0} (x : A) → Contains [] x → ⊥
nothing_contained x h = absurd (omega (arith, h.1))

nothing_left : {A : Type 0} (xs : List A) → length xs ≡ 0 → xs ≡ []
nothing_left [] none = refl
nothing_left (x ∷ xs) none = absurd (cc)

never : {A : Type 0} (o : Option A) → o ≡ None → IsSome o → ⊥
never o none some = true≢false (sym some ∙ ap is_some none)

-- a look-up that finds nothing
pub no_key : {A : Type 0} (o : Option A) → o ≡ None → IsSome o → ⊥
no_key = never

pub none_there : {A : Type 0} (r : Option (Bor A)) (o : Option A) → option_copied r ≡ o → is_some r ≡ false
    → o ≡ None
none_there None o is none = sym is
none_there (Some x) o is none = absurd (true≢false none)

-- after one more key was copied
pub keys_more : {V : Type 0} (keys new : List (String Global)) (left rest : List (List ℕ × V))
    (all : List (List ℕ)) (key : List ℕ) (v : V) (copy : String Global) → map string_bytes keys
    ++ keys_of left ≡ all → left ≡ (key, v) ∷ rest → string_bytes copy ≡ key → new ≡ keys ++ copy ∷ []
    → map string_bytes new ++ keys_of rest ≡ all
keys_more keys new left rest all key v copy so_far first same pushed =
    ap (λ ks. map string_bytes ks ++ keys_of rest) pushed
    ∙ ap (λ ks. ks ++ keys_of rest) (map-append string_bytes keys (copy ∷ []))
    ∙ append_assoc (map string_bytes keys) (string_bytes copy ∷ []) (keys_of rest)
    ∙ ap (λ k. map string_bytes keys ++ k ∷ keys_of rest) same
    ∙ ap (λ es. map string_bytes keys ++ keys_of es) (sym first) ∙ so_far

module _ {V : Type 0} where
  -- ---- the work that is left

  unreached-≤ : (ms : Modules) (old new : List (List ℕ × V))
      → ((key : List ℕ) → IsReached old key → IsReached new key) → unreached ms new ≤ unreached ms old
  unreached-≤ [] old new kept = omega arith
  unreached-≤ (m ∷ ms) old new kept =
      let rest = unreached-≤ ms old new kept in
      let head = one_unless-≤ (value_at old m.0) (value_at new m.0) (kept m.0) in
      omega (arith, rest, head)
    where
      one_unless-≤ : (o n : Option V) → (IsSome o → IsSome n) → one_unless n ≤ one_unless o
      one_unless-≤ None None h = omega arith
      one_unless-≤ None (Some v) h = omega arith
      one_unless-≤ (Some v) None h = absurd (true≢false (sym (h refl)))
      one_unless-≤ (Some v) (Some w) h = omega arith

  one_less : (o n : Option V) → o ≡ None → IsSome n → suc (one_unless n) ≤ one_unless o
  one_less None None is h = absurd (true≢false (sym h))
  one_less None (Some v) is h = omega arith
  one_less (Some v) n is h = absurd (cc)

  unreached-less_at : (m : List ℕ × ModuleInfo) (ms : Modules) (old new : List (List ℕ × V)) (key : List ℕ)
      (same : Bool) → bytes_eq key m.0 ≡ same → ((k : List ℕ) → IsReached old k → IsReached new k)
      → (IsModuleKey ms key → suc (unreached ms new) ≤ unreached ms old)
      → IsSome (cond same (Some m.1) (value_at ms key)) → value_at old key ≡ None → IsReached new key
      → suc (unreached (m ∷ ms) new) ≤ unreached (m ∷ ms) old
  unreached-less_at m ms old new key true is kept later known none reached =
      let here : key ≡ m.0 = (bytes_eq-Decides key m.0).0 is in
      let head = one_less (value_at old m.0) (value_at new m.0) (ap (value_at old) (sym here) ∙ none)
      (subst (IsReached new) here reached) in
      let rest = unreached-≤ ms old new kept in
      omega (arith, head, rest)
  unreached-less_at m ms old new key false is kept later known none reached =
      let one = unreached-≤ (m ∷ []) old new kept in
      let rest = later known in
      omega (arith, one, rest)

  -- each key that is reached newly leaves one less to reach
  unreached-less : (ms : Modules) (old new : List (List ℕ × V)) (key : List ℕ)
      → ((k : List ℕ) → IsReached old k → IsReached new k) → IsModuleKey ms key → value_at old key ≡ None
      → IsReached new key → suc (unreached ms new) ≤ unreached ms old
  unreached-less [] old new key kept known none reached = absurd (true≢false (sym known))
  unreached-less (m ∷ ms) old new key kept known none reached =
      unreached-less_at m ms old new key (bytes_eq key m.0) refl kept
      (λ k. unreached-less ms old new key kept k none reached) known none reached

  -- ---- one step

  -- the step does nothing if there is no such key, or it was reached
  pub grows-not : (ms : Modules) (key : List ℕ) (old new : List (List ℕ × V)) (before after : List ModuleInfo)
      → (IsModuleKey ms key → IsReached old key) → new ≡ old → after ≡ before
      → Grows ms (λ k. k ≡ key) old new before after
  grows-not ms key old new before after done same_reached same_pending =
      rw (same_reached, same_pending) (record {
        kept = λ k h. h;
        named = λ k is known. subst (IsReached old) (sym is) (done (subst (IsModuleKey ms) is known));
        added = λ k h. inl h;
        pending_kept = λ info h. h;
        pending_added = λ k info h is. inl h;
        pending_known = λ info h. inl h;
        work = omega arith;
      })

  key_or_old : (old : List (List ℕ × V)) (key k : List ℕ) (v : V) (same : Bool) → bytes_eq key k ≡ same
      → IsSome (cond same (Some v) (value_at old k)) → (key ≡ k) ⊎ IsReached old k
  key_or_old old key k v true is h = inl ((bytes_eq-Decides key k).0 is)
  key_or_old old key k v false is h = inr h

  old_stays : (old : List (List ℕ × V)) (k : List ℕ) (v : V) (same : Bool) → IsReached old k
      → IsSome (cond same (Some v) (value_at old k))
  old_stays old k v true h = refl
  old_stays old k v false h = h

  -- a key that wasn't reached is reached, and its module is pending
  pub grows-by : (ms : Modules) (key : List ℕ) (info : ModuleInfo) (v : V) (old new : List (List ℕ × V))
      (before after : List ModuleInfo) → value_at ms key ≡ Some info → value_at old key ≡ None
      → ((k : List ℕ) → value_at new k ≡ cond (bytes_eq key k) (Some v) (value_at old k)) → after ≡ before
      ++ info ∷ [] → Grows ms (λ k. k ≡ key) old new before after
  grows-by ms key info v old new before after is none finds pushed =
      let reached : IsReached new key =
      ap is_some (finds key ∙ ap (λ b. cond b (Some v) (value_at old key)) (here_is key)) in
      let kept = λ (k : List ℕ) (h : IsReached old k). ap is_some (finds k)
      ∙ old_stays old k v (bytes_eq key k) h in
      let cases = λ (k : List ℕ) (h : IsReached new k). key_or_old old key k v (bytes_eq key k) refl
      (sym (ap is_some (finds k)) ∙ h) in
      let known : IsModuleKey ms key = some_is (value_at ms key) info is in
      let pending : (other : ModuleInfo) → Contains (before ++ info ∷ []) other → Contains after other =
      λ other h. subst (λ l. Contains l other) (sym pushed) h in
      let less = unreached-less ms old new key kept known none reached in
      let longer : length after ≡ length before + 1 =
      ap length pushed ∙ length-append before (info ∷ []) in record {
        kept = kept;
        named = λ k same h. subst (IsReached new) (sym same) reached;
        added = λ k h. elim (cases k h) [
          | inl same ↦ inr (sym same, subst (IsModuleKey ms) same known)
          | inr was
              ↦ inl was
        ];
        pending_kept = λ other h. pending other (Contains-append_left before (info ∷ []) other h);
        pending_added = λ k other h found. elim (cases k h) [
          | inl same ↦ inr (pending other (subst (Contains (before ++ info ∷ []))
              (one_value ms key k info other is found same) (Contains-push before info)))
          | inr was ↦ inl was
        ];
        pending_known = λ other h. elim (Contains-push_cases before info other
            (subst (λ l. Contains l other) pushed h))
            [ inl was ↦ inl was | inr same ↦ inr (key, reached, is ∙ ap Some same) ];
        work = omega (arith, less, longer);
      }
    where
      one_value : (ms : Modules) (key k : List ℕ) (info other : ModuleInfo) → value_at ms key ≡ Some info
          → value_at ms k ≡ Some other → key ≡ k → info ≡ other
      one_value ms key k info other is found same =
          let both : Some info ≡ Some other = sym is ∙ ap (value_at ms) same ∙ found in cc

  -- ---- several steps

  -- one step after another is a step
  pub grows-then : (ms : Modules) (First Second Both : List ℕ → Type 0) (old mid new : List (List ℕ × V))
      (before between after : List ModuleInfo)
      → Grows ms First old mid before between → Grows ms Second mid new between after
      → ((k : List ℕ) → Both k → First k ⊎ Second k) → ((k : List ℕ) → First k → Both k)
      → ((k : List ℕ) → Second k → Both k)
      → Grows ms Both old new before after
  grows-then ms First Second Both old mid new before between after one two split first second = record {
    kept = λ k h. two.kept k (one.kept k h);
    named = λ k h known. elim (split k h) [
      | inl a ↦ two.kept k (one.named k a known)
      | inr b
          ↦ two.named k b known
    ];
    added = λ k h. elim (two.added k h) [
      | inl was
          ↦ either_or (λ w. w) (λ a. (first k a.0, a.1)) (one.added k was)
      | inr b ↦ inr (second k b.0, b.1)
    ];
    pending_kept = λ info h. two.pending_kept info (one.pending_kept info h);
    pending_added = λ k info h is. elim (two.pending_added k info h is) [
      | inl was ↦ either_or (λ w. w) (two.pending_kept info) (one.pending_added k info was is)
      | inr b
          ↦ inr b
    ];
    pending_known = λ info h. elim (two.pending_known info h) [
      | inl was ↦ either_or (λ w. w) (λ a. (a.0, two.kept a.0 a.1, a.2)) (one.pending_known info was)
      | inr b ↦ inr b
    ];
    work = omega (arith, one.work, two.work);
  }

  -- a step with another description of the same names
  pub grows-as : (ms : Modules) (First Both : List ℕ → Type 0) (old new : List (List ℕ × V))
      (before after : List ModuleInfo) → Grows ms First old new before after
      → ((k : List ℕ) → Both k → First k) → ((k : List ℕ) → First k → Both k)
      → Grows ms Both old new before after
  grows-as ms First Both old new before after one back on = record {
    kept = one.kept;
    named = λ k h known. one.named k (back k h) known;
    added = λ k h. either_or (λ w. w) (λ a. (on k a.0, a.1)) (one.added k h);
    pending_kept = one.pending_kept;
    pending_added = one.pending_added;
    pending_known = one.pending_known;
    work = one.work;
  }

  -- ---- the dependencies of a module, one by one

  -- a dependency with a specifier is visited
  pub dependency_visited : (ms : Modules) (ds : List DependencyDescriptor) (i : ℕ) (d : DependencyDescriptor)
      (s : List ℕ) (old mid new : List (List ℕ × V)) (before between after : List ModuleInfo)
      → i < length ds → d ≡ get_or ds i d → named_specifier d ≡ Some s
      → Grows ms (NamesIn (take i ds)) old mid before between → Grows ms (λ k. k ≡ s) mid new between after
      → Grows ms (NamesIn (take (i + 1) ds)) old new before after
  dependency_visited ms ds i d s old mid new before between after below is specifier so_far one =
      rw (take_one_more ds i d below is)
      (grows-then ms (NamesIn (take i ds)) (λ k. k ≡ s) (NamesIn (take i ds ++ d ∷ [])) old mid new before
      between after so_far one
      (λ k h. either_or (λ w. w) (λ named. let same : Some k ≡ Some s = sym named ∙ specifier in cc)
      (names_split (take i ds) d k h))
      (names_first (take i ds) d)
      (λ k same. (d, Contains-push (take i ds) d, specifier ∙ ap Some (sym same))))

  -- a dependency without a specifier is skipped
  pub dependency_passed : (ms : Modules) (ds : List DependencyDescriptor) (i : ℕ) (d : DependencyDescriptor)
      (old new : List (List ℕ × V)) (before after : List ModuleInfo)
      → i < length ds → d ≡ get_or ds i d → named_specifier d ≡ None
      → Grows ms (NamesIn (take i ds)) old new before after
      → Grows ms (NamesIn (take (i + 1) ds)) old new before after
  dependency_passed ms ds i d old new before after below is none so_far =
      rw (take_one_more ds i d below is)
      (grows-as ms (NamesIn (take i ds)) (NamesIn (take i ds ++ d ∷ [])) old new before after so_far
      (λ k h. elim (names_split (take i ds) d k h)
      [ inl was ↦ was | inr named ↦ absurd (let both : None ≡ Some k = sym none ∙ named in cc) ])
      (names_first (take i ds) d))

  -- ---- the search

  -- The reached keys are in each closed set, and are closed except for the pending modules.
  pub record IsUnderway (ms : Modules) (root : List ℕ) (reached : List (List ℕ × V))
      (pending : List ModuleInfo) : Type 0 where
    pub has_root : IsModuleKey ms root → IsReached reached root
    pub sound : (test : List ℕ → Bool) → IsClosedUnderDependencies ms root (λ k. IsTrue (test k))
        → (key : List ℕ) → IsReached reached key → IsTrue (test key)
    pub pending_known : (info : ModuleInfo) → Contains pending info → (key : List ℕ) × IsReached reached key
        × (value_at ms key ≡ Some info)
    pub named : (key : List ℕ) (info : ModuleInfo) → IsReached reached key → value_at ms key ≡ Some info
        → Contains pending info
        ⊎ ((to : List ℕ) → NamesIn info.dependencies to → IsModuleKey ms to → IsReached reached to)

  underway-first : (ms : Modules) (root : List ℕ) (reached : List (List ℕ × V)) (pending : List ModuleInfo)
      → Grows ms (λ k. k ≡ root) [] reached [] pending → IsUnderway ms root reached pending
  underway-first ms root reached pending step = record {
    has_root = λ known. step.named root refl known;
    sound = λ test closed k h. elim (step.added k h) [
      | inl was ↦ absurd (true≢false (sym was))
      | inr a
          ↦ subst (λ s. IsTrue (test s)) (sym a.0) (closed.holds_root (subst (IsModuleKey ms) a.0 a.1))
    ];
    pending_known = λ info h. elim (step.pending_known info h)
        [ inl was ↦ absurd (nothing_contained info was) | inr b ↦ b ];
    named = λ k info h is. elim (step.pending_added k info h is)
        [ inl was ↦ absurd (true≢false (sym was)) | inr b ↦ inl b ];
  }

  -- the root is visited
  pub underway-begin : (ms : Modules) (root : List ℕ) (old reached : List (List ℕ × V))
      (before : List (Bor ModuleInfo)) (pending : List ModuleInfo) → old ≡ [] → before ≡ []
      → Grows ms (λ k. k ≡ root) old reached (infos_of before) pending → IsUnderway ms root reached pending
  underway-begin ms root old reached before pending none no_more step =
      underway-first ms root reached pending (rw (none, no_more) at step)

  -- the module that is visited next is pending
  pub underway-popped : (ms : Modules) (root : List ℕ) (all left : List (Bor ModuleInfo))
      (info : Bor ModuleInfo) (reached : List (List ℕ × V)) → all ≡ left ++ info ∷ []
      → IsUnderway ms root reached (infos_of all)
      → IsUnderway ms root reached (infos_of left ++ info.now ∷ [])
  underway-popped ms root all left info reached popped h =
      let same : infos_of all ≡ infos_of left ++ info.now ∷ [] =
      ap infos_of popped ∙ map-append (λ (i : Bor ModuleInfo). i.now) left (info ∷ []) in
      subst (IsUnderway ms root reached) same h

  -- there is less to do
  pub less_to_do : (ms : Modules) (info : Bor ModuleInfo) (all left : List (Bor ModuleInfo))
      {IsNamed : List ℕ → Type 0} {old new : List (List ℕ × V)} {after : List ModuleInfo} → all ≡ left ++ info
      ∷ [] → Grows ms IsNamed old new (infos_of left) after
      → unreached ms new + length after < unreached ms old + length (infos_of all)
  less_to_do ms info all left {IsNamed} {old} {new} {after} popped step =
      let same : infos_of all ≡ infos_of left ++ info.now ∷ [] =
      ap infos_of popped ∙ map-append (λ (i : Bor ModuleInfo). i.now) left (info ∷ []) in
      let longer : length (infos_of all) ≡ length (infos_of left) + 1 =
      ap length same ∙ length-append (infos_of left) (info.now ∷ []) in
      omega (arith, step.work, longer)

  -- the dependencies of a pending module are visited
  pub underway-step : (ms : Modules) (root : List ℕ) (info : ModuleInfo) (old new : List (List ℕ × V))
      (before after : List ModuleInfo) → IsUnderway ms root old (before ++ info ∷ [])
      → Grows ms (NamesIn info.dependencies) old new before after → IsUnderway ms root new after
  underway-step ms root info old new before after so_far step = record {
    has_root = λ known. step.kept root (so_far.has_root known);
    sound = λ test closed k h. elim (step.added k h) [
      | inl was ↦ so_far.sound test closed k was
      | inr a ↦ (let from =
          so_far.pending_known info (Contains-push before info) in
          closed.holds_named from.0 k info (so_far.sound test closed from.0 from.1) from.2 a.0 a.1)
    ];
    pending_known = λ other h. elim (step.pending_known other h) [
      | inl was ↦ (let from =
          so_far.pending_known other (Contains-append_left before (info ∷ []) other was) in
          (from.0, step.kept from.0 from.1, from.2))
      | inr b ↦ b
    ];
    named = λ k other h is. elim (step.pending_added k other h is) [
      | inl was ↦ elim (so_far.named k other was is) [
        | inl waits ↦ elim (Contains-push_cases before info other waits) [
          | inl still ↦ inl (step.pending_kept other still)
          | inr same ↦ inr (λ to names known. step.named to
              (subst (λ (i : ModuleInfo). NamesIn i.dependencies to) (sym same) names) known)
        ]
        | inr done ↦ inr (λ to names known. step.kept to (done to names known))
      ]
      | inr b ↦ inl b
    ];
  }

  -- ---- what is reached, as a list

  reached_contained_at : (k l : List ℕ) (v : V) (rest : List (List ℕ × V)) (same : Bool) → bytes_eq k l ≡ same
      → (IsReached rest k → Contains (keys_of rest) k) → IsSome (cond same (Some v) (value_at rest k))
      → Contains (l ∷ keys_of rest) k
  reached_contained_at k l v rest true is later h =
      subst (Contains (l ∷ keys_of rest)) (sym ((bytes_eq-Decides k l).0 is))
      (Contains-append_left (l ∷ []) (keys_of rest) l (Contains-push [] l))
  reached_contained_at k l v rest false is later h = Contains-append_right (l ∷ []) (keys_of rest) k (later h)

  reached_contained : (k : List ℕ) (reached : List (List ℕ × V)) → IsReached reached k
      → Contains (keys_of reached) k
  reached_contained k [] h = absurd (true≢false (sym h))
  reached_contained k (e ∷ rest) h =
      reached_contained_at k e.0 e.1 rest (bytes_eq k e.0) refl (reached_contained k rest) h

  contained_reached_at : (k l : List ℕ) (v : V) (rest : List (List ℕ × V)) (same : Bool) → bytes_eq k l ≡ same
      → (Contains (keys_of rest) k → IsReached rest k) → Contains (l ∷ keys_of rest) k
      → IsSome (cond same (Some v) (value_at rest k))
  contained_reached_at k l v rest true is later h = refl
  contained_reached_at k l v rest false is later h =
      elim (Contains-append_cases (l ∷ []) (keys_of rest) k h) [
        | inl one ↦ elim (Contains-push_cases [] l k one) [
          | inl none ↦ absurd (nothing_contained k none)
          | inr same
              ↦ absurd (true≢false (sym ((bytes_eq-Decides k l).1 (sym same)) ∙ is))
        ]
        | inr rests ↦ later rests
      ]

  contained_reached : (k : List ℕ) (reached : List (List ℕ × V)) → Contains (keys_of reached) k
      → IsReached reached k
  contained_reached k [] h = absurd (nothing_contained k h)
  contained_reached k (e ∷ rest) h =
      contained_reached_at k e.0 e.1 rest (bytes_eq k e.0) refl (contained_reached k rest) h

  -- no module is pending
  pub underway-end : (ms : Modules) (root : List ℕ) (reached : List (List ℕ × V))
      → IsUnderway ms root reached [] → IsAscending reached → IsReach ms root (keys_of reached)
  underway-end ms root reached so_far ascends = record {
    ascending = ascends;
    closed = record {
      holds_root = λ known. reached_contained root reached (so_far.has_root known);
      holds_named = λ key to info holds is names known. elim (so_far.named key info
          (contained_reached key reached holds) is) [
            | inl waits ↦ absurd (nothing_contained info waits)
            | inr done ↦ reached_contained to reached (done to names known)
          ];
    };
    least = λ test closed. All-weaker (Contains (keys_of reached)) (λ k. IsTrue (test k))
        (λ k h. so_far.sound test closed k (contained_reached k reached h)) (keys_of reached)
        (All-contains_itself (keys_of reached));
  }

  -- the result when no module is pending
  pub reach_answered : {E : Type 0} (ms : Modules) (root : List ℕ) (reached : List (List ℕ × V))
      (pending : List (Bor ModuleInfo)) (answer : Result (Vec (String Global) Global) E)
      → IsUnderway ms root reached (infos_of pending) → length pending ≡ 0
      → IfOk answer (λ keys. map string_bytes keys.items ≡ keys_of reached)
      → OnOk answer (IsAscending reached)
      → IfOk answer (λ keys. IsReach ms root (map string_bytes keys.items))
  reach_answered ms root reached pending (Ok keys) so_far none same ascends =
      subst (IsReach ms root) (sym same) (underway-end ms root reached
      (subst (IsUnderway ms root reached) (ap infos_of (nothing_left pending none)) so_far) ascends)
  reach_answered ms root reached pending (Err e) so_far none same ascends = tt
