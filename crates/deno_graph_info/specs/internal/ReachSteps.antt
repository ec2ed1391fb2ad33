-- The steps of the search of `reach`. No contract of a public function names them.
use Rattle.std.specs.Prelude.{◌≡◌, ◌⊎◌, ◌+◌, ◌≤◌, ℕ, List, [], ◌∷◌, map, length, Contains, Option, Some, None}
use Rattle.std.specs.Prelude.{IsSome}
use Rattle.std.specs.Borrow.{Bor}
use Rattle.deno_graph_base.specs.TextMap.{value_at}
use Rattle.deno_graph_info.specs.declared.analysis.dependency.DependencyDescriptor.{DependencyDescriptor}
use Rattle.deno_graph_info.specs.Reach.{IsModuleKey, named_specifier}
use Rattle.deno_graph_info.specs.declared.analysis.module_info.ModuleInfo.{ModuleInfo}

-- the pending modules
abbrev pub infos_of : List (Bor ModuleInfo) → List ModuleInfo
infos_of pending = map (λ info. info.now) pending

-- some dependency has this specifier
abbrev pub NamesIn : List DependencyDescriptor → List ℕ → Type 0
NamesIn dependencies specifier =
    (dependency : DependencyDescriptor) × Contains dependencies dependency
    × (named_specifier dependency ≡ Some specifier)

module _ {V : Type 0} where
  abbrev pub IsReached : List (List ℕ × V) → List ℕ → Type 0
  IsReached reached key = IsSome (value_at reached key)

  -- one if there is no value, else zero
  abbrev pub one_unless : Option V → ℕ
  one_unless None = 1
  one_unless (Some v) = 0

  -- the number of modules that weren't reached
  abbrev pub unreached : List (List ℕ × ModuleInfo) → List (List ℕ × V) → ℕ
  unreached [] reached = 0
  unreached (m ∷ ms) reached = one_unless (value_at reached m.0) + unreached ms reached

  -- The step that visits the named keys: these are reached, and so is each key that was reached before. Each
  -- key that is reached newly is a named one, and its module is pending.
  pub record Grows (modules : List (List ℕ × ModuleInfo)) (IsNamed : List ℕ → Type 0)
      (old new : List (List ℕ × V)) (before after : List ModuleInfo) : Type 0 where
    pub kept : (key : List ℕ) → IsReached old key → IsReached new key
    pub named : (key : List ℕ) → IsNamed key → IsModuleKey modules key → IsReached new key
    pub added : (key : List ℕ) → IsReached new key
        → IsReached old key ⊎ (IsNamed key × IsModuleKey modules key)
    pub pending_kept : (info : ModuleInfo) → Contains before info → Contains after info
    pub pending_added : (key : List ℕ) (info : ModuleInfo) → IsReached new key
        → value_at modules key ≡ Some info → IsReached old key ⊎ Contains after info
    pub pending_known : (info : ModuleInfo) → Contains after info → Contains before info
        ⊎ ((key : List ℕ) × IsReached new key × (value_at modules key ≡ Some info))
    pub work : unreached modules new + length after ≤ unreached modules old + length before
