-- The modules that a module reaches by its dependencies. Modules are the entries of a map, in the order of
-- their keys.
use Rattle.std.specs.Prelude.{◌≡◌, ℕ, List, Bool, All, Contains, Option, Some, None, IsSome, IsTrue}
use Rattle.std.specs.Cmp.Lexicographic.{slice_cmp}
use Rattle.std.specs.List.Sorted.{IsStrictlySortedBy}
use Rattle.std.specs.Ordering.{nat_cmp}
use Rattle.deno_graph_base.specs.TextMap.{value_at}
use Rattle.deno_graph_info.specs.declared.analysis.dependency.DependencyDescriptor.{DependencyDescriptor}
use Rattle.deno_graph_info.specs.declared.analysis.dependency.DependencyDescriptor.TheVariants.{Static}
use Rattle.deno_graph_info.specs.declared.analysis.dependency.DependencyDescriptor.TheVariants.{Dynamic}
use Rattle.deno_graph_info.specs.declared.analysis.dynamic_argument.DynamicArgument.{DynamicArgument}
use Rattle.deno_graph_info.specs.declared.analysis.dynamic_argument.DynamicArgument.TheVariants.{String}
use Rattle.deno_graph_info.specs.declared.analysis.dynamic_argument.DynamicArgument.TheVariants.{Template}
use Rattle.deno_graph_info.specs.declared.analysis.dynamic_argument.DynamicArgument.TheVariants.{Expr}
use Rattle.deno_graph_info.specs.declared.analysis.module_info.ModuleInfo.{ModuleInfo}

-- the argument, if it is a string
abbrev pub string_of : DynamicArgument → Option (List ℕ)
string_of (String text) = Some text
string_of (Template parts) = None
string_of Expr = None

-- the specifier of a static dependency, or the string argument of a dynamic one
abbrev pub named_specifier : DependencyDescriptor → Option (List ℕ)
named_specifier (Static d) = Some d.specifier
named_specifier (Dynamic d) = string_of d.argument

-- some dependency of the module has this specifier
abbrev pub DependsOn : ModuleInfo → List ℕ → Type 0
DependsOn info specifier =
    (dependency : DependencyDescriptor) × Contains info.dependencies dependency
    × (named_specifier dependency ≡ Some specifier)

abbrev pub IsModuleKey : List (List ℕ × ModuleInfo) → List ℕ → Type 0
IsModuleKey modules key = IsSome (value_at modules key)

-- the set holds the root, if the root is a key, and with each key the keys that its module names
pub record IsClosedUnderDependencies (modules : List (List ℕ × ModuleInfo)) (root : List ℕ)
    (Holds : List ℕ → Type 0) : Type 0 where
  pub holds_root : IsModuleKey modules root → Holds root
  pub holds_named : (key specifier : List ℕ) (info : ModuleInfo) → Holds key
      → value_at modules key ≡ Some info → DependsOn info specifier → IsModuleKey modules specifier
      → Holds specifier

-- in ascending order, the least such set: closed, and a subset of each closed set
pub record IsReach (modules : List (List ℕ × ModuleInfo)) (root : List ℕ) (reached : List (List ℕ)) : Type 0
  where
    pub ascending : IsStrictlySortedBy (slice_cmp nat_cmp) reached
    pub closed : IsClosedUnderDependencies modules root (Contains reached)
    pub least : (test : List ℕ → Bool) → IsClosedUnderDependencies modules root (λ key. IsTrue (test key))
        → All (λ key. IsTrue (test key)) reached
