-- The sites where a pass over a text starts its parsers, and the list of imports after one start.
use Rattle.std.specs.Prelude.{◌≡◌, ◌⊎◌, ℕ, List, codes}
use Rattle.std.specs.List.{Contains}
use Rattle.deno_graph_jsdoc.specs.Characters.{closing_brace}
use Rattle.deno_graph_jsdoc.specs.JsDocGrammar.{◌·◌, Anything, Is, Lacks}
use Rattle.deno_graph_jsdoc.specs.JsDocImports.{Ascend}
use Rattle.deno_graph_jsdoc.specs.JsDocImport.{Import}

-- the text has a `{` and no `}` after it
abbrev pub LeavesOpen : List ℕ → Type 0
LeavesOpen = Anything · Is (codes "{") · Lacks closing_brace

-- the text ends with `@`
abbrev pub EndsWithAt : List ℕ → Type 0
EndsWithAt = Anything · Is (codes "@")

-- the new list has the imports of the old list and this import, or another with the same start; the starts
-- ascend
pub record GainsImport (old : List Import) (import : Import) (new : List Import) : Type 0 where
  pub ascending : Ascend new
  pub only : (other : Import) → Contains new other → Contains old other ⊎ (import ≡ other)
  pub kept : (other : Import) → Contains old other → Contains new other
  pub there : (other : Import) × Contains new other × (other.start ≡ import.start)
