-- Tables of names, and reading a value by its name.
use Rattle.std.specs.Prelude.{◌≡◌, ℕ, ⊤, List, [], ◌∷◌, map, bytes_eq, Option, Some, None, if◌then◌else◌}
use Rattle.serde_json.specs.Data.{Data}
use Rattle.serde_json.specs.Find.{as_str}
use Rattle.deno_graph_json.specs.Read.Names.{names_in}
use Rattle.deno_graph_json.specs.Read.Partial.{◌>>=◌}
use Rattle.deno_graph_json.specs.declared.error.ReadError.{ReadError}
use Rattle.deno_graph_json.specs.declared.error.ReadError.TheVariants.{Mismatch, OutOfMemory}
use Rattle.deno_graph_json.specs.declared.expected.Expected.{Expected}
use Rattle.deno_graph_json.specs.declared.expected.Expected.TheVariants.{NameIn}

-- The value of a name in a table.
unfoldable pub named : {A : Type 0} → List (List ℕ × A) → List ℕ → Option A
named [] name = None
named ((key, x) ∷ table) name = if bytes_eq name key then Some x else named table name

-- What is expected is a name of the table.
abbrev pub IsNameIn : {A : Type 0} → List (List ℕ × A) → Expected → Type 0
IsNameIn table (NameIn list) = names_in list ≡ map (λ entry. entry.0) table
IsNameIn table _ = ⊥

-- The error says that a name of the table is expected, or that an allocation failed.
abbrev pub ExpectsNameIn : {A : Type 0} → List (List ℕ × A) → ReadError → Type 0
ExpectsNameIn table (Mismatch found) = IsNameIn table found.expected
ExpectsNameIn table OutOfMemory = ⊤

-- A string that is a name of the table.
unfoldable pub reads_named : {A : Type 0} → List (List ℕ × A) → Data → Option A
reads_named table value = do
  name ← as_str value
  named table name
