-- The two forms of a JSDoc import, and the import that each form represents.
use Rattle.std.specs.Prelude.{◌≡◌, ◌+◌, ◌⊎◌, ℕ, Option, None, List, ◌++◌, length, codes, encode_utf8_all}
use Rattle.std.specs.Str.{chars}
use Rattle.deno_graph_jsdoc.specs.Characters.{closing_brace}
use Rattle.deno_graph_jsdoc.specs.JsDocGrammar.{◌·◌, Begins, NoSpace, Is, IsSpace, IsGap, Lacks, IsClause}
use Rattle.deno_graph_jsdoc.specs.JsDocGrammar.{IsQuote, IsWith, IsSecond, IsUpTo}
use Rattle.deno_graph_jsdoc.specs.declared.import.JsDocImport.{JsDocImport}
use Rattle.deno_graph_base.specs.declared.values.resolution_mode.TypeScriptTypesResolutionMode.{TypeScriptTypesResolutionMode}

-- a mode, or none
abbrev pub Mode : Type 0
Mode = Option TypeScriptTypesResolutionMode

-- an import: the specifier, the range of the specifier in bytes from the start of the text, and the mode
pub record Import : Type 0 where
  pub specifier : List ℕ
  pub start : ℕ
  pub end : ℕ
  pub mode : Mode

-- the number of bytes of these characters
abbrev pub byte_count : List ℕ → ℕ
byte_count text = length (encode_utf8_all text)

-- `input` begins with `import`: a text of `Head`, the specifier in quotes, and a tail that determines the
-- mode and `rest`
pub record BeginsWithImport (Head : List ℕ → Type 0) (Tail : List ℕ → Mode → List ℕ → Type 0) (input : List ℕ)
    (import : Import) (rest : List ℕ) : Type 0 where
  pub before : List ℕ
  pub quote : List ℕ
  pub after : List ℕ
  pub whole : input ≡ before ++ (quote ++ after)
  pub head : Head before
  pub quoted : IsQuote import.specifier quote
  pub start : import.start ≡ byte_count before + 1
  pub end : import.end ≡ import.start + byte_count import.specifier
  pub tail : Tail after import.mode rest

-- the tail of a declaration: attributes if they parse, else white space and no mode
abbrev pub EndsDeclaration : List ℕ → Mode → List ℕ → Type 0
EndsDeclaration after mode rest =
    Begins (IsSpace · IsWith mode) after rest
    ⊎ ((mode ≡ None)
    × ((other : Mode) (others_rest : List ℕ) → ¬ (Begins (IsSpace · IsWith other) after others_rest))
    × Begins IsSpace after rest × NoSpace rest)

-- `input` begins with a declaration of `import`, and `rest` follows the declaration
abbrev pub IsDeclaration : List ℕ → Import → List ℕ → Type 0
IsDeclaration =
    BeginsWithImport (Is (codes "@import") · IsGap · IsClause · IsSpace · Is (codes "from") · IsSpace)
    EndsDeclaration

-- the tail of a dynamic import: maybe a second argument, `)`, and any text up to the next `}`
abbrev pub EndsDynamicImport : List ℕ → Mode → List ℕ → Type 0
EndsDynamicImport after mode rest =
    Begins (IsSpace · IsSecond mode · IsSpace · Is (codes ")") · Lacks closing_brace · Is (codes "}")) after
    rest

-- `input` begins with a dynamic import of `import`, and `rest` follows the dynamic import
abbrev pub IsDynamicImport : List ℕ → Import → List ℕ → Type 0
IsDynamicImport =
    BeginsWithImport (Is (codes "{") · IsUpTo (codes "import") · IsSpace · Is (codes "(") · IsSpace)
    EndsDynamicImport

-- the import that a value of the program represents
abbrev pub import_of : JsDocImport → Import
import_of import = record {
  specifier = chars import.specifier.now;
  start = import.specifier_range.start;
  end = import.specifier_range.end;
  mode = import.resolution_mode;
}

-- the import with its range moved by `by` bytes
abbrev pub moved : ℕ → Import → Import
moved by import = record import { start = import.start + by; end = import.end + by }
