-- The results of the parsers of JSDoc imports.
use Rattle.std.specs.Prelude.{◌≡◌, ◌<◌, ℕ, Bool, true, false, Option, Some, None, List, [], ◌∷◌, length}
use Rattle.std.specs.Prelude.{codes, option_map}
use Rattle.std.specs.Char.Unicode.Alphabetic.{is_alphabetic}
use Rattle.std.specs.Str.{chars}
use denote.Ref.{Bor}
use Rattle.deno_graph_jsdoc.specs.JsDocGrammar.{◌·◌, Attribute, Begins, EmptyOr, Is, IsSpace, IsGap, IsClause}
use Rattle.deno_graph_jsdoc.specs.JsDocGrammar.{IsSecond, AreAttributes, ends_ident, mode_of}
use Rattle.deno_graph_jsdoc.specs.JsDocImport.{Import, Mode, BeginsWithImport, EndsDeclaration}
use Rattle.deno_graph_jsdoc.specs.JsDocImport.{EndsDynamicImport, import_of}
use Rattle.deno_graph_jsdoc.specs.declared.import.JsDocImport.{JsDocImport}
use Rattle.deno_graph_base.specs.declared.values.resolution_mode.TypeScriptTypesResolutionMode.{TypeScriptTypesResolutionMode}

-- the text begins with an Alphabetic character, as an identifier does
abbrev pub begins_ident : List ℕ → Bool
begins_ident [] = false
begins_ident (c ∷ cs) = is_alphabetic c

-- a text that may follow an identifier
abbrev pub EndOfIdent : List ℕ → Type 0
EndOfIdent rest = EmptyOr (λ c. ends_ident c ≡ true) rest

-- a block from its first attribute on; it has at least one
abbrev pub IsModeBlockEnd : Option TypeScriptTypesResolutionMode → List ℕ → Type 0
IsModeBlockEnd mode text =
    (attributes : List Attribute) × (0 < length attributes) × (mode ≡ mode_of attributes)
    × (AreAttributes attributes · IsSpace · Is (codes "}")) text

-- a declaration from after its `@import` on, and a dynamic import from after its `import` on
abbrev pub IsDeclarationEnd : List ℕ → Import → List ℕ → Type 0
IsDeclarationEnd = BeginsWithImport (IsGap · IsClause · IsSpace · Is (codes "from") · IsSpace) EndsDeclaration

abbrev pub IsDynamicEnd : List ℕ → Import → List ℕ → Type 0
IsDynamicEnd = BeginsWithImport (IsSpace · Is (codes "(") · IsSpace) EndsDynamicImport

-- a declaration from its `from` on, and the argument list of a dynamic import
abbrev pub IsSource : List ℕ → Import → List ℕ → Type 0
IsSource = BeginsWithImport (Is (codes "from") · IsSpace) EndsDeclaration

abbrev pub EndsArguments : List ℕ → Mode → List ℕ → Type 0
EndsArguments after mode rest = Begins (IsSpace · IsSecond mode · IsSpace · Is (codes ")")) after rest

abbrev pub HasArguments : List ℕ → Import → List ℕ → Type 0
HasArguments = BeginsWithImport (IsSpace · Is (codes "(") · IsSpace) EndsArguments

-- The result is a value and a rest: `input` is a text of `P value` and then the rest, and with no other value
-- and rest that has `Follow`. The result is None if `input` is such a text with no value and rest.
abbrev pub Reads : {V : Type 0} → (List ℕ → Type 0) → (V → List ℕ → Type 0) → List ℕ
    → Option (List ℕ × V) → Type 0
Reads {V} Follow P input None = (value : V) (rest : List ℕ) → Follow rest → Begins (P value) input rest → ⊥
Reads {V} Follow P input (Some (rest, value)) =
    Begins (P value) input rest
    × ((other : V) (after : List ℕ) → Follow after → Begins (P other) input after
    → (other ≡ value) × (after ≡ rest))

-- The result is the only import at the start of `input`, with the rest after the import, or None if there is
-- no import.
abbrev pub ReadsImport : (List ℕ → Import → List ℕ → Type 0) → List ℕ → Option (List ℕ × Import) → Type 0
ReadsImport G input None = (import : Import) (rest : List ℕ) → G input import rest → ⊥
ReadsImport G input (Some (rest, import)) =
    G input import rest
    × ((other : Import) (after : List ℕ) → G input other after
    → (other ≡ import) × (after ≡ rest))

-- like `ReadsImport`, for a result without the rest
abbrev pub ReadsImportAlone : (List ℕ → Import → List ℕ → Type 0) → List ℕ → Option Import → Type 0
ReadsImportAlone G input result =
    (rest : List ℕ) × ReadsImport G input (option_map (λ import. (rest, import)) result)

-- the results of parsers as lists of characters: the rest, alone or with what was read
abbrev pub rest_of : Option (Bor (List ℕ)) → Option (List ℕ × Unit {0})
rest_of result = option_map (λ rest. (chars rest.now, tt)) result

abbrev pub chars_of : Option (Bor (List ℕ)) → Option (List ℕ)
chars_of text = option_map (λ text. chars text.now) text

abbrev pub rest_and_text : Option (Bor (List ℕ) × Bor (List ℕ)) → Option (List ℕ × List ℕ)
rest_and_text result = option_map (λ found. (chars found.0.now, chars found.1.now)) result

abbrev pub rest_and_attribute : Option (Bor (List ℕ) × (Bor (List ℕ) × Bor (List ℕ)))
    → Option (List ℕ × Attribute)
rest_and_attribute result =
    option_map
    (λ found. (chars found.0.now, record { key = chars found.1.0.now; value = chars found.1.1.now }))
    result

abbrev pub rest_and_mode : Option (Bor (List ℕ) × Mode) → Option (List ℕ × Mode)
rest_and_mode result = option_map (λ found. (chars found.0.now, found.1)) result

abbrev pub rest_and_import : Option (Bor (List ℕ) × JsDocImport) → Option (List ℕ × Import)
rest_and_import None = None
rest_and_import (Some (rest, import)) = Some (chars rest.now, import_of import)
