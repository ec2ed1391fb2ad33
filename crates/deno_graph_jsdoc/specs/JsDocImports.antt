-- The imports in the text of a comment, as a set, and the sites where imports may begin.
use Rattle.std.specs.Prelude.{◌≡◌, ◌<◌, ◌⊎◌, ◌↔◌, ℕ, ◌+◌, Bool, List, [], ◌∷◌, ◌++◌, length, take, codes}
use Rattle.std.specs.Prelude.{if◌then◌else◌}
use Rattle.std.specs.List.{AllPairs, Contains}
use Rattle.std.specs.Str.{bytes_eq}
use Rattle.deno_graph_jsdoc.specs.JsDocGrammar.{◌·◌, Anything, Is, IsUpTo}
use Rattle.deno_graph_jsdoc.specs.JsDocImport.{Import, IsDeclaration, IsDynamicImport, moved, byte_count}

-- after some front of the text there is a dynamic import or a declaration of this import
pub record IsImportIn (text : List ℕ) (import : Import) : Type 0 where
  pub front : List ℕ
  pub back : List ℕ
  pub rest : List ℕ
  pub here : Import
  pub whole : text ≡ front ++ back
  pub begins : IsDynamicImport back here rest ⊎ IsDeclaration back here rest
  pub is_moved : import ≡ moved (byte_count front) here

-- the starts strictly ascend
abbrev pub Ascend : List Import → Type 0
Ascend imports = AllPairs (λ (import later : Import). import.start < later.start) imports

-- the list has exactly the imports in the text, and their starts strictly ascend
pub record AreImportsIn (text : List ℕ) (imports : List Import) : Type 0 where
  pub ascending : Ascend imports
  pub exact : (import : Import) → Contains imports import ↔ IsImportIn text import

-- the text begins with `front`
abbrev pub IsFront : List ℕ → List ℕ → Type 0
IsFront text front = (back : List ℕ) × (text ≡ front ++ back)

-- the list has exactly the fronts of the text that have `P`, by ascending length
pub record AreFronts (P : List ℕ → Type 0) (text : List ℕ) (fronts : List (List ℕ)) : Type 0 where
  pub ascending : AllPairs (λ (front longer : List ℕ). length front < length longer) fronts
  pub exact : (front : List ℕ) → Contains fronts front ↔ (IsFront text front × P front)

-- `count` fronts of the text have `P`
abbrev pub HasFronts : (List ℕ → Type 0) → List ℕ → ℕ → Type 0
HasFronts P text count = (fronts : List (List ℕ)) × AreFronts P text fronts × (count ≡ length fronts)

-- the text ends with an `import` that is the first after some `{`, and no `}` is between
abbrev pub EndsAtDynamicImport : List ℕ → Type 0
EndsAtDynamicImport = Anything · Is (codes "{") · IsUpTo (codes "import")

-- the text ends with `@import`
abbrev pub EndsAtDeclaration : List ℕ → Type 0
EndsAtDeclaration = Anything · Is (codes "@import")

abbrev pub begins_with : List ℕ → List ℕ → Bool
begins_with word text = bytes_eq (take (length word) text) word

-- the number of occurrences of `word` in the text; `word` isn't empty
abbrev pub occurrences : List ℕ → List ℕ → ℕ
occurrences word [] = 0
occurrences word (c ∷ cs) = (if begins_with word (c ∷ cs) then 1 else 0) + occurrences word cs
