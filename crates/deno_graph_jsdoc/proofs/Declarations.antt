-- Declarations: a clause, and then a source.
use Rattle.std.proofs.Common.{ℕ, Option, Some, None, List, refl, codes, option_map}
use Rattle.std.specs.Str.{skip_leading_whitespace}
use Rattle.deno_graph_jsdoc.specs.Characters.{closing_brace}
use Rattle.deno_graph_jsdoc.specs.JsDocGrammar.{◌·◌, Is, IsSpace, IsGap, IsClause, Lacks, Begins, Anything}
use Rattle.deno_graph_jsdoc.specs.JsDocGrammar.{NoSpace}
use Rattle.deno_graph_jsdoc.specs.internal.Reading.{ReadsImport, IsDeclarationEnd, IsSource, Reads}
use Rattle.deno_graph_jsdoc.specs.JsDocImport.{Import, IsDeclaration, EndsDeclaration, byte_count, moved}
use Rattle.deno_graph_jsdoc.proofs.Clauses.{Head, clause_names, clause_unclosed, head_read, names_read}
use Rattle.deno_graph_jsdoc.proofs.Clauses.{names_unclosed}
use Rattle.deno_graph_jsdoc.proofs.Imports.{no_first, after_first}
use Rattle.deno_graph_jsdoc.proofs.Readings.{IsSolid-word, NoSpace-before, regroup_3, ungroup_3, textwise}

abbrev First : List ℕ → Type 0
First = IsGap · IsClause · IsSpace

abbrev From : List ℕ → Type 0
From = Is (codes "from") · IsSpace

abbrev Whole : List ℕ → Type 0
Whole = IsGap · IsClause · IsSpace · Is (codes "from") · IsSpace

apart : (text : List ℕ) → Whole text → (First · From) text
apart = textwise (λ input rest b. regroup_3 b)

together : (text : List ℕ) → (First · From) text → Whole text
together = textwise (λ input rest b. ungroup_3 b)

follows : (middle rest : List ℕ) → NoSpace rest → Begins From middle rest → NoSpace middle
follows middle rest _ b = NoSpace-before (IsSolid-word 102 (codes "rom") refl) b

pub no_clause : (input : List ℕ) → Reads NoSpace Head input None → ReadsImport IsDeclarationEnd input None
no_clause input none = no_first NoSpace First From Whole EndsDeclaration apart together follows input none

pub after_clause : (input middle : List ℕ) (head : Reads NoSpace Head input (Some (middle, tt)))
    (o : Option (List ℕ × Import)) → ReadsImport IsSource middle o
    → ReadsImport IsDeclarationEnd input (option_map (λ x. (x.0, moved (byte_count head.0.piece) x.1)) o)
after_clause input middle head o source =
    after_first NoSpace First From Whole EndsDeclaration apart together follows input middle head o source

-- a declaration of names in braces, by the text after the closing brace
module _ (input clause inside : List ℕ)
    (gap : Reads NoSpace (λ (_ : Unit {0}). IsGap) input (Some (clause, tt)))
    (opens : Reads Anything (λ (_ : Unit {0}). Is (codes "{")) clause (Some (inside, tt))) where
  pub names_without_end : Reads Anything (λ (_ : Unit {0}). Lacks closing_brace · Is (codes "}")) inside None
      → ReadsImport IsDeclarationEnd input None
  names_without_end none =
      no_clause input (head_read input clause None gap
      (clause_unclosed clause inside opens.0 (names_unclosed clause inside opens none)))

  module _ (after : List ℕ) (close : Reads Anything
      (λ (_ : Unit {0}). Lacks closing_brace · Is (codes "}")) inside (Some (after, tt))) where
    pub names_head : Reads NoSpace Head input (Some (skip_leading_whitespace after, tt))
    names_head =
        head_read input clause (Some (skip_leading_whitespace after, tt)) gap
        (clause_names clause (skip_leading_whitespace after) (names_read clause inside opens after close))

-- the first word of a declaration
abbrev pub AtWord : Unit {0} → List ℕ → Type 0
AtWord _ = Is (codes "@import")

pub no_word : (input : List ℕ) → Reads Anything AtWord input None → ReadsImport IsDeclaration input None
no_word input none =
    no_first Anything (AtWord tt) Whole (AtWord tt · Whole) EndsDeclaration (λ _ is. is) (λ _ is. is)
    (λ _ _ _ _. tt) input none

pub after_word : (input middle : List ℕ) (word : Reads Anything AtWord input (Some (middle, tt)))
    (o : Option (List ℕ × Import)) → ReadsImport IsDeclarationEnd middle o
    → ReadsImport IsDeclaration input (option_map (λ x. (x.0, moved (byte_count word.0.piece) x.1)) o)
after_word input middle word o found =
    after_first Anything (AtWord tt) Whole (AtWord tt · Whole) EndsDeclaration (λ _ is. is) (λ _ is. is)
    (λ _ _ _ _. tt) input middle word o found
