-- Each text begins with exactly one declaration, or with none.
use Rattle.std.proofs.Common.{◌≡◌, ℕ, Option, Some, None, List, refl, codes, option_map}
use Rattle.std.specs.Str.{skip_leading_whitespace}
use Rattle.deno_graph_jsdoc.specs.Characters.{closing_brace}
use Rattle.deno_graph_jsdoc.specs.JsDocGrammar.{◌·◌, Is, IsSpace, IsGap, IsQuote, IsIdent, IsWith, IsClause}
use Rattle.deno_graph_jsdoc.specs.JsDocGrammar.{IsNames, IsNamespace, IsName, Lacks, Anything, NoSpace}
use Rattle.deno_graph_jsdoc.specs.internal.Reading.{IsDeclarationEnd, IsSource, EndOfIdent, Reads}
use Rattle.deno_graph_jsdoc.specs.JsDocImport.{Mode, IsDeclaration, EndsDeclaration, moved, byte_count}
use Rattle.deno_graph_jsdoc.proofs.Clauses.{Head, name_none, name_read, namespace_no_star, namespace_no_as}
use Rattle.deno_graph_jsdoc.proofs.Clauses.{namespace_no_gap, namespace_read, names_unopened, names_unclosed}
use Rattle.deno_graph_jsdoc.proofs.Clauses.{names_read, clause_names, clause_namespace, clause_name}
use Rattle.deno_graph_jsdoc.proofs.Clauses.{head_no_gap, head_read}
use Rattle.deno_graph_jsdoc.proofs.Declarations.{AtWord, no_clause, after_clause, no_word, after_word}
use Rattle.deno_graph_jsdoc.proofs.Imports.{no_head, no_quote, import_read, ends_with, ends_without}
use Rattle.deno_graph_jsdoc.proofs.ExistenceOfParts.{HasResult, read_word, read_token, read_gap, read_quote}
use Rattle.deno_graph_jsdoc.proofs.ExistenceOfParts.{read_ident, read_through, read_with, Parsed, import_at}

-- the clause of a declaration
read_name : (input : List ℕ) → HasResult NoSpace (λ (_ : Unit {0}). IsName) input
read_name input = by_ident (read_ident input).0 (read_ident input).1
  where
    by_ident : (o : Option (List ℕ × List ℕ)) → Reads EndOfIdent
        (λ name text. IsIdent text × (name ≡ text)) input o
        → HasResult NoSpace (λ (_ : Unit {0}). IsName) input
    by_ident None none = (None, name_none input none)
    by_ident (Some x) found =
        ((read_gap x.0).0, name_read input x.0 x.1 (read_gap x.0).0 found (read_gap x.0).1)

read_namespace : (input : List ℕ) → HasResult NoSpace (λ (_ : Unit {0}). IsNamespace) input
read_namespace input = by_star (read_token (codes "*") input).0 (read_token (codes "*") input).1
  where
    by_gap : (x y : List ℕ × Unit {0}) → Reads NoSpace (λ (_ : Unit {0}). Is (codes "*") · IsSpace) input
        (Some x) → Reads Anything (λ (_ : Unit {0}). Is (codes "as")) x.0 (Some y)
        → (o : Option (List ℕ × Unit {0})) → Reads NoSpace (λ (_ : Unit {0}). IsGap) y.0 o
        → HasResult NoSpace (λ (_ : Unit {0}). IsNamespace) input
    by_gap x y star as_word None none = (None, namespace_no_gap input x.0 star y.0 as_word none)
    by_gap x y star as_word (Some z) gap = (
      (read_name z.0).0,
      namespace_read input x.0 star y.0 as_word z.0
          (read_name z.0).0 gap (read_name z.0).1,
    )

    by_as : (x : List ℕ × Unit {0}) → Reads NoSpace (λ (_ : Unit {0}). Is (codes "*") · IsSpace) input
        (Some x) → (o : Option (List ℕ × Unit {0}))
        → Reads Anything (λ (_ : Unit {0}). Is (codes "as")) x.0 o
        → HasResult NoSpace (λ (_ : Unit {0}). IsNamespace) input
    by_as x star None none = (None, namespace_no_as input x.0 star none)
    by_as x star (Some y) as_word = by_gap x y star as_word (read_gap y.0).0 (read_gap y.0).1

    by_star : (o : Option (List ℕ × Unit {0})) → Reads NoSpace (λ (_ : Unit {0}). Is (codes "*") · IsSpace)
        input o → HasResult NoSpace (λ (_ : Unit {0}). IsNamespace) input
    by_star None none = (None, namespace_no_star input none)
    by_star (Some x) star = by_as x star (read_word (codes "as") x.0).0 (read_word (codes "as") x.0).1

read_names : (input : List ℕ) → HasResult NoSpace (λ (_ : Unit {0}). IsNames · IsSpace) input
read_names input = by_open (read_word (codes "{") input).0 (read_word (codes "{") input).1
  where
    by_close : (x : List ℕ × Unit {0}) → Reads Anything (λ (_ : Unit {0}). Is (codes "{")) input (Some x)
        → (o : Option (List ℕ × Unit {0}))
        → Reads Anything (λ (_ : Unit {0}). Lacks closing_brace · Is (codes "}")) x.0 o
        → HasResult NoSpace (λ (_ : Unit {0}). IsNames · IsSpace) input
    by_close x opens None none = (None, names_unclosed input x.0 opens none)
    by_close x opens (Some y) close =
        (Some (skip_leading_whitespace y.0, tt), names_read input x.0 opens y.0 close)

    by_open : (o : Option (List ℕ × Unit {0})) → Reads Anything (λ (_ : Unit {0}). Is (codes "{")) input o
        → HasResult NoSpace (λ (_ : Unit {0}). IsNames · IsSpace) input
    by_open None none = (None, names_unopened input none)
    by_open (Some x) opens = by_close x opens (read_through x.0).0 (read_through x.0).1

read_clause : (input : List ℕ) → HasResult NoSpace (λ (_ : Unit {0}). IsClause · IsSpace) input
read_clause input = by_names (read_names input).0 (read_names input).1
  where
    by_namespace : Reads NoSpace (λ (_ : Unit {0}). IsNames · IsSpace) input None
        → (o : Option (List ℕ × Unit {0})) → Reads NoSpace (λ (_ : Unit {0}). IsNamespace) input o
        → HasResult NoSpace (λ (_ : Unit {0}). IsClause · IsSpace) input
    by_namespace no_names (Some x) found = (Some (x.0, tt), clause_namespace input no_names x.0 found)
    by_namespace no_names None none =
        ((read_name input).0, clause_name input no_names (read_name input).0 none (read_name input).1)

    by_names : (o : Option (List ℕ × Unit {0})) → Reads NoSpace (λ (_ : Unit {0}). IsNames · IsSpace) input o
        → HasResult NoSpace (λ (_ : Unit {0}). IsClause · IsSpace) input
    by_names (Some x) found = (Some (x.0, tt), clause_names input x.0 found)
    by_names None none = by_namespace none (read_namespace input).0 (read_namespace input).1

read_head : (input : List ℕ) → HasResult NoSpace Head input
read_head input = by_gap (read_gap input).0 (read_gap input).1
  where
    by_gap : (o : Option (List ℕ × Unit {0})) → Reads NoSpace (λ (_ : Unit {0}). IsGap) input o
        → HasResult NoSpace Head input
    by_gap None none = (None, head_no_gap input none)
    by_gap (Some x) gap =
        ((read_clause x.0).0, head_read input x.0 (read_clause x.0).0 gap (read_clause x.0).1)

-- declarations
abbrev From : Unit {0} → List ℕ → Type 0
From _ = Is (codes "from") · IsSpace

read_source : (input : List ℕ) → Parsed IsSource input
read_source input = by_from (read_token (codes "from") input).0 (read_token (codes "from") input).1
  where
    by_with : (x : List ℕ × Unit {0}) → (head : Reads NoSpace From input (Some x)) → (v : List ℕ × List ℕ)
        → Reads Anything IsQuote x.0 (Some v) → (o : Option (List ℕ × Mode))
        → Reads Anything IsWith (skip_leading_whitespace v.0) o → Parsed IsSource input
    by_with x head v quote (Some m) found =
        let ends = ends_with v.0 m.1 m.0 found in
        let import = import_at (byte_count head.0.piece) v.1 m.1 in (
          Some (m.0, import),
          import_read
              (From tt) EndsDeclaration input x.0 head v.0 v.1 quote import m.0 refl refl refl ends.0 ends.1,
        )
    by_with x head v quote None none =
        let ends = ends_without v.0 none in
        let import = import_at (byte_count head.0.piece) v.1 None in (
          Some (skip_leading_whitespace v.0, import),
          import_read (From tt) EndsDeclaration input x.0 head v.0 v.1
              quote import (skip_leading_whitespace v.0) refl refl refl ends.0 ends.1,
        )

    by_quote : (x : List ℕ × Unit {0}) → Reads NoSpace From input (Some x) → (o : Option (List ℕ × List ℕ))
        → Reads Anything IsQuote x.0 o → Parsed IsSource input
    by_quote x head None none = (None, no_quote (From tt) EndsDeclaration input x.0 head none)
    by_quote x head (Some v) quote = by_with x head v quote (read_with (skip_leading_whitespace v.0)).0
        (read_with (skip_leading_whitespace v.0)).1

    by_from : (o : Option (List ℕ × Unit {0})) → Reads NoSpace From input o → Parsed IsSource input
    by_from None none = (None, no_head (From tt) EndsDeclaration input none)
    by_from (Some x) head = by_quote x head (read_quote x.0).0 (read_quote x.0).1

pub read_declaration : (input : List ℕ) → Parsed IsDeclaration input
read_declaration input = by_word (read_word (codes "@import") input).0 (read_word (codes "@import") input).1
  where
    by_head : (middle : List ℕ) (o : Option (List ℕ × Unit {0})) → Reads NoSpace Head middle o
        → Parsed IsDeclarationEnd middle
    by_head middle None none = (None, no_clause middle none)
    by_head middle (Some x) head = (
      option_map (λ y. (y.0, moved (byte_count head.0.piece) y.1)) (read_source x.0).0,
      after_clause middle x.0 head (read_source x.0).0 (read_source x.0).1,
    )

    by_word : (o : Option (List ℕ × Unit {0})) → Reads Anything AtWord input o → Parsed IsDeclaration input
    by_word None none = (None, no_word input none)
    by_word (Some x) word =
        let end = by_head x.0 (read_head x.0).0 (read_head x.0).1 in (
          option_map (λ y. (y.0, moved (byte_count word.0.piece) y.1)) end.0,
          after_word input x.0 word end.0 end.1,
        )
